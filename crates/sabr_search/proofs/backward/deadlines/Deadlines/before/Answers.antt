use Rattle.std.proofs.Common.{◌≡◌, ◌-◌, ◌<◌, Some, length, slice_get, refl, ap, subst, sym, ◌∙◌, arith}
use Rattle.std.proofs.lemmas.Option.{slice_get_read, slice_get_within}
use Rattle.sabr_search.specs.declared.backward.deadlines.Deadline.{Deadline}
use Rattle.sabr_search.proofs.ForwardLemmas.LayerEntries.{read_at}
use Rattle.sabr_search.proofs.WayLemmas.RoutesAndWays.{same_some}
use Rattle.sabr_search.proofs.WholeLemmas.Chained.{IsLastTo, last_begins, last_goes, latest_here, latest_none}
use Rattle.sabr_search.proofs.backward.deadlines.Deadlines.before.Given.{Over}
use Rattle.sabr_search.proofs.backward.deadlines.Deadlines.before.Goals.{After-index}
use Rattle.sabr_search.proofs.backward.deadlines.Deadlines.before.Goals as goal

pub head-place-requires-clause-deadline : goal.head-place-requires-clause-deadline
head-place-requires-clause-deadline g c = omega (arith, c.requires.node, c.requires.chained.many)

pub head-place-requires-clause-within : goal.head-place-requires-clause-within
head-place-requires-clause-within g c = (c.requires.chained.last c.args.node c.requires.node).within

pub loop-place-init : goal.loop-place-init
loop-place-init g c = rw c.head-place.ensures (last_begins c.args.self.now.entries.items c.args.node c.args.end _ (c.requires.chained.last c.args.node c.requires.node))

pub index-place-requires : goal.index-place-requires
index-place-requires g c =
    let own = c.args.self.now in
    let there = c.loop-place.invariant.entry (omega (arith, c.loop-place-test.true)) in
    omega (arith, slice_get_within own.entries.items (c.loop-place.place - 1) _ there.1, c.requires.chained.linked.many, own.fewer.ok.0)

pub loop-place-smaller : goal.loop-place-smaller
loop-place-smaller g c =
    let own = c.args.self.now in
    let place = c.loop-place.place in
    let some : 0 < place = omega (arith, c.loop-place-test.true) in
    let there = c.loop-place.invariant.entry some in
    let linked = c.requires.chained.linked in
    let within : place - 1 < length own.fewer.items = omega (arith, slice_get_within own.entries.items (place - 1) _ there.1, linked.many) in
    omega (arith, some, (linked.each (place - 1) c.args.node there).within, read_at own.fewer.items (place - 1) c.index-place.result.now within c.index-place.ensures)

pub loop-place-preserved : goal.loop-place-preserved
loop-place-preserved g c =
    let own = c.args.self.now in
    let place = c.loop-place.place in
    let there = c.loop-place.invariant.entry (omega (arith, c.loop-place-test.true)) in
    let linked = c.requires.chained.linked in
    let within : place - 1 < length own.fewer.items = omega (arith, slice_get_within own.entries.items (place - 1) _ there.1, linked.many) in
    rw (read_at own.fewer.items (place - 1) c.index-place.result.now within c.index-place.ensures)
    (last_goes own.entries.items own.fewer.items c.args.node c.args.end place linked c.loop-place-test.true c.loop-place.invariant)

pub index-requires : goal.index-requires
index-requires g c =
    let own = c.args.self.now in
    let there = c.loop-place.invariant.entry (omega (arith, c.if-place-eq0.false)) in
    omega (arith, slice_get_within own.entries.items (c.loop-place.place - 1) _ there.1, own.entries.ok.0)

-- the entry that is read
read : (g : Over) (c : After-index g) → slice_get c.args.self.now.entries.items (c.loop-place.place - 1) ≡ Some (record { node = c.args.node; before = c.index.result.now.before })
read g c =
    let own = c.args.self.now in
    let place = c.loop-place.place in
    let there = c.loop-place.invariant.entry (omega (arith, c.if-place-eq0.false)) in
    let at : slice_get own.entries.items (place - 1) ≡ Some c.index.result.now = slice_get_read own.entries.items (length own.entries.items) (place - 1) c.index.result.now refl (slice_get_within own.entries.items (place - 1) _ there.1) c.index.ensures in
    let is : there.0 ≡ c.index.result.now.before = ap (λ (d : Deadline). d.before) (same_some (sym there.1 ∙ at)) in
    there.1 ∙ ap (λ x. Some (record { node = c.args.node; before = x })) is

pub returns-then-place-eq0-clause-latest : goal.returns-then-place-eq0-clause-latest
returns-then-place-eq0-clause-latest g c = latest_none c.args.self.now.entries.items c.args.node c.args.end (subst (IsLastTo c.args.self.now.entries.items c.args.node c.args.end) (omega (arith, c.if-place-eq0.true)) c.loop-place.invariant)

pub returns-clause-latest : goal.returns-clause-latest
returns-clause-latest g c = latest_here c.args.self.now.entries.items c.requires.chained.later c.args.node c.args.end c.loop-place.place c.index.result.now.before (omega (arith, c.if-place-eq0.false)) (read g (goal.at.returns-clause-latest g c).After-index) c.loop-place.invariant

pub returns-clause-met : goal.returns-clause-met
returns-clause-met g c = λ later. (c.loop-place.place - 1, omega (arith, c.if-place-eq0.false, c.loop-place-test.false), read g (goal.at.returns-clause-met g c).After-index)
