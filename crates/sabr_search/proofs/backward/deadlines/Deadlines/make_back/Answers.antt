use Rattle.std.proofs.Common.{◌≡◌, ◌+◌, ◌++◌, [], ◌∷◌, length, slice_index, ap, sym, ◌∙◌, arith}
use Rattle.std.proofs.lemmas.Option.{slice_get_within}
use Rattle.sabr_search.specs.declared.visit.Visit.{Visit}
use Rattle.sabr_search.proofs.ForwardLemmas.LayerEntries.{read_at}
use Rattle.sabr_search.proofs.ForwardLemmas.MadeLayers.{spent_more, spent_fewer, none_more}
use Rattle.sabr_search.proofs.BackwardLemmas.LateMade.{back_first, late_next, linked_first, met_by, unmet_by}
use Rattle.sabr_search.proofs.BackwardLemmas.Whole.{are_met, own_dead, before_last}
use Rattle.sabr_search.proofs.AnswerLemmas.BoundedWays.{stops_by}
use Rattle.sabr_search.proofs.backward.deadlines.Deadlines.make_back.Goals as goal

pub loop-left-init : goal.loop-left-init
loop-left-init g c =
    let first = c.in_ok-first_back.ensures in
    record {
      counted = omega arith;
      made = record {
        layers = back_first c.args.aim.now.task.now c.requires.task c.args.aim.now.since.now c.args.aim.now.delivery _ _ _ _ first.ends first.entries first.flags first.place first.many first.deadline first.none;
        unmet = λ j w x n b less e by step. absurd (omega arith);
      };
      linked = rw (first.entries, first.linked) (linked_first _);
    }

pub is_met-requires : goal.is_met-requires
is_met-requires g c = λ k s at.
    let step = (c.requires.real k s at).1 in
    omega (arith, slice_get_within c.args.aim.now.task.now.table s.node step.contact.to step.receiver, c.loop-left.invariant.made.layers.lists.many)

pub next_back-requires-clause-growing : goal.next_back-requires-clause-growing
next_back-requires-clause-growing g c =
    let made = c.loop-left.invariant.made.layers in
    record { task = c.requires.task; arrivals = c.requires.arrivals.flags; bounded = omega (arith, made.bounds_are.many); lists = made.lists; linked = c.loop-left.invariant.linked }

pub next_back-requires-clause-apart : goal.next_back-requires-clause-apart
next_back-requires-clause-apart g c = c.loop-left.invariant.made.layers.apart c.loop-left.left (omega arith)

pub returns-then-is_met-clause-made : goal.returns-then-is_met-clause-made
returns-then-is_met-clause-made g c =
    let task = c.args.aim.now.task.now in
    let own = c.loop-left.self in
    let made = c.loop-left.invariant.made in
    let by = c.is_met.ensures.met c.if-is_met.true in
    let s : Visit = by.1 in
    let step = c.requires.real by.0 s by.2 in
    (c.loop-left-test.true, spent_fewer _ _ _ _ _ (omega arith) c.loop-left.invariant.counted, are_met task c.requires.task _ c.requires.arrivals _ c.loop-left.left own made c.loop-left.invariant.linked (met_by task _ _ c.loop-left.left own.ends.items own.deadline.items own.place.items own.entries.items made step.0 s.node s.at step.1 by.3))

pub loop-left-preserved : goal.loop-left-preserved
loop-left-preserved g c =
    let task = c.args.aim.now.task.now in
    let left = c.loop-left.left in
    let old = c.loop-left.self in
    let next = c.next_back.new.self in
    let made = c.loop-left.invariant.made in
    let one = c.in_ok-next_back.ensures in
    let same_ends : next.ends.items ≡ old.ends.items = ap (λ v. v.items) one.grown.ends in
    let many : c.len-end.result ≡ length next.entries.items = omega (arith, c.len-end.ensures, next.entries.ok.0) in
    record {
      counted = omega (arith, c.next_back.ensures.counted, c.loop-left.invariant.counted);
      made = late_next task c.requires.task c.args.aim.now.since.now c.args.aim.now.delivery left old.ends.items old.deadline.items old.place.items old.entries.items made.layers
          c.push.new.self.items next.deadline.items next.place.items next.entries.items (rw one.grown.ends at one.grown.growing.lists) one.grown.before one.in_time
          (c.in_ok-push.ensures.items ∙ ap (λ xs. xs ++ c.len-end.result ∷ []) same_ends ∙ ap (λ k. old.ends.items ++ k ∷ []) many)
          made.unmet
          (λ w x n b entry by step.
          let s = c.requires.steps n w b step in
          let node : s.1.node ≡ w = s.3 in
          unmet_by task _ _ left old.ends.items old.deadline.items old.place.items old.entries.items made n w b step left x entry (omega (arith, c.is_met.ensures.unmet c.if-is_met.false s.0 s.1 s.2, s.4, ap (slice_index old.deadline.items) node)) by);
      linked = one.grown.growing.linked;
    }

pub returns-then-index-clause-made : goal.returns-then-index-clause-made
returns-then-index-clause-made g c =
    let left = c.loop-left.left in
    let old = c.loop-left.self in
    let made = c.loop-left.invariant.made in
    let empty : slice_index old.ends.items left ≡ slice_index old.ends.items (left + 1) =
    sym (read_at old.ends.items left c.index.result.now (omega (arith, made.layers.bounds_are.many)) c.index.ensures) ∙ c.if-index.true ∙ read_at old.ends.items (left + 1) c.index-in-loop-left.result.now (omega (arith, made.layers.bounds_are.many)) c.index-in-loop-left.ensures in
    let dead = own_dead c.args.aim.now.task.now c.requires.task _ c.requires.arrivals _ left old made c.loop-left.invariant.linked c.args.hops (λ j v x less. before_last c.args.aim.now.task.now c.requires.task _ _ left old made.layers empty j v x) in
    λ ns e le way. dead ns c.args.aim.now.task.now.at e (omega arith) le way

pub returns-clause-made : goal.returns-clause-made
returns-clause-made g c =
    let dead = own_dead c.args.aim.now.task.now c.requires.task _ c.requires.arrivals _ c.loop-left.left c.loop-left.self c.loop-left.invariant.made c.loop-left.invariant.linked c.args.hops (λ j v x less e. omega (arith, less, c.loop-left-test.false)) in
    λ ns e le way. dead ns c.args.aim.now.task.now.at e (omega arith) le way

pub returns-then-is_met-clause-counted : goal.returns-then-is_met-clause-counted
returns-then-is_met-clause-counted g c = spent_fewer _ _ _ _ _ (omega arith) c.loop-left.invariant.counted

pub returns-then-index-clause-counted : goal.returns-then-index-clause-counted
returns-then-index-clause-counted g c = spent_fewer _ _ _ _ _ (omega arith) c.loop-left.invariant.counted

pub returns-in_err-next_back-clause-counted : goal.returns-in_err-next_back-clause-counted
returns-in_err-next_back-clause-counted g c = spent_more _ _ _ _ _ _ c.loop-left-test.true c.loop-left.invariant.counted c.next_back.ensures.counted

pub returns-in_err-next_back-clause-stops : goal.returns-in_err-next_back-clause-stops
returns-in_err-next_back-clause-stops g c =
    stops_by _ _ (λ is. none_more _ _ _ _ _ c.loop-left-test.true c.loop-left.invariant.counted (rw is at c.in_err-next_back.ensures.stops)) c.from_residual-in_err-next_back.result c.from_residual-in_err-next_back.ensures.1

pub returns-in_err-push-clause-counted : goal.returns-in_err-push-clause-counted
returns-in_err-push-clause-counted g c = spent_more _ _ _ _ _ _ c.loop-left-test.true c.loop-left.invariant.counted c.next_back.ensures.counted

pub returns-clause-counted : goal.returns-clause-counted
returns-clause-counted g c = spent_fewer _ _ _ _ _ (omega arith) c.loop-left.invariant.counted
