use Rattle.std.proofs.Common.{◌≡◌, ◌+◌, ◌++◌, [], ◌∷◌, length, slice_index, ap, sym, ◌∙◌, arith}
use Rattle.sabr_search.proofs.ForwardLemmas.LayerEntries.{read_at}
use Rattle.sabr_search.proofs.BackwardLemmas.LateMade.{back_first, back_next, linked_first}
use Rattle.sabr_search.proofs.BackwardLemmas.Whole.{before_last, whole_of}
use Rattle.sabr_search.proofs.backward.deadlines.Deadlines.make_all.Goals as goal

pub loop-left-init : goal.loop-left-init
loop-left-init g c =
    let first = c.in_ok-first_back.ensures in
    record {
      made = back_first c.args.aim.now.task.now c.requires.task c.args.aim.now.since.now c.args.aim.now.delivery _ _ _ _ first.ends first.entries first.flags first.place first.many first.deadline first.none;
      linked = rw (first.entries, first.linked) (linked_first _);
    }

pub next_back-requires-clause-growing : goal.next_back-requires-clause-growing
next_back-requires-clause-growing g c =
    let made = c.loop-left.invariant.made in
    record { task = c.requires.task; arrivals = c.requires.arrivals.flags; bounded = omega (arith, made.bounds_are.many); lists = made.lists; linked = c.loop-left.invariant.linked }

pub next_back-requires-clause-apart : goal.next_back-requires-clause-apart
next_back-requires-clause-apart g c = c.loop-left.invariant.made.apart c.loop-left.left (omega arith)

pub loop-left-preserved : goal.loop-left-preserved
loop-left-preserved g c =
    let left = c.loop-left.left in
    let old = c.loop-left.self in
    let next = c.next_back.new.self in
    let one = c.in_ok-next_back.ensures in
    let same_ends : next.ends.items ≡ old.ends.items = ap (λ v. v.items) one.grown.ends in
    let many : c.len-end.result ≡ length next.entries.items = omega (arith, c.len-end.ensures, next.entries.ok.0) in
    record {
      made = back_next c.args.aim.now.task.now c.requires.task c.args.aim.now.since.now c.args.aim.now.delivery left old.ends.items old.deadline.items old.place.items old.entries.items c.loop-left.invariant.made
          c.push.new.self.items next.deadline.items next.place.items next.entries.items (rw one.grown.ends at one.grown.growing.lists) one.grown.before one.in_time
          (c.in_ok-push.ensures.items ∙ ap (λ xs. xs ++ c.len-end.result ∷ []) same_ends ∙ ap (λ k. old.ends.items ++ k ∷ []) many);
      linked = one.grown.growing.linked;
    }

pub returns-then-index : goal.returns-then-index
returns-then-index g c =
    let left = c.loop-left.left in
    let old = c.loop-left.self in
    let made = c.loop-left.invariant.made in
    let empty : slice_index old.ends.items left ≡ slice_index old.ends.items (left + 1) =
    sym (read_at old.ends.items left c.index.result.now (omega (arith, made.bounds_are.many)) c.index.ensures) ∙ c.if-index.true ∙ read_at old.ends.items (left + 1) c.index-in-loop-left.result.now (omega (arith, made.bounds_are.many)) c.index-in-loop-left.ensures in
    record { whole = λ most. whole_of c.args.aim.now.task.now c.requires.task _ _ left old made c.loop-left.invariant.linked most (λ j v x less. before_last c.args.aim.now.task.now c.requires.task _ _ left old made empty j v x) }
