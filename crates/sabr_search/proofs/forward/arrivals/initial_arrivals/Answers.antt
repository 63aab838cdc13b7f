use Rattle.std.proofs.Common.{◌≡◌, inl, inr, ℕ, ◌<◌, Some, List, slice_get, slice_index, slice_index_or, slice_set, length, true, false, ap, sym, ◌∙◌, arith}
use Rattle.std.proofs.lemmas.Bool.{cases_eq, both_ways}
use Rattle.std.proofs.lemmas.Option.{slice_get-get_or, slice_get_within}
use Rattle.std.proofs.lemmas.Grind.{common_steps}
use Rattle.sabr_search.specs.questions.Task.{SearchTask, IsTask, never}
use Rattle.sabr_search.specs.layers.Lists.{AreOpened}
use Rattle.sabr_search.specs.answers.CachedAnswers.{AreListed}
use Rattle.sabr_search.proofs.WayLemmas.RoutesAndWays.{same_some}
use Rattle.sabr_search.proofs.ForwardLemmas.Forward.{last_or_before}
use Rattle.sabr_search.proofs.forward.arrivals.initial_arrivals.Goals as goal

-- what the list of the late seconds is once nothing improves a forbidden node and the start is reached
opened_but_forbidden : (task : SearchTask) → IsTask task → (deadline xs nodes : List ℕ) → length xs ≡ length task.forbidden →
    ((k : ℕ) → k < length xs → slice_index_or task.forbidden k false ≡ false → slice_index xs k ≡ slice_index_or deadline k never) →
    ((j k : ℕ) → slice_get nodes j ≡ Some k → slice_index_or task.forbidden k false ≡ true → slice_index xs k ≡ 0) →
    AreListed task.forbidden nodes → AreOpened task deadline (slice_set xs task.start task.at)
opened_but_forbidden task is deadline xs nodes many opened zero listed =
    let within : task.start < length xs = omega (arith, is.start_in, is.as_many, many) in
    record {
      flags = grind (arith, common_steps, many);
      closed = λ k on. elim (cases_eq k task.start) [
        | inl same ↦ grind (arith, common_steps, same, within)
        | inr other ↦ grind (arith, common_steps, other, zero (listed k on).0 k (listed k on).1 on)
      ];
      start = grind (arith, common_steps, within);
      unreached = λ k less off. elim (cases_eq k task.start) [
        | inl same ↦ absurd (both_ways (slice_index_or task.forbidden k false) off (ap (λ j. slice_index_or task.forbidden j false) same ∙ is.start_forbidden))
        | inr other ↦ grind (arith, common_steps, other, less, opened k (grind (arith, common_steps, less)) off)
      ];
    }

pub loop-place-preserved : goal.loop-place-preserved
loop-place-preserved g c =
    let so_far = c.loop-place.invariant in
    let forbidden = c.close_arrival.ensures in
    let nodes = c.forbidden_nodes-nodes.result.now in
    let i = c.loop-place.place in
    let here : slice_get nodes i ≡ Some (slice_index nodes i) = slice_get-get_or nodes i 0 c.loop-place-test.true in
    record {
      many = forbidden.many ∙ so_far.many;
      opened = λ k within off. forbidden.others k (rw c.forbidden-forbidden.ensures off) ∙ so_far.opened k (omega (arith, within, forbidden.many)) off;
      zero = λ j k less at on. elim (last_or_before j i less) [
        | inl before ↦ omega (arith, forbidden.falls k, so_far.zero j k before at on)
        | inr same ↦
            (let is : slice_index nodes i ≡ k = same_some (sym here ∙ ap (slice_get nodes) (sym same) ∙ at) in
            rw is at (forbidden.zero (rw (c.forbidden-forbidden.ensures, is) on)))
      ];
    }

pub returns : goal.returns
returns g c =
    let so_far = c.loop-place.invariant in
    rw (c.start.ensures, c.at.ensures) (opened_but_forbidden c.args.task.now c.requires c.args.deadline.now c.loop-place.arrival.items c.forbidden_nodes-nodes.result.now so_far.many so_far.opened
    (λ j k at on. so_far.zero j k (omega (arith, slice_get_within _ j k at, c.loop-place-test.false)) at on) c.forbidden_nodes-nodes.ensures)
