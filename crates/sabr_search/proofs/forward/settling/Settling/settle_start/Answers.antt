use Rattle.std.proofs.Common.{◌≡◌, inl, inr, refl, Some, length, slice_get, slice_index_or, ap, sym, ◌∙◌, arith}
use Rattle.std.proofs.lemmas.Option.{slice_get-get_or, slice_get_within}
use Rattle.sabr_search.specs.declared.visit.Visit.{Visit}
use Rattle.sabr_search.proofs.WayLemmas.RoutesAndWays.{same_some, takes_timely}
use Rattle.sabr_search.proofs.ForwardLemmas.Forward.{known_lower, known_old, known_later, last_or_before}
use Rattle.sabr_search.proofs.ForwardLemmas.FirstWays.{start_settled, start_state}
use Rattle.sabr_search.proofs.ForwardLemmas.Queues.{fallen_more}
use Rattle.sabr_search.proofs.forward.settling.Settling.settle_start.Goals as goal
use Rattle.sabr_search.proofs.forward.settling.Settling.settle_start.Goals.{then-step-before+in_ok-best, else-step-before}

pub loop-place-init : goal.loop-place-init
loop-place-init g c =
    let task = c.args.forward.now.task.now in
    record {
      settled = refl;
      state = rw (c.beginning-event.ensures, c.none-best.ensures) (start_state task c.requires.task c.args.self.now.settled.items _ task.start c.requires.settled refl refl _ _ _ _ c.requires.arrivals c.requires.bound _ _ _ c.requires.hops c.requires.queue refl c.requires.until);
      fallen = record { lower = omega arith; lowered = λ k. omega arith; kept = λ k on. refl };
      known = λ k s less. absurd (omega (arith, less));
    }

pub news_before-before-requires : goal.news_before-before-requires
news_before-before-requires g c =
    let none : Visit = record { node = 0; at = 0 } in
    let at = slice_get-get_or c.args.first.now c.loop-place.place none c.loop-place-test.true in
    omega (arith, slice_get_within c.args.forward.now.task.now.table _ _ (c.requires.real c.loop-place.place _ at).1.receiver, c.loop-place.invariant.state.flags, c.requires.task.as_many, ap length c.deref.ensures.value)

pub reach-requires-clause-receiver : goal.reach-requires-clause-receiver
reach-requires-clause-receiver g c =
    let none : Visit = record { node = 0; at = 0 } in
    slice_get_within c.args.forward.now.task.now.table _ _ (c.requires.real c.loop-place.place _ (slice_get-get_or c.args.first.now c.loop-place.place none c.loop-place-test.true)).1.receiver

pub reach-requires-clause-later : goal.reach-requires-clause-later
reach-requires-clause-later g c =
    let task = c.args.forward.now.task.now in
    let none : Visit = record { node = 0; at = 0 } in
    let step = c.requires.real c.loop-place.place _ (slice_get-get_or c.args.first.now c.loop-place.place none c.loop-place-test.true) in
    omega (arith, ap (λ (v : Visit). v.at) c.beginning-event.ensures, (takes_timely task c.requires.task.nodes).later step.0 task.start task.at _ _ step.1)

pub reach-requires-clause-step : goal.reach-requires-clause-step
reach-requires-clause-step g c = λ open'.
    let none : Visit = record { node = 0; at = 0 } in
    let at = slice_get-get_or c.args.first.now c.loop-place.place none c.loop-place-test.true in
    rw c.beginning-event.ensures (c.requires.real c.loop-place.place _ at)

pub loop-place-preserved : goal.loop-place-preserved
loop-place-preserved g c =
    let task = c.args.forward.now.task.now in
    let first = c.args.first.now in
    let i = c.loop-place.place in
    let none : Visit = record { node = 0; at = 0 } in
    let step : Visit = slice_index_or first i none in
    let here : slice_get first i ≡ Some step = slice_get-get_or first i none c.loop-place-test.true in
    let so_far = c.loop-place.invariant in
    elim c.if-step-before.branch [
      | then-step-before+in_ok-best w ↦ rw (w.self-is, w.best-is)
          (let gained = rw so_far.settled at w.in_ok-best.ensures.fallen in
          record {
            settled = ap (λ v. v.items) w.reach.ensures.settled ∙ so_far.settled;
            state = rw so_far.settled at w.in_ok-best.ensures.state;
            fallen = fallen_more _ _ _ _ _ _ _ so_far.fallen gained;
            known = λ k s less at. elim (last_or_before k i less) [
              | inl before ↦ known_lower task.goal _ _ _ _ s.node s.at gained.lowered (omega (arith, gained.lower)) (so_far.known k s before at)
              | inr same ↦ rw (same_some (sym at ∙ ap (slice_get first) same ∙ here)) w.in_ok-best.ensures.known
            ];
          })
      | else-step-before w ↦ rw (w.self-is, w.best-is)
          (record {
            settled = so_far.settled;
            state = so_far.state;
            fallen = so_far.fallen;
            known = λ k s less at. elim (last_or_before k i less) [
              | inl before ↦ so_far.known k s before at
              | inr same ↦
                  rw (same_some (sym at ∙ ap (slice_get first) same ∙ here))
                  (known_old task.goal c.loop-place.self.arrival.items _ step.node step.at (omega (arith, so_far.state.goal_late)) (omega (arith, rw c.deref.ensures.value at c.news_before-before.ensures, w.if-step-before.false)))
            ];
          })
    ]

pub returns-clause-state : goal.returns-clause-state
returns-clause-state g c =
    let forward = c.args.forward.now in
    let task = forward.task.now in
    let so_far = c.loop-place.invariant in
    start_settled task c.requires.task c.args.self.now.settled.items c.loop-place.self.settled.items c.beginning-event.result.node c.requires.settled (ap (λ (v : Visit). v.node) c.beginning-event.ensures) so_far.settled forward.until forward.deadline.now forward.costs.now c.args.self.now.arrival.items c.requires.arrivals
    c.beginning-event.result.at c.loop-place.self.arrival.items c.loop-place.self.hops.items c.loop-place.self.queue (record { delivery = forward.until; hops = 0 }) c.loop-place.best (rw so_far.settled so_far.state) (rw so_far.settled (rw c.none-best.ensures at so_far.fallen))
    (λ n w x s.
    (let on = c.requires.steps n w x s in
    known_later task.goal _ _ w on.1.at x on.4 (rw on.3 at (so_far.known on.0 on.1 (omega (arith, slice_get_within c.args.first.now on.0 on.1 on.2, c.loop-place-test.false)) on.2))))
