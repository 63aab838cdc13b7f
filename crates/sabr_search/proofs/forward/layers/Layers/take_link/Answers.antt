use Rattle.std.proofs.Common.{◌≡◌, ◌≢◌, ℕ, ◌<◌, inl, inr, length, false, slice_index, slice_index_or, refl, ap, sym, ◌∙◌, arith}
use Rattle.std.proofs.lemmas.List.{get_or-set_same, length-set}
use Rattle.std.proofs.lemmas.Bool.{false_from_ne_true}
use Rattle.sabr_search.specs.questions.Task.{Takes}
use Rattle.sabr_search.proofs.ForwardLemmas.MadeLayers.{goal_unreached}
use Rattle.sabr_search.proofs.ForwardLemmas.Forward.{known_old, lowered_none}
use Rattle.sabr_search.proofs.ForwardLemmas.Queues.{set_falls}
use Rattle.sabr_search.proofs.LinkLemmas.OverLinks.{over_pass, step_over}
use Rattle.sabr_search.proofs.forward.layers.Layers.take_link.Goals as goal

pub returns-then-arrival-before-clause-lowered : goal.returns-then-arrival-before-clause-lowered
returns-then-arrival-before-clause-lowered g c = lowered_none _ _ _ _ _ _ _ _ _ c.requires.lists

pub returns-then-arrival-before-clause-known : goal.returns-then-arrival-before-clause-known
returns-then-arrival-before-clause-known g c = λ n w x has s.
    let task = c.args.task.now in
    let u = c.args.link.from in
    let t = c.args.at in
    let over = over_pass task c.requires.task u c.args.link.to t has.1 w x (c.requires.link.0.each has.0 has.1 has.2) (step_over task c.args.link.passes.now n u t w x has s) in
    rw over.receiver (known_old task.goal c.args.self.now.arrival.items c.args.layer.best c.args.link.to x (omega (arith, goal_unreached task c.requires.task c.args.layer.begin _ _ _ c.requires.lists)) (omega (arith, rw c.deref.ensures.value at c.news_before-before.ensures, c.if-arrival-before.true, c.arrive_over-arrival.ensures.full n w x has s)))

pub returns-then-to-goal-clause-lowered : goal.returns-then-to-goal-clause-lowered
returns-then-to-goal-clause-lowered g c =
    let task = c.args.task.now in
    let same : c.args.link.to ≡ task.goal = c.if-to-goal.true ∙ c.goal.ensures in
    let step = c.arrive_over-arrival.ensures.sound c.if-arrival-before.false (ap (λ k. slice_index_or task.forbidden k false) same ∙ c.requires.task.goal_open) in
    record {
      lists = c.requires.lists;
      lower = omega (arith, c.if-arrival-before.false, c.news_before-before.ensures);
      lowered = λ k. omega arith;
      before = refl;
      adds = λ p d within. inl (within, refl);
      found = inr (rw same at step);
    }

pub returns-then-to-goal-clause-known : goal.returns-then-to-goal-clause-known
returns-then-to-goal-clause-known g c = λ n w x has s. inl (c.arrive_over-arrival.ensures.full n w x has s)

pub returns-clause-lowered : goal.returns-clause-lowered
returns-clause-lowered g c =
    let task = c.args.task.now in
    let own = c.args.self.now in
    let w = c.args.link.to in
    let b = c.arrive_over-arrival.result in
    let was = c.requires.lists in
    let other : w ≢ task.goal = λ same. c.if-to-goal.false (same ∙ sym c.goal.ensures) in
    let within : w < length own.arrival.items = omega (arith, was.flags, c.requires.task.as_many, c.requires.receiver) in
    let less : b < slice_index own.arrival.items w = omega (arith, c.if-arrival-before.false, rw c.deref.ensures.value at c.news_before-before.ensures) in
    let open' : slice_index_or task.forbidden w false ≡ false = false_from_ne_true (slice_index_or task.forbidden w false) (λ on. omega (arith, was.closed w on, less, c.arrive_over-arrival.ensures.later c.if-arrival-before.false, c.requires.since)) in
    let step : (n : ℕ) × Takes task n c.args.link.from c.args.at w b = c.arrive_over-arrival.ensures.sound c.if-arrival-before.false open' in
    let noted = c.in_ok-note.ensures in
    record {
      lists = record {
        flags = rw noted.arrivals (length-set own.arrival.items w b ∙ was.flags);
        closed = λ k on. rw noted.arrivals (omega (arith, set_falls own.arrival.items w b within less k, was.closed k on));
        placed = noted.placed;
        linked = noted.linked task.forbidden was.linked;
        layer = noted.layer;
        inside = λ p d inside. elim (noted.entries p d inside) [
          | inl old ↦ rw old.1 (was.inside p d old.0)
          | inr here ↦ omega (arith, here.0, was.flags, within)
        ];
        other = λ p d inside. elim (noted.entries p d inside) [
          | inl old ↦ rw old.1 (was.other p d old.0)
          | inr here ↦ rw here.0 other
        ];
        by = λ p d inside. elim (noted.entries p d inside) [
          | inl old ↦ rw (noted.arrivals, old.1) (omega (arith, set_falls own.arrival.items w b within less (slice_index_or own.reached.items p d).node, was.by p d old.0))
          | inr here ↦ rw (noted.arrivals, here.0, here.1) (omega (arith, get_or-set_same own.arrival.items w b 0 within))
        ];
      };
      lower = omega arith;
      lowered = λ k. rw noted.arrivals (set_falls own.arrival.items w b within less k);
      before = noted.before;
      adds = λ p d inside. elim (noted.entries p d inside) [
        | inl old ↦ inl old
        | inr here ↦ inr (rw (here.0, here.1) step)
      ];
      found = inl refl;
    }

pub returns-clause-known : goal.returns-clause-known
returns-clause-known g c = λ n w x has s.
    let task = c.args.task.now in
    let own = c.args.self.now in
    let u = c.args.link.from in
    let t = c.args.at in
    let to = c.args.link.to in
    let other : to ≢ task.goal = λ same. c.if-to-goal.false (same ∙ sym c.goal.ensures) in
    let within : to < length own.arrival.items = omega (arith, c.requires.lists.flags, c.requires.task.as_many, c.requires.receiver) in
    let over = over_pass task c.requires.task u to t has.1 w x (c.requires.link.0.each has.0 has.1 has.2) (step_over task c.args.link.passes.now n u t w x has s) in
    rw (over.receiver, c.in_ok-note.ensures.arrivals) (inr (other, omega (arith, get_or-set_same own.arrival.items to c.arrive_over-arrival.result 0 within, c.arrive_over-arrival.ensures.full n w x has s)))
