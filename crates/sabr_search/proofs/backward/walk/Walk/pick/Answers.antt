use Rattle.std.proofs.Common.{◌≡◌, ◌+◌, ◌-◌, ◌<◌, ◌∷◌, ◌++◌, [], length, refl, ap, sym, subst, ◌∙◌, arith, length-append}
use Rattle.std.proofs.lemmas.List.Elements.{All-push}
use Rattle.sabr_search.specs.declared.backward.walk.DeadEnd.{DeadEnd}
use Rattle.sabr_search.specs.declared.visit.Visit.{Visit}
use Rattle.sabr_search.specs.questions.Task.{Takes}
use Rattle.sabr_search.specs.questions.FirstSteps.{Leads}
use Rattle.sabr_search.specs.layers.WholeDeadlines.{AreDeadEnds, IsDeadEnd, IsStepOn, last_visit}
use Rattle.sabr_search.specs.layers.Picks.{IsPicked}
use Rattle.sabr_search.proofs.WholeLemmas.Walks.{AreStepsOn, degree_at_most, leads_more, start_of, numbers_of, visit_empty, steps_more, steps_fewer, steps_way, steps_inside, steps_picked, not_there}
use Rattle.sabr_search.specs.layers.Deadlines.{IsInTimeWithin}
use Rattle.sabr_search.proofs.ForwardLemmas.MadeLayers.{none_more, spent_fewer, spent_more}
use Rattle.sabr_search.proofs.WholeLemmas.Leaves.{level_fewer}
use Rattle.sabr_search.proofs.backward.walk.Walk.pick.Goals as goal

pub loop-self-init : goal.loop-self-init
loop-self-init g c =
    let task = c.args.task.now in
    record {
      delivery = refl;
      looked = omega arith;
      ends = c.requires.ends;
      less = subst (λ xs. length xs < c.args.hops) (sym c.clear.ensures.items) c.requires.some;
      steps = subst (AreStepsOn task c.args.self.now.delivery c.args.hops (start_of task)) (sym c.clear.ensures.items) tt;
      leads = λ lead. rw c.clear.ensures.items (record { none = lead.begun; counted = omega arith; met = λ dead. lead.met (subst (IsDeadEnd task c.args.self.now.delivery task.start task.at) (omega arith) dead) });
    }

pub links-links-requires-clause-node : goal.links-links-requires-clause-node
links-links-requires-clause-node g c =
    let task = c.args.task.now in
    subst (λ (v : Visit). v.node < length task.table) (sym c.here-from.ensures) (steps_inside task c.args.self.now.delivery c.args.hops (start_of task) c.loop-self.self.steps.items c.loop-self.invariant.steps c.requires.task.start_in)

pub next-requires-clause-whole_deadlines : goal.next-requires-clause-whole_deadlines
next-requires-clause-whole_deadlines g c = rw c.loop-self.invariant.delivery (level_fewer c.args.task.now c.requires.task c.args.self.now.delivery (c.args.hops - 1) c.args.layers.now c.requires.whole_deadlines _ (omega arith))

pub next-requires-clause-here : goal.next-requires-clause-here
next-requires-clause-here g c =
    let task = c.args.task.now in
    let numbers = numbers_of c.loop-self.self.steps.items in
    (numbers, subst (λ (v : Visit). Leads (Takes task) task.start task.at numbers v.node v.at) (sym c.here-from.ensures) (steps_way task c.args.self.now.delivery c.args.hops (start_of task) c.loop-self.self.steps.items c.loop-self.invariant.steps))

pub next-requires-clause-goal : goal.next-requires-clause-goal
next-requires-clause-goal g c =
    let task = c.args.task.now in
    let d = c.args.self.now.delivery in
    rw c.loop-self.invariant.delivery (subst (λ (v : Visit). IsDeadEnd task d v.node v.at 0) (sym c.here-from.ensures) (not_there task d c.args.hops c.loop-self.self.steps.items c.loop-self.invariant.steps c.loop-self.invariant.less c.requires.fewer))

pub returns-then-left-eq0-clause-walked : goal.returns-then-left-eq0-clause-walked
returns-then-left-eq0-clause-walked g c =
    let task = c.args.task.now in
    let d = c.args.self.now.delivery in
    let hops = c.args.hops in
    let steps = c.loop-self.self.steps.items in
    let so_far = c.loop-self.invariant in
    let step = c.in-Some.step in
    let none : hops - 1 - c.len-in-loop-self.result ≡ 0 = omega (arith, c.if-left-eq0.true) in
    let many : length steps + 1 ≡ hops = omega (arith, none, c.len-in-loop-self.ensures, so_far.less) in
    let found : IsStepOn task d 0 c.here-from.result step = subst (λ h. IsStepOn task d h c.here-from.result step) none (rw (c.in-Some.is, c.loop-self.invariant.delivery) at c.next.ensures.some) in
    let on : IsStepOn task d 0 (last_visit (start_of task) steps) step = subst (λ (v : Visit). IsStepOn task d 0 v step) c.here-from.ensures found in
    let way = c.in_ok-way.ensures in
    (way.delivery ∙ so_far.delivery, rw way.numbers (subst (λ xs. IsPicked task hops d (numbers_of xs)) (sym c.in_ok-push.ensures.items) (steps_picked task d c.requires.task hops c.requires.floor steps step so_far.steps many on)))

pub loop-self-preserved-in-Some : goal.loop-self-preserved-in-Some
loop-self-preserved-in-Some g c =
    let task = c.args.task.now in
    let d = c.args.self.now.delivery in
    let hops = c.args.hops in
    let steps = c.loop-self.self.steps.items in
    let so_far = c.loop-self.invariant in
    let step = c.in-Some.step in
    let long : length c.push.new.self.items ≡ length steps + 1 = ap length c.in_ok-push.ensures.items ∙ length-append steps (step ∷ []) in
    let left : hops - 1 - c.len-in-loop-self.result ≡ hops - 1 - length steps = omega (arith, c.len-in-loop-self.ensures) in
    let found : IsStepOn task d (hops - 1 - length steps) c.here-from.result step = subst (λ h. IsStepOn task d h c.here-from.result step) left (rw (c.in-Some.is, c.loop-self.invariant.delivery) at c.next.ensures.some) in
    let on : IsStepOn task d (hops - 1 - length steps) (last_visit (start_of task) steps) step = subst (λ (v : Visit). IsStepOn task d (hops - 1 - length steps) v step) c.here-from.ensures found in
    record {
      delivery = so_far.delivery;
      looked = omega (arith, so_far.looked, c.next.ensures.looked);
      ends = so_far.ends;
      less = omega (arith, long, c.if-left-eq0.false, c.len-in-loop-self.ensures, so_far.less);
      steps = subst (AreStepsOn task d hops (start_of task)) (sym c.in_ok-push.ensures.items) (steps_more task d hops (start_of task) steps step so_far.steps on);
      leads = λ lead.
          (let in_time : IsInTimeWithin c.args.layers.now.ends.items c.args.layers.now.entries.items (hops - length (steps ++ step ∷ [])) step.node step.at =
          subst (λ h. IsInTimeWithin c.args.layers.now.ends.items c.args.layers.now.entries.items h step.node step.at) (omega (arith, left, length-append steps (step ∷ []))) (rw c.in-Some.is at c.next.ensures.in_time) in
          rw c.in_ok-push.ensures.items
          (leads_more task d hops _ _ _ _ c.args.layers.now _ steps step lead.sound (so_far.leads lead) c.next.ensures.looks (omega (arith, c.links-links.ensures.few, degree_at_most task c.here-from.result.node)) in_time));
    }

pub loop-self-preserved : goal.loop-self-preserved
loop-self-preserved g c =
    let task = c.args.task.now in
    let d = c.args.self.now.delivery in
    let so_far = c.loop-self.invariant in
    let dead : IsDeadEnd task d c.here-from.result.node c.here-from.result.at (c.args.hops - 1 - c.len-in-loop-self.result + 1) = rw (c.in_default.is, c.loop-self.invariant.delivery) at c.next.ensures.none in
    record {
      delivery = so_far.delivery;
      looked = omega (arith, so_far.looked, c.next.ensures.looked);
      ends = subst (AreDeadEnds task d) (sym c.in_ok-push-2.ensures.items) (All-push (λ (end : DeadEnd). IsDeadEnd task d end.node end.at end.hops) c.loop-self.self.ends.items _ so_far.ends dead);
      less = omega (arith, c.in-Some-pop.ensures.cases, so_far.less);
      steps = steps_fewer task d c.args.hops (start_of task) c.pop.new.self.items _ (subst (AreStepsOn task d c.args.hops (start_of task)) c.pop.ensures.items so_far.steps);
      leads = λ lead. absurd ((so_far.leads lead).met (subst (λ (v : Visit). IsDeadEnd task d v.node v.at (c.args.hops - length c.loop-self.self.steps.items)) c.here-from.ensures (subst (λ h. IsDeadEnd task d c.here-from.result.node c.here-from.result.at h) (omega (arith, c.len-in-loop-self.ensures, so_far.less)) dead)));
    }

pub returns-in_default-pop-clause-walked : goal.returns-in_default-pop-clause-walked
returns-in_default-pop-clause-walked g c =
    let task = c.args.task.now in
    let d = c.args.self.now.delivery in
    let hops = c.args.hops in
    let steps = c.loop-self.self.steps.items in
    let empty : length steps ≡ 0 = omega (arith, (rw c.in_default-pop.is at c.pop.ensures.cases).0) in
    let dead : IsDeadEnd task d c.here-from.result.node c.here-from.result.at (hops - 1 - c.len-in-loop-self.result + 1) = rw (c.in_default.is, c.loop-self.invariant.delivery) at c.next.ensures.none in
    let all : hops - 1 - c.len-in-loop-self.result + 1 ≡ hops = omega (arith, empty, c.len-in-loop-self.ensures, c.requires.some) in
    subst (λ (v : Visit). IsDeadEnd task d v.node v.at hops) (c.here-from.ensures ∙ visit_empty (start_of task) steps empty) (subst (λ h. IsDeadEnd task d c.here-from.result.node c.here-from.result.at h) all dead)

pub returns-in_err-push-clause-counted : goal.returns-in_err-push-clause-counted
returns-in_err-push-clause-counted g c = λ lead. spent_more _ _ _ (length c.loop-self.self.steps.items) c.args.hops (length c.args.task.now.plan.contacts) c.loop-self.invariant.less (c.loop-self.invariant.leads lead).counted (omega (arith, c.next.ensures.looks, c.links-links.ensures.few, degree_at_most c.args.task.now c.here-from.result.node))

pub returns-then-left-eq0-clause-counted : goal.returns-then-left-eq0-clause-counted
returns-then-left-eq0-clause-counted g c = λ lead. spent_more _ _ _ (length c.loop-self.self.steps.items) c.args.hops (length c.args.task.now.plan.contacts) c.loop-self.invariant.less (c.loop-self.invariant.leads lead).counted (omega (arith, c.next.ensures.looks, c.links-links.ensures.few, degree_at_most c.args.task.now c.here-from.result.node))

pub returns-in_err-push-2-clause-counted : goal.returns-in_err-push-2-clause-counted
returns-in_err-push-2-clause-counted g c = λ lead. spent_more _ _ _ (length c.loop-self.self.steps.items) c.args.hops (length c.args.task.now.plan.contacts) c.loop-self.invariant.less (c.loop-self.invariant.leads lead).counted (omega (arith, c.next.ensures.looks, c.links-links.ensures.few, degree_at_most c.args.task.now c.here-from.result.node))

pub returns-in_default-pop-clause-counted : goal.returns-in_default-pop-clause-counted
returns-in_default-pop-clause-counted g c = λ lead. spent_more _ _ _ (length c.loop-self.self.steps.items) c.args.hops (length c.args.task.now.plan.contacts) c.loop-self.invariant.less (c.loop-self.invariant.leads lead).counted (omega (arith, c.next.ensures.looks, c.links-links.ensures.few, degree_at_most c.args.task.now c.here-from.result.node))

pub returns-then-links-left-clause-counted : goal.returns-then-links-left-clause-counted
returns-then-links-left-clause-counted g c = λ lead. spent_fewer _ _ (length c.loop-self.self.steps.items) c.args.hops (length c.args.task.now.plan.contacts) (omega (arith, c.loop-self.invariant.less)) (c.loop-self.invariant.leads lead).counted

pub returns-clause-counted : goal.returns-clause-counted
returns-clause-counted g c = λ lead. spent_fewer _ _ (length c.loop-self.self.steps.items) c.args.hops (length c.args.task.now.plan.contacts) (omega (arith, c.loop-self.invariant.less)) (c.loop-self.invariant.leads lead).counted

pub returns-then-links-left-clause-stops : goal.returns-then-links-left-clause-stops
returns-then-links-left-clause-stops g c = λ lead.
    none_more _ _ (length c.loop-self.self.steps.items) c.args.hops (length c.args.task.now.plan.contacts) c.loop-self.invariant.less (c.loop-self.invariant.leads lead).counted
    (omega (arith, c.if-links-left.true, c.left.ensures, c.links-links.ensures.few, degree_at_most c.args.task.now c.here-from.result.node))

pub returns-clause-stops : goal.returns-clause-stops
returns-clause-stops g c = λ lead. absurd (omega (arith, c.loop-self-test.false, c.len.ensures, ap length (c.loop-self.invariant.leads lead).none))
