use Rattle.sabr_plan.proofs.Names.{◌≡◌, ◌≤◌, length, take, filter, is_none}
use Rattle.sabr_model.specs.plan.Light.{light_of}
use Rattle.sabr_plan.proofs.without_light.contacts_without_light.Given as goal

abbrev pub invariant-loop-place : goal.invariant-loop-place
invariant-loop-place g l = record {
  counted : l.count ≡ length (filter (λ c. is_none (light_of l.plan.plan c)) (take l.place l.plan.plan.contacts));
  few : l.count ≤ l.place;
}
