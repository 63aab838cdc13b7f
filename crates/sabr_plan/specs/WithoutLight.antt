-- The contacts of a plan that no bundle can use.
use Rattle.std.specs.Prelude.{ℕ, is_none, length}
use Rattle.std.specs.List.{filter}
use Rattle.sabr_model.specs.plan.Light.{light_of}
use Rattle.sabr_model.specs.plan.Plan.{ContactPlan}

-- how many standing contacts have no light time at their start
abbrev pub contacts_without_light : ContactPlan → ℕ
contacts_without_light p = length (filter (λ c. is_none (light_of p c)) p.contacts)
