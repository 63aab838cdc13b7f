-- A plan behind a handle, of which ranges may wait for their place.
use Rattle.std.specs.Prelude.{◌≡◌, List, Option, None, Some, IfSome}
use Rattle.sabr_model.specs.declared.contact.Range.{Range}
use Rattle.sabr_model.specs.plan.Plan.{IsPlan}
use Rattle.libcgrlist.specs.Additions.{over_ranges}
use Rattle.libcgrlist.specs.Opened.{OpenPlan}
use Rattle.libcgrlist.specs.declared.held.Held.{Held}

-- a plan with these ranges in place of its own, if they are given
abbrev pub with_ranges : Option (List Range) → OpenPlan → OpenPlan
with_ranges None o = o
with_ranges (Some ranges) o = record o { plan = record { plan = over_ranges o.plan.plan ranges; table = o.plan.table } }

-- the plan with the ranges that wait
abbrev pub standing : Held → OpenPlan
standing h = with_ranges h.growing h.opened

-- ranges that wait obey the rules of plans, and no listing is open
abbrev pub CanGrow : Held → Type 0
CanGrow h = IfSome h.growing (λ ranges. (h.opened.listing ≡ None) × IsPlan (over_ranges h.opened.plan.plan ranges))
