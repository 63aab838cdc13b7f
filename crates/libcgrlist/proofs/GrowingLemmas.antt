-- Ranges that are added while others wait.
use Rattle.std.proofs.Common.{◌≡◌, ◌≤◌, List, Result, Ok, Err, OnOk, OnErr, refl, sym, subst}
use Rattle.std.specs.declared.option.Option.{Option}
use Rattle.std.specs.declared.option.Option.TheVariants.{Some, None}
use Rattle.sabr_model.specs.Order.{put_in}
use Rattle.sabr_model.specs.declared.contact.Range.{Range}
use Rattle.sabr_model.specs.declared.fault.AddFault.{AddFault}
use Rattle.sabr_model.specs.plan.Adding.{by_range_key, range_refusal}
use Rattle.sabr_model.specs.plan.Plan.{ContactPlan, IsNode, IsPlan, last_time, most_light}
use Rattle.sabr_model.proofs.PlanLemmas.RangeLemmas.{IsPlan-range}
use Rattle.sabr_plan.specs.Gathering.{plan_of_ranges}
use Rattle.libcgrlist.specs.Additions.{over_ranges}

-- what was added wasn't refused
not_refused : {U : Type 0} (u : U) (o : Option AddFault) → ((f : AddFault) → o ≡ Some f → Ok u ≡ Err f) → o ≡ None
not_refused u None refused = refl
not_refused u (Some f) refused = let no = refused f refl in absurd cc

-- after an addition, and after its refusal, the ranges obey the rules of plans
pub rules_grow : {U : Type 0} (p : ContactPlan) (ranges new : List Range) (r : Range) (result : Result U AddFault) → IsPlan (over_ranges p ranges)
    → IsNode r.one → IsNode r.other → r.end ≤ last_time → r.light ≤ most_light
    → ((f : AddFault) → range_refusal (plan_of_ranges ranges) r ≡ Some f → result ≡ Err f)
    → OnOk result (new ≡ put_in by_range_key r ranges) → OnErr result (new ≡ ranges) → IsPlan (over_ranges p new)
rules_grow p ranges new r (Ok u) rules one other end light refused added stays =
    subst (λ rs. IsPlan (over_ranges p rs)) (sym added) (IsPlan-range (over_ranges p ranges) r rules one other end light (not_refused u (range_refusal (plan_of_ranges ranges) r) refused))
rules_grow p ranges new r (Err f) rules one other end light refused added stays = subst (λ rs. IsPlan (over_ranges p rs)) (sym stays) rules
