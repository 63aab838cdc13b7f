-- What changes of a plan come to.
use Rattle.std.specs.Prelude.{◌≡◌, ℕ, ◌==◌, ◌||◌, nat_lt, is_some, Bool, Result, Ok, Err, Option, None, Some, ◌⊎◌, if◌then◌else◌}
use Rattle.std.specs.List.{list_any}
use Rattle.sabr_model.specs.declared.fault.AddFault.{AddFault}
use Rattle.sabr_model.specs.declared.fault.AddFault.TheVariants.{NothingToDelete}
use Rattle.sabr_model.specs.declared.contact.Range.{Range}
use Rattle.sabr_model.specs.plan.Plan.{ContactPlan, contact_named, last_time, most_light}
use Rattle.sabr_model.specs.plan.Adding.{begins, contact_refusal, next_contact, number_of_opening, range_refusal, with_contact, with_range, without_contact, without_range}
use Rattle.sabr_model.specs.plan.Table.{without_number}
use Rattle.libcgrlist.specs.declared.opened.NewContact.{NewContact}
use Rattle.libcgrlist.specs.Opened.{OpenPlan}
use Rattle.libcgrlist.specs.Status.{refused_or, change_status, done, has_listing, no_memory, value_light, value_node, value_time}

-- this plan stands in place of the old one, and the listing, if there is one, stays
abbrev pub Becomes : OpenPlan → ContactPlan → OpenPlan → Type 0
Becomes old p new = (new.plan.plan ≡ p) × (new.listing ≡ old.listing)

-- a change that doesn't allocate is refused by a status, and nothing changes; or it is done
abbrev pub Changes : OpenPlan → Result ContactPlan ℕ → ℕ → OpenPlan → Type 0
Changes old (Err s) status new = (status ≡ s) × (new ≡ old)
Changes old (Ok p) status new = (status ≡ done) × Becomes old p new

-- the same of a change that allocates: if nothing else refuses it, an allocation may fail, and nothing changes then
abbrev pub ChangesInMemory : OpenPlan → Result ContactPlan ℕ → ℕ → OpenPlan → Type 0
ChangesInMemory old (Err s) status new = (status ≡ s) × (new ≡ old)
ChangesInMemory old (Ok p) status new = ((status ≡ done) × Becomes old p new) ⊎ ((status ≡ no_memory) × (new ≡ old))

-- the plan after a change, or the status of its refusal
abbrev pub change_or : Option AddFault → ContactPlan → Result ContactPlan ℕ
change_or (Some f) p = Err (change_status f)
change_or None p = Ok p

-- nothing is changed while a listing is open
abbrev pub open_refusal : OpenPlan → Option ℕ
open_refusal o = if is_some o.listing then Some has_listing else None

-- no node is 0, and no time is above the largest
abbrev pub value_refusal : ℕ → ℕ → ℕ → ℕ → Option ℕ
value_refusal one other start end =
    if one == 0 || (other == 0) then Some value_node
    else if nat_lt last_time start || nat_lt last_time end then Some value_time
    else None

-- no light time is above the largest
abbrev pub light_refusal : ℕ → Option ℕ
light_refusal light = if nat_lt most_light light then Some value_light else None

-- a plan with one more contact, or the status of its refusal
abbrev pub contact_put : ContactPlan → NewContact → Result ContactPlan ℕ
contact_put p c =
    refused_or (value_refusal c.from c.to c.start c.end)
    (change_or (contact_refusal p c.from c.to c.start c.end)
    (with_contact p (next_contact p c.from c.to c.start c.end c.rate)))

-- the plan behind a handle with one more contact
abbrev pub contact_added : OpenPlan → NewContact → Result ContactPlan ℕ
contact_added o c = refused_or (open_refusal o) (contact_put o.plan.plan c)

-- a plan with one more range, or the status of its refusal
abbrev pub range_put : ContactPlan → Range → Result ContactPlan ℕ
range_put p r =
    refused_or (value_refusal r.one r.other r.start r.end)
    (refused_or (light_refusal r.light)
    (change_or (range_refusal p r) (with_range p r)))

-- the plan behind a handle with one more range
abbrev pub range_added : OpenPlan → Range → Result ContactPlan ℕ
range_added o r = refused_or (open_refusal o) (range_put o.plan.plan r)

-- there is nothing to delete
abbrev pub deletion_refusal : Bool → Option AddFault
deletion_refusal stands = if stands then None else Some NothingToDelete

-- the plan without the contact that has this sender, receiver and start
abbrev pub contact_deleted : OpenPlan → ℕ → ℕ → ℕ → Result ContactPlan ℕ
contact_deleted o from to start =
    refused_or (open_refusal o)
    (refused_or (value_refusal from to start start)
    (change_or (deletion_refusal (is_some (number_of_opening o.plan.plan from to start))) (without_contact o.plan.plan from to start)))

-- the plan without the contact that has this number
abbrev pub number_deleted : OpenPlan → ℕ → Result ContactPlan ℕ
number_deleted o n =
    refused_or (open_refusal o)
    (change_or (deletion_refusal (is_some (contact_named o.plan.plan n)))
    (record { contacts = without_number n o.plan.plan.contacts; ranges = o.plan.plan.ranges; largest = o.plan.plan.largest }))

-- the plan without the range of this ordered pair that has this start
abbrev pub range_deleted : OpenPlan → ℕ → ℕ → ℕ → Result ContactPlan ℕ
range_deleted o one other start =
    refused_or (open_refusal o)
    (refused_or (value_refusal one other start start)
    (change_or (deletion_refusal (list_any (begins one other start) o.plan.plan.ranges)) (without_range o.plan.plan one other start)))
