-- Opening plans: of a text, and as copies, with the contacts numbered from 1 on or not.
use Rattle.std.specs.Prelude.{◌≡◌, ◌⊎◌, ℕ, true, Bool, false, Result, Ok, Err, Option, None, Some, ◌+◌, List, [], ◌∷◌, length, map, nat_lt}
use Rattle.sabr_model.specs.plan.Plan.{ContactPlan, IsPlan}
use Rattle.sabr_plan.specs.declared.fault.PlanFault.{PlanFault}
use Rattle.libcgrlist.specs.declared.held.Held.{Held}
use Rattle.libcgrlist.specs.declared.handle.PlanHandle.{PlanHandle}
use Rattle.libcgrlist.specs.Status.{already_open, done, line_status, no_memory}
use Rattle.std.specs.List.{filter}
use Rattle.sabr_model.specs.declared.contact.Contact.{Contact}
use Rattle.sabr_model.specs.declared.contact.Range.{Range}

-- behind the handle is this plan, which obeys the rules of plans, with no listing
abbrev pub IsPlanAlone : ContactPlan → Option Held → Type 0
IsPlanAlone p None = ⊥
IsPlanAlone p (Some h) = (h.growing ≡ None) × (h.opened.plan.plan ≡ p) × IsPlan h.opened.plan.plan × (h.opened.listing ≡ None)

-- this plan is open, or an allocation failed and the handle stays closed
abbrev pub Makes : ContactPlan → ℕ → PlanHandle → Type 0
Makes p status new = ((status ≡ done) × (new.is_open ≡ true) × IsPlanAlone p new.place.held) ⊎ ((status ≡ no_memory) × (new.is_open ≡ false))

-- the plan of a text is open, or the handle stays closed and its first bad line is given with the line's number; no
-- number is given with another status
abbrev pub Reads : Result ContactPlan PlanFault → ℕ → ℕ → PlanHandle → Type 0
Reads (Ok p) status line new = (status ≡ done) × (line ≡ 0) × (new.is_open ≡ true) × IsPlanAlone p new.place.held
Reads (Err f) status line new = (status ≡ line_status f.kind) × (line ≡ f.line) × (new.is_open ≡ false)

-- an allocation failed, and the handle stays closed
abbrev pub Refused : ℕ → ℕ → PlanHandle → Type 0
Refused status line new = (status ≡ no_memory) × (line ≡ 0) × (new.is_open ≡ false)

-- an open handle stays as it was, and over a closed one this holds
abbrev pub OpensOver : Bool → PlanHandle → PlanHandle → ℕ → Type 0 → Type 0
OpensOver true old new status P = (status ≡ already_open) × (new.is_open ≡ true) × (new.place.held ≡ old.place.held)
OpensOver false old new status P = P

abbrev pub Opens : PlanHandle → PlanHandle → ℕ → Type 0 → Type 0
Opens old new status P = OpensOver old.is_open old new status P

-- contacts in their order, with the numbers from n on
abbrev pub numbered_from : ℕ → List Contact → List Contact
numbered_from n [] = []
numbered_from n (c ∷ cs) = record c { number = n } ∷ numbered_from (n + 1) cs

-- the contacts that end after a second
abbrev pub contacts_after : ℕ → List Contact → List Contact
contacts_after second contacts = filter (λ c. nat_lt second c.end) contacts

-- the numbers of contacts
abbrev pub numbers_of : List Contact → List ℕ
numbers_of contacts = map (λ c. c.number) contacts

-- the ranges that end after it
abbrev pub ranges_after : ℕ → List Range → List Range
ranges_after second ranges = filter (λ r. nat_lt second r.end) ranges

-- the plan of what ends after a second, with the contacts numbered from 1 on
abbrev pub renumbered : ContactPlan → ℕ → ContactPlan
renumbered p second = record {
  contacts = numbered_from 1 (contacts_after second p.contacts);
  ranges = ranges_after second p.ranges;
  largest = length (contacts_after second p.contacts);
}
