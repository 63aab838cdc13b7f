-- Contacts and ranges that are added to a plan, many at once.
use Rattle.std.specs.Prelude.{◌≡◌, ℕ, ◌+◌, ◌==◌, ◌⊎◌, is_some, List, [], ◌∷◌, Result, Ok, Err, Option, None, Some, if◌then◌else◌}
use Rattle.sabr_model.specs.declared.contact.Range.{Range}
use Rattle.sabr_model.specs.plan.Plan.{ContactPlan, TabledPlan}
use Rattle.libcgrlist.specs.Changes.{Becomes, contact_put, range_put}
use Rattle.libcgrlist.specs.Opened.{OpenPlan}
use Rattle.libcgrlist.specs.Status.{refused_or, done, has_listing, no_memory}
use Rattle.libcgrlist.specs.declared.additions.RefusedRecord.{RefusedRecord}
use Rattle.libcgrlist.specs.declared.opened.NewContact.{NewContact}
use Rattle.libcgrlist.specs.declared.views.RangeRow.{RangeRow}

-- the range that C gives
abbrev pub range_of : RangeRow → Range
range_of r = record { one = r.one; other = r.other; start = r.start; end = r.end; light = r.light }

-- a plan with these ranges in place of its own
abbrev pub over_ranges : ContactPlan → List Range → ContactPlan
over_ranges p ranges = record { contacts = p.contacts; ranges = ranges; largest = p.largest }

-- a plan with it, or the status of its refusal
abbrev pub row_put : ContactPlan → RangeRow → Result ContactPlan ℕ
row_put p r = range_put p (range_of r)

-- what comes after a record that was added, or its refusal
abbrev pub then_put : ℕ → Result ContactPlan ℕ → (ContactPlan → Result ContactPlan RefusedRecord) → Result ContactPlan RefusedRecord
then_put place (Err s) next = Err (record { place = place; status = s })
then_put place (Ok p) next = next p

-- a plan with these records, one after another, the first of which has this place; or the first that is refused
unfoldable pub all_put : {X : Type 0} → (ContactPlan → X → Result ContactPlan ℕ) → ℕ → ContactPlan → List X → Result ContactPlan RefusedRecord
all_put put place p [] = Ok p
all_put put place p (x ∷ xs) = then_put place (put p x) (λ q. all_put put (place + 1) q xs)

-- a record is added, or it is refused by this status, or an allocation fails
abbrev pub Puts : {U : Type 0} → Result ContactPlan ℕ → Result U ℕ → ContactPlan → Type 0
Puts wanted (Ok u) p = wanted ≡ Ok p
Puts wanted (Err s) p = (s ≡ no_memory) ⊎ (wanted ≡ Err s)

-- all records are added, or this is the first that is refused, or an allocation fails
abbrev pub PutsAll : {U : Type 0} → Result ContactPlan RefusedRecord → Result U RefusedRecord → ContactPlan → Type 0
PutsAll wanted (Ok u) p = wanted ≡ Ok p
PutsAll wanted (Err b) p = (b.status ≡ no_memory) ⊎ (wanted ≡ Err b)

-- all records are refused
abbrev pub all_refused : ℕ → RefusedRecord
all_refused status = record { place = 0; status = status }

-- nothing is added while a listing is open
abbrev pub open_refused : OpenPlan → Option RefusedRecord
open_refused o = if is_some o.listing then Some (all_refused has_listing) else None

-- the plan behind a handle with these contacts, or the first that is refused
abbrev pub contacts_added : OpenPlan → List NewContact → Result ContactPlan RefusedRecord
contacts_added o contacts = refused_or (open_refused o) (all_put contact_put 0 o.plan.plan contacts)

-- the plan behind a handle with these ranges, or the first that is refused
abbrev pub ranges_added : OpenPlan → List RangeRow → Result ContactPlan RefusedRecord
ranges_added o ranges = refused_or (open_refused o) (all_put row_put 0 o.plan.plan ranges)

-- this plan is made, or this is refused, or memory is
abbrev pub Makes : Result ContactPlan RefusedRecord → Result TabledPlan RefusedRecord → Type 0
Makes wanted (Ok p) = wanted ≡ Ok p.plan
Makes wanted (Err b) = (b.status ≡ no_memory) ⊎ (wanted ≡ Err b)

-- a plan takes the place of another one; or nothing changes, and the status of a refusal is given with its place, unless
-- an allocation fails
abbrev pub TakesOver : OpenPlan → Result TabledPlan RefusedRecord → ℕ → ℕ → ℕ → OpenPlan → Type 0
TakesOver o (Ok p) status old new n = (status ≡ done) × (new ≡ old) × Becomes o p.plan n
TakesOver o (Err b) status old new n = (status ≡ b.status) × (new ≡ (if b.status == no_memory then old else b.place)) × (n ≡ o)

-- an allocation fails, and nothing changes
abbrev pub AddsNone : OpenPlan → ℕ → ℕ → ℕ → OpenPlan → Type 0
AddsNone o status old new n = (status ≡ no_memory) × (new ≡ old) × (n ≡ o)

-- all records are added; or nothing changes, and the place and the status of the first that is refused are given; or
-- an allocation fails
abbrev pub AddsAll : OpenPlan → Result ContactPlan RefusedRecord → ℕ → ℕ → ℕ → OpenPlan → Type 0
AddsAll o (Ok p) status old new n = ((status ≡ done) × (new ≡ old) × Becomes o p n) ⊎ AddsNone o status old new n
AddsAll o (Err b) status old new n = ((status ≡ b.status) × (new ≡ b.place) × (n ≡ o)) ⊎ AddsNone o status old new n
