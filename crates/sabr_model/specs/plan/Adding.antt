-- What a plan refuses, and the plan after an addition or a deletion.
use Rattle.std.specs.Prelude.{ℕ, ◌+◌, ◌==◌, ◌&&◌, Bool, not, nat_le, [], ◌∷◌, ◌++◌, length, if◌then◌else◌}
use Rattle.std.specs.List.{list_any, filter, find}
use Rattle.std.specs.Option.{option_map}
use Rattle.std.specs.declared.option.Option.{Option}
use Rattle.std.specs.declared.option.Option.TheVariants.{Some, None}
use Rattle.std.specs.declared.cmp.Ordering.{Ordering}
use Rattle.sabr_model.specs.declared.contact.Contact.{Contact}
use Rattle.sabr_model.specs.declared.contact.Range.{Range}
use Rattle.sabr_model.specs.declared.fault.AddFault.{AddFault}
use Rattle.sabr_model.specs.declared.fault.AddFault.TheVariants.{EmptyWindow, SelfPair, DuplicateContact, RangeOverlap, TooMany}
use Rattle.sabr_model.specs.Order.{by_key, put_in}
use Rattle.sabr_model.specs.plan.Plan.{ContactPlan, most_records, opens, overlap, range_key}

-- the contact that the plan would assign the next number
abbrev pub next_contact : ContactPlan → ℕ → ℕ → ℕ → ℕ → ℕ → Contact
next_contact p from to start end rate = record { number = p.largest + 1; from = from; to = to; start = start; end = end; rate = rate }

-- the first reason to refuse a record between two nodes over a window, if the plan has one that clashes with it, and
-- that many
abbrev pub first_refusal : ℕ → ℕ → ℕ → ℕ → Bool → AddFault → ℕ → Option AddFault
first_refusal one other start end clashes clash count =
    if nat_le end start then Some EmptyWindow
    else if one == other then Some SelfPair
    else if clashes then Some clash
    else if nat_le most_records count then Some TooMany
    else None

-- the first reason to refuse a contact
abbrev pub contact_refusal : ContactPlan → ℕ → ℕ → ℕ → ℕ → Option AddFault
contact_refusal p from to start end = first_refusal from to start end (list_any (opens from to start) p.contacts) DuplicateContact p.largest

-- the plan with one more contact
abbrev pub with_contact : ContactPlan → Contact → ContactPlan
with_contact p c = record { contacts = p.contacts ++ c ∷ []; ranges = p.ranges; largest = c.number }

-- the number of the contact with this sender, receiver and start
abbrev pub number_of_opening : ContactPlan → ℕ → ℕ → ℕ → Option ℕ
number_of_opening p from to start = option_map (λ c. c.number) (find (opens from to start) p.contacts)

-- the plan without the contact that has this sender, receiver and start; its number is never assigned again
abbrev pub without_contact : ContactPlan → ℕ → ℕ → ℕ → ContactPlan
without_contact p from to start = record { contacts = filter (λ c. not (opens from to start c)) p.contacts; ranges = p.ranges; largest = p.largest }

-- a range of these fields
abbrev pub new_range : ℕ → ℕ → ℕ → ℕ → ℕ → Range
new_range one other start end light = record { one = one; other = other; start = start; end = end; light = light }

-- the first reason to refuse a range
abbrev pub range_refusal : ContactPlan → Range → Option AddFault
range_refusal p r = first_refusal r.one r.other r.start r.end (list_any (overlap r) p.ranges) RangeOverlap (length p.ranges)

-- ranges by their pair of nodes and then by their start
abbrev pub by_range_key : Range → Range → Ordering
by_range_key r s = by_key (range_key r) (range_key s)

-- the plan with one more range
abbrev pub with_range : ContactPlan → Range → ContactPlan
with_range p r = record { contacts = p.contacts; ranges = put_in by_range_key r p.ranges; largest = p.largest }

-- the range is of this ordered pair and begins at this start
abbrev pub begins : ℕ → ℕ → ℕ → Range → Bool
begins one other start r = (one == r.one) && (other == r.other) && (start == r.start)

-- the plan without the range of this ordered pair that has this start
abbrev pub without_range : ContactPlan → ℕ → ℕ → ℕ → ContactPlan
without_range p one other start = record { contacts = p.contacts; ranges = filter (λ r. not (begins one other start r)) p.ranges; largest = p.largest }
