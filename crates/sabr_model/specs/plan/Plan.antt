-- Contact plans (CCSDS 734.3-B-1, contact plan: contacts and ranges).
use Rattle.std.specs.Prelude.{◌≡◌, ◌≢◌, ℕ, ◌<◌, ◌≤◌, ◌^◌, Bool, true, ◌&&◌, not, nat_lt, ◌==◌, IsTrue, List, [], ◌∷◌, map, length, slice_get}
use Rattle.std.specs.List.{find, list_any, AllByRecursion}
use Rattle.std.specs.declared.option.Option.{Option}
use Rattle.std.specs.declared.option.Option.TheVariants.{Some, None}
use Rattle.std.specs.List.Sorted.{IsStrictlySortedBy}
use Rattle.sabr_model.specs.Order.{by_key}
use Rattle.sabr_model.specs.declared.contact.Contact.{Contact}
use Rattle.sabr_model.specs.declared.contact.Range.{Range}

-- the standing contacts and ranges, and the largest number ever assigned to a contact, 0 at first
pub record ContactPlan : Type 0 where
  pub contacts : List Contact
  pub ranges : List Range
  pub largest : ℕ

-- a plan as its callers see it: its contacts and ranges, and the nodes that send or receive a standing contact, each
-- once, in the order of their table
pub record TabledPlan : Type 0 where
  pub plan : ContactPlan
  pub table : List ℕ

-- the latest time, 9998-12-31T23:59:59Z in seconds since 1970-01-01T00:00:00Z
abbrev pub last_time : ℕ
last_time = 253370764799

-- the most contact numbers, and the most ranges
abbrev pub most_records : ℕ
most_records = 20000

-- the largest light time, in seconds
abbrev pub most_light : ℕ
most_light = 1000000

-- the standing contact with this number
abbrev pub contact_named : ContactPlan → ℕ → Option Contact
contact_named p n = find (λ c. c.number == n) p.contacts

-- the index is that of the contact with this number, or no contact has it
abbrev pub IsPlaceOf : List Contact → ℕ → Option ℕ → Type 0
IsPlaceOf contacts n None = find (λ c. c.number == n) contacts ≡ None
IsPlaceOf contacts n (Some k) = (k < length contacts) × (find (λ c. c.number == n) contacts ≡ slice_get contacts k)

-- each number is greater than the one before it, and the first than `low`
abbrev pub rises_above : ℕ → List ℕ → Bool
rises_above low [] = true
rises_above low (x ∷ xs) = nat_lt low x && rises_above x xs

-- whether the number is in the list
abbrev pub has : ℕ → List ℕ → Bool
has x ys = list_any (λ y. x == y) ys

-- no number occurs twice
abbrev pub are_different : List ℕ → Bool
are_different [] = true
are_different (x ∷ xs) = not (has x xs) && are_different xs

-- from a start up to, and without, an end that is after it and not above the latest time
abbrev pub IsWindow : ℕ → ℕ → Type 0
IsWindow start end = (start < end) × (end ≤ last_time)

-- a node is a number from 1 to 2^64 - 1
abbrev pub IsNode : ℕ → Type 0
IsNode n = (0 < n) × (n < 2 ^ 64)

-- two different nodes
abbrev pub IsPair : ℕ → ℕ → Type 0
IsPair a b = IsNode a × IsNode b × (a ≢ b)

-- the contact has this sender, receiver and start
abbrev pub opens : ℕ → ℕ → ℕ → Contact → Bool
opens from to start c = (from == c.from) && (to == c.to) && (start == c.start)

-- the same sender, receiver and start
abbrev pub same_opening : Contact → Contact → Bool
same_opening c d = opens c.from c.to c.start d

-- the same ordered pair of nodes, and a second that both hold
abbrev pub overlap : Range → Range → Bool
overlap a b = (a.one == b.one) && (a.other == b.other) && nat_lt a.start b.end && nat_lt b.start a.end

-- no two elements pass the test
abbrev pub none_twice : {X : Type 0} → (X → X → Bool) → List X → Bool
none_twice same [] = true
none_twice same (x ∷ xs) = not (list_any (same x) xs) && none_twice same xs

-- the key of a range: its pair of nodes, then its start
abbrev pub range_key : Range → ℕ × ℕ × ℕ
range_key r = (r.one, r.other, r.start)

-- what holds for every plan: valid windows and nodes, ascending numbers up to the largest assigned, no two contacts
-- with one opening, ranges in order that don't overlap, and the limits (this project's profile of ionrc(5))
pub record IsPlan (p : ContactPlan) : Type 0 where
  pub contact_windows : AllByRecursion (λ c. IsWindow c.start c.end) p.contacts
  pub contact_nodes : AllByRecursion (λ c. IsPair c.from c.to) p.contacts
  pub numbers_rise : IsTrue (rises_above 0 (map (λ c. c.number) p.contacts))
  pub numbers_given : AllByRecursion (λ c. c.number ≤ p.largest) p.contacts
  pub openings_differ : IsTrue (none_twice same_opening p.contacts)
  pub range_windows : AllByRecursion (λ r. IsWindow r.start r.end) p.ranges
  pub range_nodes : AllByRecursion (λ r. IsPair r.one r.other) p.ranges
  pub rates : AllByRecursion (λ c. c.rate < 2 ^ 64) p.contacts
  pub ranges_rise : IsStrictlySortedBy by_key (map range_key p.ranges)
  pub lights : AllByRecursion (λ r. r.light ≤ most_light) p.ranges
  pub ranges_apart : IsTrue (none_twice overlap p.ranges)
  pub count : p.largest ≤ most_records
  pub range_count : length p.ranges ≤ most_records
