-- Contacts that are gathered with what no two of them share; and ranges that are gathered in any order, and sorted at
-- the end. Indexes of both are in chains by buckets.
use Rattle.std.specs.Prelude.{◌≡◌, ◌≢◌, ℕ, ◌+◌, ◌*◌, ◌/◌, ◌%◌, ◌^◌, ◌<◌, ◌≤◌, Bool, false, true, ◌&&◌, nat_lt, List, [], ◌∷◌, length, map, slice_get, slice_index, slice_index_or, option_map, IsPermutation}
use Rattle.std.specs.List.{filter, list_any, AllByRecursion}
use Rattle.std.specs.declared.option.Option.{Option}
use Rattle.std.specs.declared.option.Option.TheVariants.{Some, None}
use Rattle.std.specs.BTreeMap.{BTreeMap, get, values}
use Rattle.std.specs.Ordering.{is_le}
use Rattle.sabr_model.specs.declared.contact.Contact.{Contact}
use Rattle.sabr_model.specs.declared.contact.Range.{Range}
use Rattle.sabr_model.specs.declared.opening.Opening.{Opening}
use Rattle.sabr_plan.specs.declared.gathering.sorted_ranges.Side.{Side}
use Rattle.sabr_plan.specs.declared.gathering.sorted_ranges.Side.TheVariants.{One, Other}
use Rattle.sabr_model.specs.Order.{by_key, put_in}
use Rattle.sabr_model.specs.plan.Plan.{ContactPlan, IsPlan, opens, range_key}
use Rattle.sabr_model.specs.plan.Adding.{by_range_key}
use Rattle.sabr_model.specs.plan.Openings.{opening_of}

-- ---- chains of indexes by buckets: each has the last index of its bucket before it

-- the number is one more than the last index of the bucket before a bound, and 0 if there is none
pub record IsLastOf (buckets : List ℕ) (bucket below last : ℕ) : Type 0 where
  pub within : last ≤ below
  pub is : (j : ℕ) → last ≡ j + 1 → slice_index buckets j ≡ bucket
  pub none : (j : ℕ) → last ≤ j → j < below → slice_index buckets j ≢ bucket

-- the first indexes are in the chains of their buckets, and each bucket has its last one of them
pub record AreChained (buckets befores lasts : List ℕ) : Type 0 where
  pub within : length befores ≤ length buckets
  pub begins : (bucket : ℕ) → IsLastOf buckets bucket (length befores) (slice_index lasts bucket)
  pub followed : (k : ℕ) → k < length befores → IsLastOf buckets (slice_index buckets k) k (slice_index befores k)

-- ---- contacts

-- contacts alone and the largest number assigned, as a plan without ranges
abbrev pub plan_of_contacts : List Contact → ℕ → ContactPlan
plan_of_contacts contacts largest = record { contacts = contacts; ranges = []; largest = largest }

-- a contact stands if it wasn't deleted: one that was ends at its start
abbrev pub stands : Contact → Bool
stands c = nat_lt c.start c.end

abbrev pub standing : List Contact → List Contact
standing contacts = filter stands contacts

-- the contact stands and has this opening
abbrev pub stands_at : Opening → Contact → Bool
stands_at o c = opens o.from o.to o.start c && stands c

-- the key of an opening: its start, then its sender and receiver
abbrev pub opening_key : Opening → ℕ × ℕ × ℕ
opening_key o = (o.start, o.from, o.to)

-- the number of buckets of openings
abbrev pub opening_buckets : ℕ
opening_buckets = 4096

-- the bucket of an opening
abbrev pub opening_bucket : Opening → ℕ
opening_bucket o = ((o.from * 11400714819323198485 % 2 ^ 64 + o.to * 14029467366897019727 % 2 ^ 64) % 2 ^ 64 + o.start * 1609587929392839161 % 2 ^ 64) % 2 ^ 64 / 2 ^ 44 % opening_buckets

-- the bucket of a contact
abbrev pub contact_bucket : Contact → ℕ
contact_bucket c = opening_bucket (opening_of c)

-- no contact opens after this
abbrev pub OpenBy : Opening → List Contact → Type 0
OpenBy last contacts = AllByRecursion (λ c. is_le (by_key (opening_key (opening_of c)) (opening_key last)) ≡ true) contacts

-- the first contacts are in chains, and if the contacts ascend none opens after the last one
abbrev pub KnowsSome : List ℕ → List ℕ → Bool → Opening → List Contact → Type 0
KnowsSome befores lasts in_order last contacts = AreChained (map contact_bucket contacts) befores lasts × (in_order ≡ true → OpenBy last contacts)

-- the index of a contact that stands and has this opening, or none does
abbrev pub IsFound : Opening → List Contact → Option ℕ → Type 0
IsFound o contacts (Some k) = (k < length contacts) × (option_map (stands_at o) (slice_get contacts k) ≡ Some true)
IsFound o contacts None = list_any (stands_at o) contacts ≡ false

-- the tree has the index of each of the first contacts that stands
pub record IsTreed (indexes : BTreeMap (ℕ × ℕ × ℕ) ℕ) (treed : ℕ) (contacts : List Contact) : Type 0 where
  pub within : treed ≤ length contacts
  pub found : (k : ℕ) (d : Contact) → k < treed → stands (slice_index_or contacts k d) ≡ true → get by_key indexes ((slice_index_or contacts k d).from, (slice_index_or contacts k d).to, (slice_index_or contacts k d).start) ≡ Some k

-- ---- ranges

-- ranges alone, as a plan without contacts
abbrev pub plan_of_ranges : List Range → ContactPlan
plan_of_ranges ranges = record { contacts = []; ranges = ranges; largest = 0 }

-- ranges put into a list, the first before the others
abbrev pub put_in_turn : List Range → List Range → List Range
put_in_turn [] ys = ys
put_in_turn (x ∷ xs) ys = put_in_turn xs (put_in by_range_key x ys)

-- put in one by one, the ranges obey the rules of a plan, and none of them is lost
abbrev pub ObeyInTurn : List Range → Type 0
ObeyInTurn ranges = IsPlan (plan_of_ranges (put_in_turn ranges [])) × IsPermutation ranges (put_in_turn ranges [])

-- a range at its key
abbrev pub keyed : Range → (ℕ × ℕ × ℕ) × Range
keyed r = (range_key r, r)

-- a tree of a plan's ranges, each at its key
abbrev pub IsRangeTree : BTreeMap (ℕ × ℕ × ℕ) Range → Type 0
IsRangeTree m = (m.entries ≡ map keyed (values m)) × IsPlan (plan_of_ranges (values m))

-- a node of a range
abbrev pub side_node : Side → Range → ℕ
side_node One r = r.one
side_node Other r = r.other

-- its digit of 11 bits at a shift
abbrev pub digit_of : Side → ℕ → Range → ℕ
digit_of side shift r = side_node side r / 2 ^ shift % 2048

-- the number of buckets of ranges
abbrev pub range_buckets : ℕ
range_buckets = 2048

-- the bucket of a range by its ordered pair
abbrev pub range_bucket : Range → ℕ
range_bucket r = (r.one % range_buckets * 509 + r.other % range_buckets) % range_buckets

-- no range ends after a pair and second, in the order of ranges
abbrev pub EndBy : ℕ × ℕ × ℕ → List Range → Type 0
EndBy key ranges = AllByRecursion (λ r. is_le (by_key (r.one, r.other, r.end) key) ≡ true) ranges

-- the first ranges are in chains, and if each begins after those before it end, none ends after the last end
abbrev pub KnowsRanges : List ℕ → List ℕ → Bool → ℕ × ℕ × ℕ → List Range → Type 0
KnowsRanges befores lasts in_order last ranges = AreChained (map range_bucket ranges) befores lasts × (in_order ≡ true → EndBy last ranges)
