-- Plans with one canonical text have the same contacts and ranges.
use Rattle.std.proofs.Common.{◌≡◌, ℕ, ◌<◌, ◌≤◌, ◌^◌, min, eqb, List, [], ◌∷◌, ◌++◌, length, fold, get_or, refl, sym, ap, ◌∙◌, arith, append_assoc, codes, flat_map}
use Rattle.std.specs.List.{find, AllByRecursion}
use Rattle.std.specs.Option.{option_map_or}
use Rattle.std.proofs.lemmas.List.{append_cancel_left}
use Rattle.sabr_model.specs.declared.contact.Contact.{Contact}
use Rattle.sabr_model.specs.declared.contact.Range.{Range}
use Rattle.sabr_model.specs.Order.{by_numbers}
use Rattle.sabr_model.specs.plan.Plan.{ContactPlan, IsPlan, IsWindow, IsPair, last_time}
use Rattle.sabr_model.specs.routes.Arrival.{RouteRequest}
use Rattle.sabr_model.specs.routes.Listing.{routes}
use Rattle.sabr_model.specs.routes.Record.{record_of}
use Rattle.sabr_model.specs.routes.Route.{by_key, delivery_of, until_of, entry_of}
use Rattle.sabr_model.proofs.RouteLemmas.RoutesListed.{routes_are_listed}
use Rattle.sabr_plan.specs.Canonical.{contact_line, range_line, canonical_text}
use Rattle.sabr_laws.specs.OneText.{CanonicalTextsTellPlans}
use Rattle.sabr_laws.proofs.SameListing.{rising_alike, route_listed, listed_route, is_listing}
use Rattle.sabr_laws.proofs.Alike.{AgreeOn, agree_back, contacts_alike, route_alike, delivery_alike}
use Rattle.sabr_laws.proofs.PlanTexts.{AreSmall, GoesOnWithout, records_and_rest}

-- the numbers of a contact's line, and the contact of such numbers
abbrev contact_fields : Contact → List ℕ
contact_fields c = c.number ∷ c.start ∷ c.end ∷ c.from ∷ c.to ∷ c.rate ∷ []

abbrev contact_of : List ℕ → Contact
contact_of ns = record { number = get_or ns 0 0; from = get_or ns 3 0; to = get_or ns 4 0; start = get_or ns 1 0; end = get_or ns 2 0; rate = get_or ns 5 0 }

abbrev range_fields : Range → List ℕ
range_fields r = r.one ∷ r.other ∷ r.start ∷ r.end ∷ r.light ∷ []

abbrev range_of : List ℕ → Range
range_of ns = record { one = get_or ns 0 0; other = get_or ns 1 0; start = get_or ns 2 0; end = get_or ns 3 0; light = get_or ns 4 0 }

-- the numbers of records that obey the rules are below 2^64
small_contacts : (largest : ℕ) (cs : List Contact) → largest ≤ 20000 → AllByRecursion (λ c. IsWindow c.start c.end) cs → AllByRecursion (λ c. IsPair c.from c.to) cs → AllByRecursion (λ c. c.number ≤ largest) cs → AllByRecursion (λ c. c.rate < 2 ^ 64) cs
    → AllByRecursion (λ c. AreSmall (contact_fields c)) cs
small_contacts largest [] few windows nodes numbers rates = tt
small_contacts largest (c ∷ cs) few windows nodes numbers rates =
    let window = windows.0 in
    let pair = nodes.0 in
    let number = numbers.0 in (
      (omega arith, (omega arith, (omega arith, (pair.0.1, (pair.1.1, (rates.0, tt)))))),
      small_contacts largest cs few windows.1 nodes.1 numbers.1 rates.1,
    )

small_ranges : (rs : List Range) → AllByRecursion (λ r. IsWindow r.start r.end) rs → AllByRecursion (λ r. IsPair r.one r.other) rs → AllByRecursion (λ r. r.light ≤ 1000000) rs → AllByRecursion (λ r. AreSmall (range_fields r)) rs
small_ranges [] windows nodes lights = tt
small_ranges (r ∷ rs) windows nodes lights =
    let window = windows.0 in
    let pair = nodes.0 in
    let light = lights.0 in
    ((pair.0.1, (pair.1.1, (omega arith, (omega arith, (omega arith, tt))))), small_ranges rs windows.1 nodes.1 lights.1)

-- no contact's line follows the last
ranges_follow : (rs : List Range) → GoesOnWithout 99 (flat_map range_line rs ++ codes "end\n")
unfolding range_line
ranges_follow [] = λ e. omega arith
ranges_follow (r ∷ rs) = λ e. omega arith

-- the lines of a plan
abbrev body : ContactPlan → List ℕ
body p = (flat_map contact_line p.contacts ++ flat_map range_line p.ranges) ++ codes "end\n"

-- the ranges' lines after those of the contacts
ranges_behind : (p q : ContactPlan) → body p ≡ body q → flat_map contact_line p.contacts ++ (flat_map range_line p.ranges ++ codes "end\n") ≡ flat_map contact_line q.contacts ++ (flat_map range_line q.ranges ++ codes "end\n")
ranges_behind p q same =
    sym (append_assoc (flat_map contact_line p.contacts) (flat_map range_line p.ranges) (codes "end\n")) ∙ same
    ∙ append_assoc (flat_map contact_line q.contacts) (flat_map range_line q.ranges) (codes "end\n")

bodies : (p q : ContactPlan) → canonical_text p ≡ canonical_text q → body p ≡ body q
unfolding canonical_text
bodies p q same = append_cancel_left (codes "cgr-plan 1\n") (body p) (body q) same

module _ (p q : ContactPlan) (plan : IsPlan p) (other : IsPlan q) where
  records_same : body p ≡ body q → (p.contacts ≡ q.contacts) × (p.ranges ≡ q.ranges)
  unfolding contact_line range_line
  records_same same =
      let contacts = records_and_rest 99 contact_fields contact_of (λ c. refl) p.contacts q.contacts (flat_map range_line p.ranges ++ codes "end\n") (flat_map range_line q.ranges ++ codes "end\n")
      (small_contacts p.largest p.contacts plan.count plan.contact_windows plan.contact_nodes plan.numbers_given plan.rates)
      (small_contacts q.largest q.contacts other.count other.contact_windows other.contact_nodes other.numbers_given other.rates)
      (ranges_follow p.ranges) (ranges_follow q.ranges) (ranges_behind p q same) in
      let ranges = records_and_rest 114 range_fields range_of (λ r. refl) p.ranges q.ranges (codes "end\n") (codes "end\n")
      (small_ranges p.ranges plan.range_windows plan.range_nodes plan.lights) (small_ranges q.ranges other.range_windows other.range_nodes other.lights)
      (λ e. omega arith) (λ e. omega arith) contacts.1 in
      (contacts.0, ranges.0)

  module _ (contacts : p.contacts ≡ q.contacts) (ranges : p.ranges ≡ q.ranges) where
    -- each number names the same contact in both
    agree : (s : List ℕ) → AgreeOn p q s
    agree [] = tt
    agree (n ∷ s) = (ap (λ cs. find (λ (c : Contact). eqb c.number n) cs) contacts, agree s)

    deliver_alike : (r : RouteRequest) (s : List ℕ) → delivery_of p r s ≡ delivery_of q r s
    deliver_alike r s = delivery_alike p q r r ranges refl s refl (agree s)

    rise_alike : (r : RouteRequest) (s t : List ℕ) → by_key q r s t ≡ by_key p r s t
    rise_alike r s t =
        ap (λ d. by_numbers (d ∷ length s ∷ s) (delivery_of q r t ∷ length t ∷ t)) (sym (deliver_alike r s))
        ∙ ap (λ d. by_numbers (delivery_of p r s ∷ length s ∷ s) (d ∷ length t ∷ t)) (sym (deliver_alike r t))

    -- the listing of one is the rising list of the other's routes
    listed_alike : (r : RouteRequest) → routes p r ≡ routes q r
    listed_alike r =
        is_listing p r plan (routes q r)
        (rising_alike (by_key q r) (by_key p r) (routes q r) (λ s t i j. rise_alike r s t) (routes_are_listed q r other).rising)
        (λ s there. route_alike q p r s (sym ranges) (agree_back p q s (agree s)) (listed_route q r other s there))
        (λ s route. route_listed q r other s (route_alike p q r s ranges (agree s) route))

    record_alike : (r : RouteRequest) (s : List ℕ) → record_of p r s ≡ record_of q r s
    record_alike r s =
        ap (λ d. record { contacts = s; delivery = d; until = until_of p s; entry = entry_of p s }) (deliver_alike r s)
        ∙ ap (λ t. record { contacts = s; delivery = delivery_of q r s; until = t; entry = entry_of p s }) (ap (fold (λ m c. min m c.end) last_time) (contacts_alike p q s (agree s)))
        ∙ ap (λ v. record { contacts = s; delivery = delivery_of q r s; until = until_of q s; entry = v }) (enter_alike s)
      where
        enter_alike : (s : List ℕ) → entry_of p s ≡ entry_of q s
        enter_alike [] = refl
        enter_alike (n ∷ s) = ap (λ o. option_map_or (λ (c : Contact). c.to) o 0) (agree (n ∷ [])).0

pub canonical_texts_tell_plans : CanonicalTextsTellPlans
canonical_texts_tell_plans p q plan other same =
    let records = records_same p q plan other (bodies p q same) in
    record {
      contacts = records.0;
      ranges = records.1;
      listings = listed_alike p q plan other records.0 records.1;
      records = record_alike p q plan other records.0 records.1;
    }
