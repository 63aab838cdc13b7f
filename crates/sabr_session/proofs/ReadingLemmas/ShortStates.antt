-- What a text says of well-formed states over a plan is within its bounds.
use Rattle.std.proofs.Common.{◌≡◌, ℕ, ◌+◌, ◌*◌, ◌<◌, ◌≤◌, Bool, true, ltb, ◌⊎◌, inl, inr, List, [], ◌∷◌, ◌++◌, map, length, refl, sym, subst, arith, Option, Some, None, unwrap_or}
use Rattle.sabr_model.proofs.PlanLemmas.Deletions.{length-filter_le}
use Rattle.std.specs.List.{AllByRecursion, flat_map}
use Rattle.std.specs.Option.{option_map_or}
use Rattle.std.specs.Ordering.{nat_cmp}
use Rattle.std.specs.declared.cmp.Ordering.TheVariants.{Less, Equal, Greater}
use Rattle.std.proofs.lemmas.Bool.{and_parts, lt-ltb}
use Rattle.std.proofs.lemmas.Cmp.{ranked}
use Rattle.std.proofs.lemmas.List.{length-append, length-map}
use borrow.Author.Tests.{ltb-true}
use Rattle.sabr_model.specs.declared.contact.Contact.{Contact}
use Rattle.sabr_model.specs.plan.Plan.{ContactPlan, IsPlan, rises_above}
use Rattle.sabr_model.specs.routes.Arrival.{RouteRequest}
use Rattle.sabr_model.specs.routes.Asking.{IsRequest}
use Rattle.sabr_model.specs.Order.{by_numbers, put_in}
use Rattle.sabr_model.specs.routes.Parts.{in_part}
use Rattle.sabr_model.specs.routes.Route.{chain_end, is_path, is_prefix, is_route}
use Rattle.sabr_model.proofs.ListLemmas.Members.{IsIn}
use Rattle.sabr_model.proofs.ListLemmas.Begins.{first_hop}
use Rattle.sabr_model.proofs.RouteLemmas.Listed.{named_is}
use Rattle.sabr_model.proofs.RouteLemmas.Paths.{path_facts, value_of}
use Rattle.sabr_model.proofs.RouteLemmas.Routes.{route_facts}
use Rattle.sabr_frontier.specs.listing.Rising.{Rises}
use Rattle.sabr_frontier.specs.listing.Rising as rising
use Rattle.sabr_frontier.specs.listing.Tree.{set_of}
use Rattle.sabr_frontier.specs.listing.State.{PartState, State, pair_of, Member, leaves_of, leaves}
use Rattle.sabr_frontier.specs.listing.Listing.{IsState}
use Rattle.sabr_frontier.proofs.ListingLemmas.ClosedTrees.{Number_has, leaves_has}
use Rattle.sabr_frontier.proofs.ListingLemmas.AllRoutes.{within_goes_on, route_filled}
use Rattle.sabr_frontier.proofs.ListingLemmas.ListMembers.{Member-map}
use Rattle.sabr_session.specs.SessionText.{HasText}
use Rattle.sabr_session.specs.SessionRead.{rise_strictly}
use Rattle.sabr_session.specs.SessionWords.{most_number}
use Rattle.sabr_session.proofs.WordLemmas.SpelledWords.{AreWithin}
use Rattle.sabr_session.proofs.TextLemmas.SpelledLines.{IsContactList, PartIsTellable, IsPartOf, ArePartsOf}

-- what a text says of a state
pub record StateIsTellable (p : ContactPlan) (r : RouteRequest) (s : State) : Type 0 where
  pub given : s.emitted ≤ 340282366920938463463374607431768211455
  pub latest : IsContactList s.last
  pub each : ArePartsOf p r s.parts

-- numbers that a contact can have
abbrev AreLow : List ℕ → Type 0
AreLow = AreWithin 1 20000

low_within : (ns : List ℕ) → AreLow ns → AreWithin 1 most_number ns
low_within [] h = tt
low_within (n ∷ ns) h = ((h.0.0, omega (arith, h.0.1)), low_within ns h.1)

low_back : (ns ms : List ℕ) → AreLow (ns ++ ms) → AreLow ms
low_back [] ms h = h
low_back (n ∷ ns) ms h = low_back ns ms h.1

-- the numbers of a list of which each is from 1 to 20000
low_from : (X : List ℕ) → ((x : ℕ) → Member x X → (1 ≤ x) × (x ≤ 20000)) → AreLow X
low_from [] h = tt
low_from (x ∷ X) h = (h x (inl refl), low_from X (λ y m. h y (inr m)))

given_number : (low top : ℕ) (cs : List Contact) (c : Contact) → rises_above low (map (λ d. d.number) cs) ≡ true → AllByRecursion (λ d. d.number ≤ top) cs → IsIn c cs
    → (low < c.number) × (c.number ≤ top)
given_number low top [] c up all i = absurd i
given_number low top (d ∷ cs) c up all i =
    let parts = and_parts (ltb low d.number) (rises_above d.number (map (λ (f : Contact). f.number) cs)) up in
    let first = ltb-true low d.number parts.0 in
    elim i [
      | inl e ↦ subst (λ (x : Contact). (low < x.number) × (x.number ≤ top)) (sym e) (first, all.0)
      | inr k ↦ let rest = given_number d.number top cs c parts.1 all.1 k in (omega (arith, first, rest.0), rest.1)
    ]

-- increasing numbers up to 20000
rising_few : (x : ℕ) (X : List ℕ) → Rises nat_cmp (x ∷ X) → AreLow (x ∷ X) → length X + x ≤ 20000
rising_few x [] up low = let h = low.0.1 in omega (arith, h)
rising_few x (y ∷ X) up low =
    let step : x < y = ranked x y Less (sym up.0.0) in
    let rest = rising_few y X up.1 low.1 in
    omega (arith, step, rest)

few : (X : List ℕ) → Rises nat_cmp X → AreLow X → length X ≤ 20000
few [] up low = omega arith
few (x ∷ X) up low = let h = rising_few x X up low in let one = low.0.0 in omega (arith, h, one)

rises_are_above : (x : ℕ) (X : List ℕ) → Rises nat_cmp (x ∷ X) → rises_above x X ≡ true
rises_are_above x [] up = refl
rises_are_above x (y ∷ X) up = rw (lt-ltb x y (ranked x y Less (sym up.0.0))) (rises_are_above y X up.1)

rise_strict : (X : List ℕ) → Rises nat_cmp X → rise_strictly X ≡ true
rise_strict [] up = refl
rise_strict (x ∷ X) up = rises_are_above x X up

module _ (p : ContactPlan) (r : RouteRequest) (good : IsPlan p) (asked : IsRequest r) where
  chain_low : (a : ℕ) (s : List ℕ) (b : ℕ) → chain_end p a s ≡ Some b → AreLow s
  chain_low a [] b e = tt
  chain_low a (n ∷ s) b e =
      let h = first_hop p a n s b e in
      let m = named_is p.contacts n h.contact h.named in
      let bounds = given_number 0 p.largest p.contacts h.contact good.numbers_rise good.numbers_given m.0 in
      let low = bounds.0 in
      let high = bounds.1 in
      let same = m.1 in
      let most = good.count in
      ((omega (arith, low, same), omega (arith, high, same, most)), chain_low h.contact.to s b h.rest)

  path_low : (s : List ℕ) → is_path p r s ≡ true → AreLow s
  path_low s h = let end = value_of (chain_end p r.source s) (path_facts p r s h).chained in chain_low r.source s end.0 end.1

  path_list : (s : List ℕ) → is_path p r s ≡ true → IsContactList s
  path_list s h =
      let hops = (path_facts p r s h).within in
      let most = asked.hops.1 in
      record { within = low_within s (path_low s h); few = omega (arith, hops, most) }

  prefix_list : (s : List ℕ) → is_prefix p r s ≡ true → IsContactList s
  unfolding is_prefix
  prefix_list s h = path_list s (and_parts (is_path p r s) _ h).0

  route_list : (s : List ℕ) → is_route p r s ≡ true → IsContactList s
  route_list s h =
      let hops = (route_facts p r s h).within in
      let most = asked.hops.1 in
      record { within = low_within s (chain_low r.source s r.destination (route_facts p r s h).reaches); few = omega (arith, hops, most) }

  no_list : IsContactList []
  no_list = record { within = tt; few = omega arith }

  module _ (s : State) (is : IsState p r s) where
    excluded_low : (q X : List ℕ) → Member (q, X) (map pair_of s.parts) → AreLow X
    excluded_low q X m =
        low_from X (λ x k.
        (low_back q (x ∷ []) (path_low (q ++ x ∷ []) (is.closed.below q X x m (Number_has x X k)).0)).0)

    excluded_few : (q X : List ℕ) → Member (q, X) (map pair_of s.parts) → length X ≤ 20000
    excluded_few q X m = few X (is.order.numbers q X m) (excluded_low q X m)

    carried_list : (t : PartState) → Member t s.parts → (o : Option (List ℕ)) → t.carried ≡ o → IsContactList (unwrap_or o [])
    carried_list t m None e = no_list
    carried_list t m (Some c) e = route_list c (is.carried t c m e).0

    part_is_tellable : (t : PartState) → Member t s.parts → PartIsTellable t
    part_is_tellable t m =
        let pair = Member-map pair_of t s.parts m in
        record {
          prefix = prefix_list t.prefix (is.closed.fit t.prefix t.excluded pair);
          excluded = record { within = low_within t.excluded (excluded_low t.prefix t.excluded pair); few = excluded_few t.prefix t.excluded pair };
          route = carried_list t m t.carried refl;
          some_hop = λ e. route_filled p r (is.carried t [] m e).0;
        }

    part_carries : (t : PartState) → Member t s.parts → (o : Option (List ℕ)) → t.carried ≡ o → option_map_or (in_part p r t.prefix t.excluded) o true ≡ true
    part_carries t m None e = refl
    part_carries t m (Some c) e =
        let is_one = is.carried t c m e in
        rw (is_one.0, within_goes_on t.prefix t.excluded c is_one.1) refl

    part_is : (t : PartState) → Member t s.parts → IsPartOf p r t
    part_is t m = record {
      told = part_is_tellable t m;
      rising = rise_strict t.excluded (is.order.numbers t.prefix t.excluded (Member-map pair_of t s.parts m));
      carries = part_carries t m t.carried refl;
    }

    latest_list : (s.last ≡ []) ⊎ (rising.has by_numbers s.last (leaves (is_route p r) (map pair_of s.parts)) ≡ true) → IsContactList s.last
    latest_list (inl e) = rw e no_list
    latest_list (inr h) = route_list s.last (leaves_has (is_route p r) s.last (map pair_of s.parts) h).6

parts_are : (p : ContactPlan) (r : RouteRequest) (ts : List PartState) → ((t : PartState) → Member t ts → IsPartOf p r t) → ArePartsOf p r ts
parts_are p r [] h = tt
parts_are p r (t ∷ ts) h = (h t (inl refl), parts_are p r ts (λ u m. h u (inr m)))

-- ---- how many leaves there are at most

length-put_in-le : (x : List ℕ) (ys : List (List ℕ)) → length (put_in by_numbers x ys) ≤ length ys + 1
length-put_in-le x [] = omega arith
length-put_in-le x (y ∷ ys) = elim (by_numbers x y) as (λ o. length {A = List ℕ} (elim o [ Less ↦ x ∷ y ∷ ys | Equal ↦ y ∷ ys | Greater ↦ y ∷ put_in by_numbers x ys ]) ≤ length (y ∷ ys) + 1) [
  | Less ↦ omega arith
  | Equal ↦ omega arith
  | Greater ↦ let rest = length-put_in-le x ys in omega (arith, rest)
]

length-set_of-le : (S : List (List ℕ)) → length (set_of S) ≤ length S
length-set_of-le [] = omega arith
length-set_of-le (s ∷ S) =
    let here = length-put_in-le s (set_of S) in
    let rest = length-set_of-le S in
    omega (arith, here, rest)

module _ (route : List ℕ → Bool) where
  leaves_few : (T : List (List ℕ × List ℕ)) → ((p X : List ℕ) → Member (p, X) T → length X ≤ 20000) → length (flat_map (leaves_of route) T) ≤ length T * 20000
  leaves_few [] h = omega arith
  leaves_few (e ∷ T) h =
      let here = length-filter_le route (map (λ x. e.0 ++ x ∷ []) e.1) in
      let same = length-map e.1 (λ x. e.0 ++ x ∷ []) in
      let most = h e.0 e.1 (inl refl) in
      let rest = leaves_few T (λ p X m. h p X (inr m)) in
      let joined = length-append (leaves_of route e) (flat_map (leaves_of route) T) in
      omega (arith, here, same, most, rest, joined)

module _ (p : ContactPlan) (r : RouteRequest) (good : IsPlan p) (asked : IsRequest r) (s : State) (is : IsState p r s) where
  given_within : HasText s → s.emitted ≤ 340282366920938463463374607431768211455
  given_within text =
      let set = length-set_of-le (flat_map (leaves_of (is_route p r)) (map pair_of s.parts)) in
      let most = leaves_few (is_route p r) (map pair_of s.parts) (excluded_few p r good asked s is) in
      let same = length-map s.parts pair_of in
      let count = is.count in
      omega (arith, set, most, same, count, text)

  -- a state that has a text
  pub state_is_tellable : HasText s → StateIsTellable p r s
  state_is_tellable text = record {
    given = given_within text;
    latest = latest_list p r good asked s is (elim is.right [ inl e ↦ inl e.0 | inr h ↦ inr h ]);
    each = parts_are p r s.parts (part_is p r good asked s is);
  }
