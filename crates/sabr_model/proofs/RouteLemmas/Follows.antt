-- Steps of following a list of contacts.
use Rattle.sabr_model.proofs.ListLemmas.Names.{◌≡◌, ◌≢◌, ℕ, IfSome, ◌+◌, ◌*◌, ◌/◌, ◌%◌, ◌^◌, ◌<◌, ◌≤◌, false, true, cond, ◌||◌, eqb, List, [], ◌∷◌, ◌++◌, map, length, take, drop, get_or, replicate, slice_get, slice_index_or, slice_set, bit_and, bit_or, w64, zero, suc, inl, inr, refl, sym, ap, ◌∙◌, append_assoc, append-nil, take-append-drop, arith, add-one, drop-cons, IsTrue, list_any, cons_option, option_map_or, Some, None, mod-lt, eq-eqb, ne_eqb, or_right, get_or-set_same, get_or-set_other, list_any-append, Contact, HopFault, WrongEnd, ContactPlan, TabledPlan, IsPlan, IsWindow, contact_named, has, last_time, IsHopOf, IsTabled, RouteRequest, arrival, receivers, contacts_of, ends_at, is_path, is_route, fault_at, fault_or, first_fault, fault_of, AreMet, IsFollowedPath, IsReachedBy, receives, cases_eq, length-append}
use Rattle.std.specs.Int.{bit_at}
use Rattle.std.proofs.lemmas.Nat.Bits.{bit_at-zero, bit_at_set_same, bit_at_set_other, shr_and_one}
use Rattle.sabr_model.specs.declared.following.FollowedPath.{FollowedPath}
use Rattle.sabr_model.specs.declared.following.Reached.{Reached}
use Rattle.sabr_model.specs.declared.hop.Hop.{Hop}
use Rattle.sabr_model.specs.declared.node_set.NodeSet.{NodeSet}
use Rattle.sabr_model.specs.routes.Hops.{IsSmall, hop_arrival}
use Rattle.sabr_model.specs.routes.Following.{has_index}
use Rattle.sabr_model.proofs.ListLemmas.Begins.{receivers-append, receivers-cons}
use Rattle.sabr_model.proofs.ListLemmas.Members.{all_in}
use Rattle.sabr_model.proofs.PlanLemmas.RangeOrder.{light_of_limit}
use Rattle.sabr_model.proofs.PlanLemmas.Tabled.{place_one}
use Rattle.sabr_model.proofs.RouteLemmas.Faults.{good_is_hop, path_is_good}
use Rattle.sabr_model.proofs.RouteLemmas.Listed.{named_is}
use Rattle.sabr_model.proofs.RouteLemmas.Paths.{chain_end_push, arrival_after_push, path_push, route_from_path}

-- the contact with a number ends in time
pub ends_in_time : (p : ContactPlan) (n : ℕ) (c : Contact) → IsPlan p → contact_named p n ≡ Some c → c.end ≤ last_time
ends_in_time p n c good named = (all_in (λ (d : Contact). IsWindow d.start d.end) p.contacts good.contact_windows c (named_is p.contacts n c named).0).1

-- a node receives one of the contacts of these numbers
pub any_receives : (p : ContactPlan) (node : ℕ) (s : List ℕ) → list_any (receives p node) s ≡ has node (receivers p s)
any_receives p node [] = refl
any_receives p node (n ∷ s) =
    elim (contact_named p n) as (λ o. (option_map_or (λ (c : Contact). eqb node c.to) o false || list_any (receives p node) s) ≡ has node (map (λ (c : Contact). c.to) (cons_option o (contacts_of p s)))) [
      | None ↦ any_receives p node s
      | Some c ↦ ap (λ b. eqb node c.to || b) (any_receives p node s)
    ]

pub reached_on : (p : ContactPlan) (r : RouteRequest) (s : List ℕ) (n : ℕ) (c : Contact) (here : Reached) (at : ℕ) → contact_named p n ≡ Some c → IsReachedBy p r s here → here.node ≡ c.from → arrival p r here.at c ≡ Some at
    → IsReachedBy p r (s ++ n ∷ []) (record { node = c.to; at = at })
reached_on p r s n c here at named reached same arrives =
    record {
      node = chain_end_push p r.source s n c named (reached.node ∙ ap Some same);
      at = arrival_after_push p r r.at s n c here.at at named reached.at arrives;
    }

pub received_behind : (p : ContactPlan) (node : ℕ) (s : List ℕ) (i : ℕ) → i < length s → has node (receivers p s) ≡ list_any (receives p node) (drop i s) → receives p node (get_or s i 0) ≡ false → has node (receivers p s) ≡ list_any (receives p node) (drop (i + 1) s)
received_behind p node s i lt e h =
    let step : list_any (receives p node) (drop i s) ≡ (receives p node (get_or s i 0) || list_any (receives p node) (drop (i + 1) s)) = rw (drop-cons s i 0, add-one) refl in
    e ∙ step ∙ ap (λ b. b || list_any (receives p node) (drop (i + 1) s)) h

-- the first fault of two lists, one after the other
first_fault-append : (p : ContactPlan) (r : RouteRequest) (q s t : List ℕ) → first_fault p r q (s ++ t) ≡ fault_or (first_fault p r q s) (first_fault p r (q ++ s) t)
first_fault-append p r q [] t = ap (λ u. first_fault p r u t) (sym (append-nil q))
first_fault-append p r q (n ∷ s) t =
    elim (fault_at p r q n) as (λ o. fault_or o (first_fault p r (q ++ n ∷ []) (s ++ t)) ≡ fault_or (fault_or o (first_fault p r (q ++ n ∷ []) s)) (first_fault p r (q ++ n ∷ s) t)) [
      | Some f ↦ refl
      | None ↦ first_fault-append p r (q ++ n ∷ []) s t ∙ ap (λ u. fault_or (first_fault p r (q ++ n ∷ []) s) (first_fault p r u t)) (append_assoc q (n ∷ []) s)
    ]

pub some_behind : (s : List ℕ) (n : ℕ) → 0 < length (s ++ n ∷ [])
some_behind s n = omega (arith, length-append s (n ∷ []))

-- the fault of a list that is not empty
fault_of_some : (p : ContactPlan) (r : RouteRequest) (s : List ℕ) → 0 < length s → fault_of p r s ≡ fault_or (first_fault p r [] s) (cond (ends_at p r s) None (Some WrongEnd))
fault_of_some p r [] some = absurd (omega arith)
fault_of_some p r (n ∷ s) some = refl

-- a path to a node other than the destination has a wrong end
pub ends_elsewhere : (p : ContactPlan) (r : RouteRequest) (s : List ℕ) (here : Reached) → 0 < length s → IsTrue (is_path p r s) → IsReachedBy p r s here → (here.node ≡ r.destination → ⊥) → fault_of p r s ≡ Some WrongEnd
ends_elsewhere p r s here some path reached other =
    fault_of_some p r s some
    ∙ ap (λ o. fault_or o (cond (ends_at p r s) None (Some WrongEnd))) (path_is_good p r [] s path)
    ∙ ap (λ o. cond (option_map_or (λ b. eqb b r.destination) o false) None (Some WrongEnd)) reached.node
    ∙ ap (λ b. cond b None (Some WrongEnd)) (ne_eqb here.node r.destination other)

-- a path to the destination is a route
pub ends_there : (p : ContactPlan) (r : RouteRequest) (s : List ℕ) (here : Reached) → 0 < length s → IsTrue (is_path p r s) → IsReachedBy p r s here → here.node ≡ r.destination → IsTrue (is_route p r s)
ends_there p r s here some path reached same = route_from_path p r s path some (reached.node ∙ ap Some same)

-- the fault after a path is that of the number
pub first_fault_behind : (p : ContactPlan) (r : RouteRequest) (s : List ℕ) (n : ℕ) (f : HopFault) → IsTrue (is_path p r s) → fault_at p r s n ≡ Some f → first_fault p r [] (s ++ n ∷ []) ≡ Some f
first_fault_behind p r s n f path fault =
    first_fault-append p r [] s (n ∷ []) ∙ ap (λ o. fault_or o (first_fault p r s (n ∷ []))) (path_is_good p r [] s path) ∙ ap (λ o. fault_or o None) fault

pub path_behind : (p : ContactPlan) (r : RouteRequest) (s : List ℕ) (n : ℕ) → IsTrue (is_path p r s) → fault_at p r s n ≡ None → IsTrue (is_path p r (s ++ n ∷ []))
path_behind p r s n path good = path_push p r s n path (good_is_hop p r s n path good)

-- if the front has no fault, the first fault is among the numbers after it
pub front_is_good : (p : ContactPlan) (r : RouteRequest) (s : List ℕ) (i : ℕ) → IsTrue (is_path p r (take i s)) → first_fault p r [] s ≡ first_fault p r (take i s) (drop i s)
front_is_good p r s i path =
    ap (first_fault p r []) (sym (take-append-drop i s)) ∙ first_fault-append p r [] (take i s) (drop i s)
    ∙ ap (λ o. fault_or o (first_fault p r (take i s) (drop i s))) (path_is_good p r [] (take i s) path)

-- ---- paths that go on, and the sets of nodes that they met

-- the hop of a contact is small
pub hop_is_small : (p : TabledPlan) (n : ℕ) (c : Contact) (h : Hop) → IsPlan p.plan → contact_named p.plan n ≡ Some c → IsHopOf p c h → IsSmall h
hop_is_small p n c h rules named is = record {
  ends = rw is.end (ends_in_time p.plan n c rules named);
  near = rw is.light (light_of_limit p.plan c rules);
}

-- a bundle arrives over the hop as over the contact
pub hop_arrives : (p : TabledPlan) (r : RouteRequest) (t : ℕ) (c : Contact) (h : Hop) → IsHopOf p c h → hop_arrival r.margin t h ≡ arrival p.plan r t c
hop_arrives p r t c h is = rw (is.start, is.end, is.light) refl

-- the nodes of a path and one more hop
pub met_more : (p : TabledPlan) (front : List ℕ) (n k : ℕ) (c : Contact) (old new : NodeSet) → IsTabled p → contact_named p.plan n ≡ Some c → slice_get p.table k ≡ Some c.to
    → AreMet p old front → has_index new k ≡ true → ((j : ℕ) → j ≢ k → has_index new j ≡ has_index old j) → AreMet p new (front ++ n ∷ [])
met_more p front n k c old new tabled named there before this others j node at =
    let both : has node (receivers p.plan (front ++ n ∷ [])) ≡ (has node (receivers p.plan front) || (eqb node c.to || false)) =
    ap (has node) (receivers-append p.plan front (n ∷ [])) ∙ list_any-append (eqb node) (receivers p.plan front) (receivers p.plan (n ∷ []))
    ∙ ap (λ ys. has node (receivers p.plan front) || has node ys) (receivers-cons p.plan n [] c named) in
    rw both
    (elim (cases_eq j k) [
      | inl e ↦
          let node_is : node ≡ c.to = (let q : Some node ≡ Some c.to = sym at ∙ ap (slice_get p.table) e ∙ there in cc (q)) in
          rw (e, this, eq-eqb node c.to node_is) (sym (or_right (has node (receivers p.plan front)) true refl))
      | inr other ↦
          let differs : eqb node c.to ≡ false = ne_eqb node c.to (λ e. other (place_one p.table j k node tabled.once at (there ∙ ap Some (sym e)))) in
          rw (others j other, differs, before j node at) (elim (has node (receivers p.plan front)) as (λ b. b ≡ (b || false)) [ true ↦ refl | false ↦ refl ])
    ])

-- a number without a contact adds no node
pub met_still : (p : TabledPlan) (front : List ℕ) (n : ℕ) (met : NodeSet) → contact_named p.plan n ≡ None → AreMet p met front → AreMet p met (front ++ n ∷ [])
met_still p front n met none before k node at =
    before k node at ∙ ap (has node) (sym (receivers-append p.plan front (n ∷ []) ∙ ap (λ o. receivers p.plan front ++ map (λ (c : Contact). c.to) (cons_option o [])) none ∙ append-nil (receivers p.plan front)))

-- a path goes on by a hop without a fault
pub path_goes_on : (p : TabledPlan) (r : RouteRequest) (front : List ℕ) (n : ℕ) (old new : FollowedPath) → IsFollowedPath p r front old → fault_at p.plan r front n ≡ None
    → IsReachedBy p.plan r (front ++ n ∷ []) new.here → IfSome new.met (λ met. AreMet p met (front ++ n ∷ [])) → IsFollowedPath p r (front ++ n ∷ []) new
path_goes_on p r front n old new path good reached met = record {
  rules = path.rules;
  tabled = path.tabled;
  few = path.few;
  path = path_behind p.plan r front n path.path good;
  reached = reached;
  nodes = met;
}

-- the first fault on the way along a list is the list's
pub fault_on : (p : ContactPlan) (r : RouteRequest) (s : List ℕ) (i : ℕ) (f : HopFault) → i < length s → IsTrue (is_path p r (take i s)) → fault_at p r (take i s) (get_or s i 0) ≡ Some f → fault_of p r s ≡ Some f
fault_on p r s i f lt path bad =
    let behind : drop i s ≡ get_or s i 0 ∷ drop (i + 1) s = rw (drop-cons s i 0, add-one) refl in
    fault_of_some p r s (omega (arith, lt))
    ∙ ap (λ o. fault_or o (cond (ends_at p r s) None (Some WrongEnd))) (front_is_good p r s i path ∙ ap (first_fault p r (take i s)) behind ∙ ap (λ o. fault_or o (first_fault p r (take i s ++ get_or s i 0 ∷ []) (drop (i + 1) s))) bad)

-- ---- sets of nodes as arrays of bits

zeros : (n i : ℕ) → slice_index_or (replicate {A = ℕ} n 0) i 0 ≡ 0
zeros zero i = refl
zeros (suc n) zero = refl
zeros (suc n) (suc i) = zeros n i

pub none_in : (k : ℕ) → has_index (record { words = replicate {A = ℕ} 625 0 }) k ≡ false
unfolding has_index
none_in k = rw (zeros 625 (k / 64), bit_at-zero (k % 64)) refl

pub tested : (set : NodeSet) (k : ℕ) → eqb (bit_and (slice_index_or set.words (k / 64) 0 / 2 ^ (k % 64)) 1) 1 ≡ has_index set k
unfolding has_index
tested set k = ap (λ b. eqb b 1) (shr_and_one (slice_index_or set.words (k / 64) 0) (k % 64))

-- the words with one bit more
abbrev pub with_bit : List ℕ → ℕ → List ℕ
with_bit words k = slice_set words (k / 64) (bit_or (slice_index_or words (k / 64) 0) (1 * 2 ^ (k % 64) % 18446744073709551616))

pub in_it : (words : List ℕ) (k : ℕ) → k / 64 < length words → has_index (record { words = with_bit words k }) k ≡ true
unfolding has_index
in_it words k less =
    let b : k % 64 < 64 = mod-lt k (omega arith) in
    ap (λ w. eqb (bit_at w (k % 64)) 1) (get_or-set_same words (k / 64) (bit_or (slice_index_or words (k / 64) 0) (1 * 2 ^ (k % 64) % 18446744073709551616)) 0 less)
    ∙ ap (λ b. eqb b 1) (bit_at_set_same w64 (slice_index_or words (k / 64) 0) (k % 64) b)

pub others_stay : (words : List ℕ) (k j : ℕ) → k / 64 < length words → j ≢ k → has_index (record { words = with_bit words k }) j ≡ has_index (record { words = words }) j
unfolding has_index
others_stay words k j less other =
    let b : k % 64 < 64 = mod-lt k (omega arith) in
    let new = bit_or (slice_index_or words (k / 64) 0) (1 * 2 ^ (k % 64) % 18446744073709551616) in
    elim (cases_eq (j / 64) (k / 64)) [
      | inl row ↦
          let column : j % 64 ≢ k % 64 = λ e. other (omega arith) in
          rw row
          (ap (λ w. eqb (bit_at w (j % 64)) 1) (get_or-set_same words (k / 64) new 0 less)
          ∙ ap (λ b. eqb b 1) (bit_at_set_other w64 (slice_index_or words (k / 64) 0) (k % 64) b (j % 64) column))
      | inr apart ↦ ap (λ w. eqb (bit_at w (j % 64)) 1) (get_or-set_other words (k / 64) (j / 64) new 0 apart)
    ]
