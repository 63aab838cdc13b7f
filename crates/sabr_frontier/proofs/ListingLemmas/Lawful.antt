-- The laws of the frontier, from what holds for any notion of route, and the states of places.
use Rattle.sabr_frontier.proofs.Names.{◌≡◌, ℕ, zero, suc, ◌+◌, ◌<◌, ◌≤◌, Bool, true, ltb, List, [], ◌∷◌, ◌++◌, map, take, drop, length, sym, ap, subst, ◌∙◌, ◌⊎◌, inl, inr, arith, Some, None, false, is_some, slice_get, false_from_ne_true, lt-ltb, cases_Bool, le-ltb, cases_lt, by_numbers, ContactPlan, IsPlan, RouteRequest, is_route, is_path, is_prefix, by_key, before, routes, page_of, goes_on, least_in, has, Rises, tree, numbers_after, pair_of, PartState, Member, last_of, State, Within, state_of, given, full, next_route, one_step, given_first, steps, leaves_in, IsState, PartsDivide, StatesAreTold, StepsFollow, CarriesLeast, LeavesComeFirst, drop_all, take_all, take-append-drop, length-take, option_map, is_lt, Less, key_total}
use Rattle.sabr_frontier.specs.listing.Listing.{state_at}
use Rattle.sabr_frontier.proofs.ListingLemmas.ClosedTrees.{In, In_Member, Member_In, tree_has, has_tree, set_of_has, closed_tree}
use Rattle.sabr_frontier.proofs.ListingLemmas.Division.{in_some_part, in_one_part, taken_in_none, Rises-parts, RiseInTurn}
use Rattle.sabr_frontier.proofs.ListingLemmas.NextPlace.{next_is, step_is, none_left, carried_outside, leaves_of_parts, verified, last_largest}
use Rattle.sabr_frontier.proofs.ListingLemmas.AllRoutes.{route_filled, routes_apart, within_goes_on, goes_on_within, member_of, contains_of, by_key_exact, routes_rise, routes_complete}
use Rattle.sabr_frontier.proofs.SessionLemmas.Pages.{steps_stop, steps_go, steps_none}
use Rattle.std.proofs.lemmas.List.{length-take-le}
use Rattle.sabr_frontier.proofs.TreeLemmas.ModifiedPlaces.{within_get}
use Rattle.sabr_frontier.proofs.ListingLemmas.ListMembers.{not_less_itself, turned, Member-map_cases, Member-append_left, Member-append_cases}
use Rattle.sabr_frontier.proofs.ListingLemmas.NewRoutes.{new_routes}
use Rattle.sabr_frontier.proofs.TreeLemmas.SoundSteps.{first_formed}

-- ---- how the parts divide the routes

pub parts_divide : PartsDivide
parts_divide p r S routes_given s is =
    let route : List ℕ → Bool = is_route p r in
    let given : (t : List ℕ) → In t S → route t ≡ true = λ t h. routes_given t (contains_of t S (Member_In t S h)) in
    record {
      covered = elim (cases_Bool (has by_numbers s S)) [
        | inl h ↦ inl (contains_of s S (Member_In s S h))
        | inr h ↦
            let w = in_some_part route (routes_apart p r) S given s is h (λ e. route_filled p r (subst (λ z. route z ≡ true) e is)) in
            inr ((w.0, numbers_after w.0 S), contains_of (w.0, numbers_after w.0 S) (tree S) (has_tree w.0 S w.1), within_goes_on w.0 (numbers_after w.0 S) s w.2)
      ];
      never_both = λ c a m. false_from_ne_true (goes_on a.0 a.1 s) (λ g.
          let t = tree_has a.0 a.1 S (member_of a (tree S) m) in
          taken_in_none route (routes_apart p r) S given s is (In_Member s S (member_of s S c)) a.0 (subst (λ Z. Within a.0 Z s) t.1 (goes_on_within a.0 a.1 s g)));
      one_part = λ a b m n g h.
          let t = tree_has a.0 a.1 S (member_of a (tree S) m) in
          let u = tree_has b.0 b.1 S (member_of b (tree S) n) in
          let same : a.0 ≡ b.0 = in_one_part route (routes_apart p r) S given s is a.0 b.0 t.0 u.0 (subst (λ Z. Within a.0 Z s) t.1 (goes_on_within a.0 a.1 s g)) (subst (λ Z. Within b.0 Z s) u.1 (goes_on_within b.0 b.1 s h)) in
          let excluded : a.1 ≡ b.1 = t.1 ∙ ap (λ z. numbers_after z S) same ∙ sym u.1 in
          λ i. (same i, excluded i);
    }

-- ---- what a well-formed state tells

pub states_are_told : StatesAreTold
states_are_told p r s formed = record {
  pairs = closed_tree (is_route p r) (is_path p r) (is_prefix p r) (map pair_of s.parts) formed.order formed.closed;
  placed = λ good. verified p r good s formed;
}

-- ---- how steps follow the list

split_at : {X : Type 0} (xs : List X) (i : ℕ) (x : X) → slice_get xs i ≡ Some x → (drop i xs ≡ x ∷ drop (suc i) xs) × (take (suc i) xs ≡ take i xs ++ x ∷ [])
split_at [] i x e = absurd cc
split_at (y ∷ xs) zero x e = let same : y ≡ x = cc in (ap (λ z. z ∷ xs) same, ap (λ z. z ∷ []) same)
split_at (y ∷ xs) (suc i) x e = let w = split_at xs i x e in (w.0, ap (λ z. y ∷ z) w.1)

here_or_past : {X : Type 0} (xs : List X) (i : ℕ) → ((x : X) × (slice_get xs i ≡ Some x) × (i < length xs)) ⊎ ((drop i xs ≡ []) × (take i xs ≡ xs) × (length xs ≤ i))
here_or_past xs i = elim (cases_lt i (length xs)) [ inl l ↦ let w = within_get xs i l in inl (w.0, w.1, l) | inr l ↦ inr (drop_all i xs l, take_all i xs l, l) ]

module _ (p : ContactPlan) (r : RouteRequest) (good : IsPlan p) where
  abbrev L : List (List ℕ)
  L = routes p r

  next_at : (i : ℕ) (s : List ℕ) → slice_get L i ≡ Some s → one_step p r (state_at p r i) ≡ Some (s, state_at p r (suc i))
  unfolding state_at
  next_at i s e =
      let w = split_at L i s e in
      step_is p r good (take i L) (drop (suc i) L) s (sym (take-append-drop i L) ∙ ap (λ z. take i L ++ z) w.0) ∙ ap (λ A. Some (s, state_of (least_in p r) A)) (sym w.1)

  carries_at : (i : ℕ) → is_some (next_route p r (state_at p r i)) ≡ ltb i (length L)
  unfolding state_at
  carries_at i = elim (here_or_past L i) [
    | inl w ↦
        ap is_some (next_is p r good (take i L) (drop (suc i) L) w.0 (sym (take-append-drop i L) ∙ ap (λ z. take i L ++ z) (split_at L i w.0 w.1).0)) ∙ sym (lt-ltb i (length L) w.2)
    | inr w ↦ ap (λ A. is_some (next_route p r (state_of (least_in p r) A))) w.1 ∙ ap is_some (none_left p r good) ∙ sym (le-ltb i (length L) w.2)
  ]

  past : (i : ℕ) → take i L ≡ L → one_step p r (state_at p r i) ≡ None
  unfolding state_at
  past i e = ap (λ A. one_step p r (state_of (least_in p r) A)) e ∙ ap (option_map (given (is_route p r) (least_in p r) (state_of (least_in p r) L))) (none_left p r good)

  pages_at : (k i : ℕ) → steps p r k (state_at p r i) ≡ (take k (drop i L), state_at p r (i + length (take k (drop i L))))
  pages_at zero i = steps_none p r (state_at p r i) ∙ ap (λ n. ([], state_at p r n)) (let e : i ≡ i + 0 = omega arith in e)
  pages_at (suc k) i = elim (here_or_past L i) [
    | inl w ↦
        let rest = pages_at k (suc i) in
        let n : ℕ = length (take k (drop (suc i) L)) in
        let count : suc i + n ≡ i + length (w.0 ∷ take k (drop (suc i) L)) = omega arith in
        steps_go p r (state_at p r i) (state_at p r (suc i)) w.0 k (next_at i w.0 w.1)
        ∙ ap (given_first w.0) rest
        ∙ ap (λ m. (w.0 ∷ take k (drop (suc i) L), state_at p r m)) count
        ∙ ap (λ D. (take (suc k) D, state_at p r (i + length (take (suc k) D)))) (sym (split_at L i w.0 w.1).0)
    | inr w ↦
        steps_stop p r (state_at p r i) (suc k) (past i w.1)
        ∙ ap (λ n. ([], state_at p r n)) (let e : i ≡ i + 0 = omega arith in e)
        ∙ ap (λ D. (take (suc k) D, state_at p r (i + length (take (suc k) D)))) (sym w.0)
  ]

pub steps_follow : StepsFollow
steps_follow p r good = record {
  next = λ i s e. next_at p r good i s e ∙ ap (λ n. Some (s, state_at p r n)) (let e : suc i ≡ i + 1 = omega arith in e);
  carries = λ i _. carries_at p r good i;
  pages = λ i k _. pages_at p r good k i;
}

-- ---- what holds of the state of a place: each part carries its least, and the routes given come first

pub placed_least : (p : ContactPlan) (r : RouteRequest) (i : ℕ) → CarriesLeast p r (state_at p r i)
unfolding state_at
placed_least p r i t m =
    let w = Member-map_cases (full (least_in p r)) t (tree (take i (routes p r))) m in
    let P : PartState → Type 0 = λ u. u.carried ≡ least_in p r u.prefix u.excluded in
    subst P (sym w.1) (λ j. least_in p r w.0.0 w.0.1)

module _ (p : ContactPlan) (r : RouteRequest) (good : IsPlan p) (i : ℕ) where
  abbrev all : List (List ℕ)
  all = routes p r

  abbrev A : List (List ℕ)
  A = take i all

  within : (s : List ℕ) → Member s A → Member s all
  within s m = subst (Member s) (take-append-drop i all) (Member-append_left s A (drop i all) m)

  rises : RiseInTurn (by_key p r) A (drop i all)
  rises = Rises-parts (key_total p r) A (drop i all) (subst (Rises (by_key p r)) (sym (take-append-drop i all)) (routes_rise p r good))

  -- a leaf is one of the routes given
  given_leaf : (l : List ℕ) → Member l (leaves_in p r (state_at p r i)) → Member l A
  unfolding state_at
  given_leaf l m = Member_In l A (set_of_has l A (subst (In l) (leaves_of_parts p r good A within) (In_Member l (leaves_in p r (state_at p r i)) m)))

  -- none of a list that rises is above its last
  top : (B : List (List ℕ)) → Rises (by_key p r) B → (l : List ℕ) → Member l B → before p r (last_of B) l ≡ false
  top [] h l m = absurd m
  top (b ∷ B) h l m = elim (last_largest (key_total p r) (by_key_exact p r) b B h l m) [
    | inl e ↦ ap (before p r (last_of (b ∷ B))) e ∙ not_less_itself (key_total p r) (last_of (b ∷ B))
    | inr e ↦ ap is_lt (turned (key_total p r) l (last_of (b ∷ B)) Less e)
  ]

  to_last : (l : List ℕ) → Member l (leaves_in p r (state_at p r i)) → before p r (state_at p r i).last l ≡ false
  unfolding state_at
  to_last l m = top A rises.0 l (given_leaf l m)

  to_carried : (l : List ℕ) (t : PartState) (c : List ℕ) → Member l (leaves_in p r (state_at p r i)) → Member t (state_at p r i).parts → t.carried ≡ Some c → before p r l c ≡ true
  unfolding state_at
  to_carried l t c m n e =
      let out = carried_outside p r good A within t c n e in
      elim (Member-append_cases c A (drop i all) (subst (Member c) (sym (take-append-drop i all)) (routes_complete p r good c out.0))) [
        | inl k ↦ absurd (out.1 (In_Member c A k))
        | inr k ↦ ap is_lt (rises.2 l c (given_leaf l m) k)
      ]

  pub placed_first : LeavesComeFirst p r (state_at p r i)
  placed_first = record { to_last = to_last; to_carried = to_carried }

-- ---- the state of each place in the list of all routes is well formed, and counts the routes before the place

module _ (p : ContactPlan) (r : RouteRequest) where
  -- how many routes it counts
  pub emitted_at : (i : ℕ) → i ≤ length (routes p r) → (state_at p r i).emitted ≡ i
  unfolding state_at
  emitted_at i h = length-take-le i (routes p r) h

  -- a state that is that of the place which it counts, counts no more routes than there are
  pub place_within : (s : State) → s ≡ state_at p r s.emitted → s.emitted ≤ length (routes p r)
  unfolding state_at
  place_within s e =
      let count : s.emitted ≡ length (take s.emitted (routes p r)) = ap (λ (t : State). t.emitted) e in
      omega (arith, length-take s.emitted (routes p r))

  pub state_at_formed : IsPlan p → (i : ℕ) → i ≤ length (routes p r) → IsState p r (state_at p r i)
  state_at_formed good i h =
      let page = page_of p r 0 i in
      let go : steps p r i (state_at p r 0) ≡ (page, state_at p r (0 + length page)) = (steps_follow p r good).pages 0 i (omega arith) in
      let here : 0 + length page ≡ i = omega (arith, length-take-le i (routes p r) h) in
      let there : (steps p r i (state_at p r 0)).1 ≡ state_at p r i = ap (λ (z : List (List ℕ) × State). z.1) go ∙ ap (state_at p r) here in
      subst (IsState p r) there (new_routes p r good i (state_at p r 0) (first_formed p r good)).formed
