-- A page that asks up to a bound: its steps, over a tree some of whose nodes don't carry what they might, the keys that it
-- keeps, and where it is.
use Rattle.sabr_frontier.proofs.Names.{◌≡◌, ◌⊎◌, inl, inr, ℕ, zero, suc, ◌+◌, ◌≤◌, true, false, cond, ◌||◌, List, [], ◌∷◌, ◌++◌, take, drop, refl, sym, ap, subst, ◌∙◌, arith, true≢false, Option, Some, None, ◌-◌, ◌*◌, ◌<◌, Bool, length, length-append, append_assoc, or_cases, or_parts, or_right, leb-true, leb-false, ltb-true, ltb-false, eqb-false, both_ways, is_some, slice_get, nat_le, ◌==◌, option_map, option_map_or, is_lt, ContactPlan, IsPlan, RouteRequest, RouteRecord, by_record, record_of, Bound, GivenRoute, Node, NodeId, CarriesNoOther, HasLooks, others_carry, part_goes_on, some_carry, Member, PartState, State, next_route, one_step, searches_for, searches_in, Asked, best_for, steps_for, records_for, best_of, AreCutBy, IsCutTree, IsNextGiven, ShowsCut, carries_before, count_before, Shape, numbers_of, part_at, route_at, shown, IsTree, divided_with, OfNode, wide_of, widened, CarriesNone, IsFirst, IsBestOf, drop_at, slice_get_within, is_up_to, AreNoted, IsBoundOf, SeenKeys, carried_keys, key_hops, keys_of, modify}
use Rattle.std.proofs.Common.{eqb-true}
use Rattle.std.specs.Prelude.{nat_lt, ◌&&◌}
use Rattle.sabr_frontier.proofs.ListingLemmas.ListMembers.{Member-map, Member-map_cases}
use Rattle.sabr_frontier.proofs.TreeLemmas.CarryingNodes.{carried_at, mapped, next_is, route_there, searches_are}
use Rattle.sabr_frontier.proofs.TreeLemmas.CutTrees.{cut_self, cut_sound, given_cut, stands_in, still_before, IsBoundFor, carried_there, cut_weaken, least_same, none_same, bound_parts}
use Rattle.sabr_frontier.proofs.TreeLemmas.SlotWinners.{carries_cases, standing_at}
use Rattle.sabr_frontier.proofs.SessionLemmas.LeftSteps.{left_after, no_others, one_step_is}
use Rattle.sabr_frontier.proofs.SessionLemmas.Pages.{counts_one, counts_stop, given_by, nothing_carried, nothing_given, steps_stop, counts_go, steps_go}
use Rattle.std.proofs.lemmas.List.Sums.{sum_by-cons}
use Rattle.sabr_frontier.specs.tree.SmallestKeys.{key_of}
use Rattle.sabr_frontier.proofs.GivingLemmas.KeptKeys.{all_up_to, carried-append, none_here, noted_up_to, one_at_most, one_up_to, up_to, up_to-append, up_to_length}
use Rattle.sabr_frontier.proofs.TreeLemmas.ModifiedPlaces.{get_front, get_same, length-modify}

-- they are all, or there are no more, and so many of the nodes carry routes
abbrev pub AreAllOr : {A : Type 0} → ℕ → ℕ → ℕ → List (Node A) → Type 0
AreAllOr few all k nodes = (few ≡ all) ⊎ ((few ≤ all) × (k ≤ length (carried_keys nodes)))

-- giving the least route that a node of the tree carries is the step of the state, and leaves a tree of the state then
pub record IsTurn {A : Type 0} (a : Asked) (k : ℕ) (s : State) (t v : Shape A) (step : GivenRoute) : Type 0 where
  pub next : List ℕ × State
  pub is : one_step a.plan.plan a.request s ≡ Some next
  pub leaves : v.leaves ≡ t.leaves ++ record_of a.plan.plan a.request next.0 ∷ []
  pub searches : AreAllOr step.searches (searches_for s next.0) k v.nodes
  pub then : ShowsCut a k next.1 v

-- a sound tree carries all
pub cut_first : {A : Type 0} (a : Asked) (k : ℕ) (t : Shape A) → IsTree a.plan.plan a.request t → ShowsCut a k (shown t) t
cut_first a k t is = (t, refl, record { sound = is; nodes = cut_self k t.nodes t.nodes; same = refl })

pub cut_weaker : {A : Type 0} (a : Asked) (k j : ℕ) (s : State) (t : Shape A) → j ≤ k → ShowsCut a k s t → ShowsCut a j s t
cut_weaker a k j s t l h = (h.0, h.1, record { sound = h.2.sound; nodes = cut_weaken k j t.nodes t.nodes h.0.nodes t.nodes (λ x m. omega (arith, l, m)) h.2.nodes; same = h.2.same })

pub cut_tree : {A : Type 0} (a : Asked) (k : ℕ) (s : State) (t : Shape A) → ShowsCut a k s t → IsTree a.plan.plan a.request t
cut_tree a k s t h = cut_sound a.plan.plan a.request k h.0 t h.2

pub cut_ended : {A : Type 0} (a : Asked) (k : ℕ) (s : State) (t : Shape A) → IsPlan a.plan.plan → ShowsCut a (suc k) s t → CarriesNone t.nodes → one_step a.plan.plan a.request s ≡ None
cut_ended a k s t good h none = ap (one_step a.plan.plan a.request) h.1 ∙ nothing_given a.plan.plan a.request good h.0 h.2.sound (none_same k h.0.nodes t.nodes h.2.nodes none)

-- the node that carries the least route carries it in the whole tree, too
module _ {A : Type 0} (p : ContactPlan) (r : RouteRequest) (k : ℕ) (u t : Shape A) (h : IsCutTree p r (suc k) u t) (node : NodeId) (n : Node A) (x : RouteRecord)
    (stands : slice_get t.nodes node.0 ≡ Some n) (carries : n.route ≡ Some x) (least : IsBestOf t.nodes x) where
  least_whole : IsBestOf u.nodes x
  least_whole = (least_same k u.nodes t.nodes h.nodes node x (record { carries = route_there t.nodes node n x stands carries; least = least })).least

  stands_whole : slice_get u.nodes node.0 ≡ Some n
  stands_whole = stands_in (suc k) t.nodes u.nodes t.nodes h.nodes node n x stands carries

pub cut_turn : {A : Type 0} (a : Asked) (o : Option Bound) (k : ℕ) (s : State) (t v : Shape A) (step : GivenRoute) → IsPlan a.plan.plan → ShowsCut a (suc k) s t → IsBoundFor o (suc k) t.nodes → IsNextGiven (best_for a o) (Some k) t v step → IsTurn a k s t v step
cut_turn {A} a o k s t v step good h bound taken =
    let p = a.plan.plan in
    let r = a.request in
    let u = h.0 in
    let node = step.node in
    let n = taken.part in
    let x = taken.route in
    let stands = stands_whole p r k u t h.2 node n x taken.stands taken.carries taken.least in
    let g = given_by p r good u h.2.sound node n x stands taken.carries (least_whole p r k u t h.2 node n x taken.stands taken.carries taken.least) in
    let D = divided_with (best_of p r) u node n x in
    let found = best_for a o (take n.length x.contacts) (wide_of n x.contacts) in
    let cut = given_cut p r good k u t h.2 node n x taken.stands taken.carries o (Some k) taken.new (length x.contacts - n.length) step.searches taken.found
    (λ b y e above. still_before t node n x y found taken.new k (bound b y e above)) (λ m e. (let same : k ≡ m = cc in omega (arith, same))) in
    let all : length x.contacts - n.length ≡ searches_for s x.contacts = sym (ap (λ z. searches_for z x.contacts) h.1 ∙ searches_are p r u h.2.sound node n x stands taken.carries) in
    let nodes = ap (λ (z : Shape A). length (carried_keys z.nodes)) taken.shape ∙ ap length (carried-append (modify (widened (wide_of n x.contacts) found) t.nodes node.0) taken.new) in
    record {
      next = (x.contacts, shown D);
      is = ap (one_step p r) h.1 ∙ g.stepped;
      leaves = ap (λ (z : Shape A). z.leaves) taken.shape ∙ ap (λ (z : RouteRecord). t.leaves ++ z ∷ []) g.told;
      searches = elim taken.found [
        | inl e ↦ inl (e.1 ∙ all)
        | inr w ↦ inr (omega (arith, w.1, all), omega (arith, w.0.many, nodes, length-append (carried_keys (modify (widened (wide_of n x.contacts) found) t.nodes node.0)) (carried_keys taken.new)))
      ];
      then = (D, refl, subst (IsCutTree p r k D) (sym taken.shape) cut);
    }

-- ---- one step more

one_key : (o : Option RouteRecord) → length (keys_of o) ≤ 1
one_key None = omega arith
one_key (Some x) = omega arith

carried_none : {A : Type 0} (nodes : List (Node A)) → some_carry nodes ≡ false → length (carried_keys nodes) ≡ 0
carried_none [] e = refl
carried_none (n ∷ nodes) e = elim n.route as (λ o. (is_some o || some_carry nodes) ≡ false → length (keys_of o ++ carried_keys nodes) ≡ 0) [
  | None ↦ λ f. carried_none nodes f
  | Some y ↦ λ f. absurd (true≢false f)
] e

carried_others : {A : Type 0} (nodes : List (Node A)) (i : ℕ) → some_carry (take i nodes) ≡ false → some_carry (drop (suc i) nodes) ≡ false → length (carried_keys nodes) ≤ 1
carried_others [] i e f = omega arith
carried_others (n ∷ nodes) zero e f = omega (arith, one_key n.route, length-append (keys_of n.route) (carried_keys nodes), carried_none nodes f)
carried_others (n ∷ nodes) (suc i) e f = elim n.route as (λ o. (is_some o || some_carry (take i nodes)) ≡ false → length (keys_of o ++ carried_keys nodes) ≤ 1) [
  | None ↦ λ g. carried_others nodes i g f
  | Some y ↦ λ g. absurd (true≢false g)
] e

-- of two nodes that carry routes one is another one
others_two : {A : Type 0} (nodes : List (Node A)) (node : NodeId) → 2 ≤ length (carried_keys nodes) → others_carry nodes node ≡ true
others_two nodes node l = elim (others_carry nodes node) as (λ b. others_carry nodes node ≡ b → b ≡ true) [
  | true ↦ λ _. refl
  | false ↦ λ e.
      let i = node.0 in
      let next : suc i ≡ i + 1 = omega arith in
      let w = or_parts (some_carry (take i nodes)) (some_carry (drop (i + 1) nodes)) e in
      let few = carried_others nodes i w.0 (ap (λ m. some_carry (drop m nodes)) next ∙ w.1) in
      absurd (omega (arith, few, l))
] refl

-- no fewer nodes carry a route than carry one before x
count_carried : {A : Type 0} (x : RouteRecord) (nodes : List (Node A)) → count_before x nodes ≤ length (carried_keys nodes)
count_carried x [] = omega arith
count_carried x (n ∷ nodes) =
    let rest = count_carried x nodes in
    elim n.route as (λ o. cond (option_map_or (λ y. is_lt (by_record y x)) o false) (suc (count_before x nodes)) (count_before x nodes) ≤ length (keys_of o ++ carried_keys nodes)) [
      | None ↦ rest
      | Some y ↦ elim (is_lt (by_record y x)) as (λ b. cond b (suc (count_before x nodes)) (count_before x nodes) ≤ suc (length (carried_keys nodes))) [ true ↦ omega (arith, rest) | false ↦ omega (arith, rest) ]
    ]

module _ {A : Type 0} (k : ℕ) (all : List (Node A)) where
  cut_take : (i : ℕ) (us ts : List (Node A)) → AreCutBy k all us ts → AreCutBy k all (take i us) (take i ts)
  cut_take zero us ts h = tt
  cut_take (suc i) [] [] h = tt
  cut_take (suc i) [] (t ∷ ts) h = absurd h
  cut_take (suc i) (u ∷ us) [] h = absurd h
  cut_take (suc i) (u ∷ us) (t ∷ ts) h = (h.0, cut_take i us ts h.1)

  cut_drop : (i : ℕ) (us ts : List (Node A)) → AreCutBy k all us ts → AreCutBy k all (drop i us) (drop i ts)
  cut_drop zero us ts h = h
  cut_drop (suc i) [] [] h = tt
  cut_drop (suc i) [] (t ∷ ts) h = absurd h
  cut_drop (suc i) (u ∷ us) [] h = absurd h
  cut_drop (suc i) (u ∷ us) (t ∷ ts) h = cut_drop i us ts h.1

  -- some still carry one, or one that they don't carry comes after as many others
  cut_some : (us ts : List (Node A)) → AreCutBy k all us ts → some_carry us ≡ true → (some_carry ts ≡ true) ⊎ ((x : RouteRecord) × (k ≤ count_before x all))
  cut_some [] [] h e = inl e
  cut_some [] (t ∷ ts) h e = absurd h
  cut_some (u ∷ us) [] h e = absurd h
  cut_some (u ∷ us) (t ∷ ts) h e = elim h.0 [
    | inl same ↦ elim (or_cases (is_some u.route) (some_carry us) e) [
      | inl here ↦ inl (ap (λ b. b || some_carry ts) (ap (λ (n : Node A). is_some n.route) same ∙ here))
      | inr later ↦ elim (cut_some us ts h.1 later) [
        | inl there ↦ inl (or_right (is_some t.route) (some_carry ts) there)
        | inr w ↦ inr w
      ]
    ]
    | inr w ↦ inr (w.0, w.3)
  ]

  some_whole : (us ts : List (Node A)) → AreCutBy k all us ts → some_carry ts ≡ true → some_carry us ≡ true
  some_whole [] [] h e = e
  some_whole [] (t ∷ ts) h e = absurd h
  some_whole (u ∷ us) [] h e = absurd h
  some_whole (u ∷ us) (t ∷ ts) h e = elim (or_cases (is_some t.route) (some_carry ts) e) [
    | inl here ↦ elim h.0 [
      | inl same ↦ ap (λ b. b || some_carry us) (ap (λ (n : Node A). is_some n.route) (sym same) ∙ here)
      | inr w ↦ absurd (true≢false (sym here ∙ ap (λ (n : Node A). is_some n.route) w.2))
    ]
    | inr later ↦ or_right (is_some u.route) (some_carry us) (some_whole us ts h.1 later)
  ]

-- the others carry a route in both trees, or in none
others_same : {A : Type 0} (us ts : List (Node A)) (node : NodeId) → AreCutBy 2 ts us ts → others_carry ts node ≡ others_carry us node
others_same us ts node h =
    let i = node.0 in
    let front = cut_take 2 ts i us ts h in
    let back = cut_drop 2 ts (i + 1) us ts h in
    let many : (x : RouteRecord) → 2 ≤ count_before x ts → others_carry ts node ≡ true = λ x l. others_two ts node (omega (arith, l, count_carried x ts)) in
    both_ways (others_carry ts node) (others_carry us node)
    (λ e. elim (or_cases (some_carry (take i ts)) (some_carry (drop (i + 1) ts)) e) [
      | inl a ↦ ap (λ b. b || some_carry (drop (i + 1) us)) (some_whole 2 ts (take i us) (take i ts) front a)
      | inr a ↦ or_right (some_carry (take i us)) (some_carry (drop (i + 1) us)) (some_whole 2 ts (drop (i + 1) us) (drop (i + 1) ts) back a)
    ])
    (λ e. elim (or_cases (some_carry (take i us)) (some_carry (drop (i + 1) us)) e) [
      | inl a ↦ elim (cut_some 2 ts (take i us) (take i ts) front a) [ inl b ↦ ap (λ b. b || some_carry (drop (i + 1) ts)) b | inr w ↦ many w.0 w.1 ]
      | inr a ↦ elim (cut_some 2 ts (drop (i + 1) us) (drop (i + 1) ts) back a) [ inl b ↦ or_right (some_carry (take i ts)) (some_carry (drop (i + 1) ts)) b | inr w ↦ many w.0 w.1 ]
    ])

-- one step more tells the same, where each that isn't carried comes after two that are
pub record IsSameStep {A : Type 0} (a : Asked) (s : State) (t : Shape A) : Type 0 where
  pub routes : (steps_for a 1 (shown t)).0 ≡ (steps_for a 1 s).0
  pub more : is_some (next_route a.plan.plan a.request (steps_for a 1 (shown t)).1) ≡ is_some (next_route a.plan.plan a.request (steps_for a 1 s).1)
  pub searches : searches_in a.plan.plan a.request 1 (shown t) ≡ searches_in a.plan.plan a.request 1 s

module _ {A : Type 0} (a : Asked) (good : IsPlan a.plan.plan) (u t : Shape A) (h : IsCutTree a.plan.plan a.request 2 u t) where
  abbrev p : ContactPlan
  p = a.plan.plan

  abbrev r : RouteRequest
  r = a.request

  is : IsTree p r t
  is = cut_sound p r 2 u t h

  same_none : CarriesNone t.nodes → IsSameStep a (shown u) t
  same_none none =
      let none_u = none_same 1 u.nodes t.nodes h.nodes none in
      let stop = steps_stop p r (shown t) 1 (nothing_given p r good t is none) in
      let stop_u = steps_stop p r (shown u) 1 (nothing_given p r good u h.sound none_u) in
      record {
        routes = ap (λ (z : List (List ℕ) × State). z.0) stop ∙ sym (ap (λ (z : List (List ℕ) × State). z.0) stop_u);
        more = ap (λ (z : List (List ℕ) × State). is_some (next_route p r z.1)) stop ∙ ap is_some (nothing_carried p r good t is none)
            ∙ sym (ap (λ (z : List (List ℕ) × State). is_some (next_route p r z.1)) stop_u ∙ ap is_some (nothing_carried p r good u h.sound none_u));
        searches = counts_stop p r (shown t) 1 (nothing_given p r good t is none) ∙ sym (counts_stop p r (shown u) 1 (nothing_given p r good u h.sound none_u));
      }

  same_some : (x : RouteRecord) (id : NodeId) → IsFirst t.nodes id x → IsSameStep a (shown u) t
  same_some x id first =
      let w = standing_at t.nodes id x first.carries in
      let n = w.0 in
      let stands = stands_whole p r 1 u t h id n x w.1 w.2 first.least in
      let least = least_whole p r 1 u t h id n x w.1 w.2 first.least in
      let one = one_step_is p r good t is id n x w.1 w.2 first.least in
      let one_u = one_step_is p r good u h.sound id n x stands w.2 least in
      record {
        routes = ap (λ (z : List (List ℕ) × State). z.0) one ∙ sym (ap (λ (z : List (List ℕ) × State). z.0) one_u);
        more = left_after p r good t is id n x w.1 w.2 first.least ∙ ap (λ b. b || part_goes_on (best_of p r) n x.contacts) (others_same u.nodes t.nodes id h.nodes) ∙ sym (left_after p r good u h.sound id n x stands w.2 least);
        searches = counts_one p r good t is id n x w.1 w.2 first.least ∙ sym (counts_one p r good u h.sound id n x stands w.2 least);
      }

  same_step : IsSameStep a (shown u) t
  same_step = elim (carries_cases t.nodes) [ inl none ↦ same_none none | inr w ↦ same_some w.0 w.1 w.2 ]

  same_route : next_route p r (shown t) ≡ next_route p r (shown u)
  same_route = elim (carries_cases t.nodes) [
    | inl none ↦ nothing_carried p r good t is none ∙ sym (nothing_carried p r good u h.sound (none_same 1 u.nodes t.nodes h.nodes none))
    | inr w ↦
        let at = standing_at t.nodes w.1 w.0 w.2.carries in
        let stands = stands_whole p r 1 u t h w.1 at.0 w.0 at.1 at.2 w.2.least in
        let least = least_whole p r 1 u t h w.1 at.0 w.0 at.1 at.2 w.2.least in
        next_is p r t is w.1 at.0 w.0 at.1 at.2 w.2.least ∙ sym (next_is p r u h.sound w.1 at.0 w.0 stands at.2 least)
  ]

  -- the parts carry no more
  no_other : (x : List ℕ) → CarriesNoOther (shown u) x → CarriesNoOther (shown t) x
  no_other x only part y there e =
      let w = Member-map_cases (part_at t.leaves t.nodes) part t.index there in
      let id = w.0 in
      let v = mapped (route_at t.nodes id) y (sym (carried_at t.leaves (slice_get t.nodes id.0)) ∙ ap (λ (z : PartState). z.carried) (sym w.1) ∙ e) in
      let whole = carried_there 1 u.nodes t.nodes h.nodes id v.0 v.1 in
      let listed = subst (Member id) (ap (λ (z : Shape A). z.index) h.same) w.2 in
      only (part_at u.leaves u.nodes id) y (Member-map (part_at u.leaves u.nodes) id u.index listed) (carried_at u.leaves (slice_get u.nodes id.0) ∙ ap (option_map numbers_of) whole ∙ ap Some v.2)

pub cut_looks : {A : Type 0} (a : Asked) (s : State) (t : Shape A) → IsPlan a.plan.plan → ShowsCut a 2 s t → (looks : ℕ) → HasLooks looks a.plan.plan a.request (shown t) → HasLooks looks a.plan.plan a.request s
cut_looks a s t good h looks has =
    subst (HasLooks looks a.plan.plan a.request) (sym h.1) (λ x next only. has x (same_route a good h.0 t h.2 ∙ next) (no_other a good h.0 t h.2 x only))

-- where two routes are carried at least, there is another one than the next
pub two_looks : {A : Type 0} (p : ContactPlan) (r : RouteRequest) → IsPlan p → (t : Shape A) → IsTree p r t → 2 ≤ length (carried_keys t.nodes) → (looks : ℕ) → HasLooks looks p r (shown t)
two_looks p r good t is two looks x next only = absurd (elim (carries_cases t.nodes) [
  | inl none ↦ let ended = nothing_carried p r good t is none in cc
  | inr w ↦
      let at = standing_at t.nodes w.1 w.0 w.2.carries in
      let same : w.0.contacts ≡ x = let both : Some w.0.contacts ≡ Some x = sym (next_is p r t is w.1 at.0 w.0 at.1 at.2 w.2.least) ∙ next in cc in
      true≢false (sym (others_two t.nodes w.1 two) ∙ no_others p r t is w.1 at.0 w.0 at.1 at.2 (subst (CarriesNoOther (shown t)) (sym same) only))
])

pub cut_next : {A : Type 0} (a : Asked) (s : State) (t : Shape A) → IsPlan a.plan.plan → ShowsCut a 2 s t → IsSameStep a s t
cut_next a s t good h = subst (λ z. IsSameStep a z t) (sym h.1) (same_step a good h.0 t h.2)

-- ---- the loop of a page that asks up to a bound: the keys that it keeps, and where it is

-- ---- what is up to a bound comes before what is above

-- x is above the bound
above_parts : (b : Bound) (d h : ℕ) → is_up_to b d h ≡ false → (b.delivery < d) ⊎ ((d ≡ b.delivery) × (b.hops < h))
above_parts b d h e = elim (nat_lt d b.delivery) as (λ t. nat_lt d b.delivery ≡ t → (t || ((d == b.delivery) && nat_le h b.hops)) ≡ false → (b.delivery < d) ⊎ ((d ≡ b.delivery) × (b.hops < h))) [
  | true ↦ λ _ n. absurd (true≢false n)
  | false ↦ λ t n.
      let later = ltb-false d b.delivery t in
      elim (d == b.delivery) as (λ u. (d == b.delivery) ≡ u → (u && nat_le h b.hops) ≡ false → (b.delivery < d) ⊎ ((d ≡ b.delivery) × (b.hops < h))) [
        | true ↦ λ u m. inr (eqb-true d b.delivery u, leb-false h b.hops m)
        | false ↦ λ u m. inl (let other = eqb-false d b.delivery u in omega (arith, later, other))
      ] refl n
] refl e

-- what has no greater key than the bound is up to it
key_parts : (b : Bound) (d l : ℕ) → b.hops < key_hops → d * key_hops + l ≤ b.delivery * key_hops + b.hops → (d < b.delivery) ⊎ ((d ≡ b.delivery) × (l ≤ b.hops))
key_parts b d l few e = elim (nat_lt d b.delivery) as (λ t. nat_lt d b.delivery ≡ t → (d < b.delivery) ⊎ ((d ≡ b.delivery) × (l ≤ b.hops))) [
  | true ↦ λ t. inl (ltb-true d b.delivery t)
  | false ↦ λ t. (let later = ltb-false d b.delivery t in inr (omega (arith, e, few, later), omega (arith, e, few, later)))
] refl

-- 1 for what passes
abbrev one_if : Bool → ℕ
one_if t = cond t 1 0

-- the largest key that is up to a bound
abbrev bound_key : Bound → ℕ
bound_key b = b.delivery * key_hops + b.hops

module _ {A : Type 0} (b : Bound) (x : RouteRecord) (few : b.hops < key_hops) (above : is_up_to b x.delivery (length x.contacts) ≡ false) where
  one_before : (o : Option RouteRecord) (n : Node A) → n.route ≡ o → up_to (bound_key b) (keys_of o) ≤ one_if (carries_before x n)
  one_before None n e = omega arith
  one_before (Some y) n e =
      let alone = sum_by-cons (one_up_to (bound_key b)) (key_of y) [] in
      let most = one_at_most (bound_key b) (key_of y) in
      elim (nat_le (key_of y) (bound_key b)) as (λ t. nat_le (key_of y) (bound_key b) ≡ t → up_to (bound_key b) (keys_of (Some y)) ≤ one_if (carries_before x n)) [
        | true ↦ λ t.
            let within = key_parts b y.delivery (length y.contacts) few (leb-true (key_of y) (bound_key b) t) in
            let less = ap (λ o. option_map_or (λ (z : RouteRecord). is_lt (by_record z x)) o false) e ∙ bound_parts b.delivery b.hops x y within (above_parts b x.delivery (length x.contacts) above) in
            let carried : one_if (carries_before x n) ≡ 1 = ap one_if less in
            omega (arith, alone, most, carried)
        | false ↦ λ t. let none = none_here (bound_key b) (key_of y) (leb-false (key_of y) (bound_key b) t) in omega (arith, alone, none)
      ] refl

  -- as many of these nodes carry a route before x as have keys up to the bound
  pub up_to_before : (nodes : List (Node A)) → up_to (bound_key b) (carried_keys nodes) ≤ count_before x nodes
  up_to_before [] = omega arith
  up_to_before (n ∷ nodes) =
      let rest = up_to_before nodes in
      let one = one_before n.route n refl in
      let both = up_to-append (bound_key b) (keys_of n.route) (carried_keys nodes) in
      elim (carries_before x n) as (λ t. up_to (bound_key b) (keys_of n.route) ≤ one_if t → up_to (bound_key b) (carried_keys (n ∷ nodes)) ≤ cond t (suc (count_before x nodes)) (count_before x nodes)) [
        | true ↦ λ l. omega (arith, rest, both, l)
        | false ↦ λ l. omega (arith, rest, both, l)
      ] one

-- with as many keys as may be kept, enough of them are of what these nodes carry
pub bound_for : {A : Type 0} (o : Option Bound) (k given : ℕ) (keys : SeenKeys) (nodes : List (Node A)) → k + given ≤ keys.most → IsBoundOf keys o
    → ((b : ℕ) → up_to b keys.keys ≤ given + up_to b (carried_keys nodes)) → IsBoundFor o k nodes
bound_for o k given keys nodes many bound kept b x e above =
    let h = subst (IsBoundOf keys) e bound in
    let g = bound_key b in
    omega (arith, many, h.0, all_up_to g keys.keys h.1.upper, kept g, up_to_before b x h.1.few above nodes)

-- ---- the keys after a route is given

up_to_one : (b : ℕ) (o : Option RouteRecord) → up_to b (keys_of o) ≤ 1
up_to_one b None = omega arith
up_to_one b (Some x) = up_to_length b (keys_of (Some x))

-- a node that changes is one fewer that carries a route at the most
carried_modify : {A : Type 0} (f : Node A → Node A) (nodes : List (Node A)) (i : ℕ) → length (carried_keys nodes) ≤ suc (length (carried_keys (modify f nodes i)))
carried_modify f [] i = omega arith
carried_modify f (n ∷ nodes) zero = omega (arith, one_key n.route, length-append (keys_of n.route) (carried_keys nodes), length-append (keys_of (f n).route) (carried_keys nodes))
carried_modify f (n ∷ nodes) (suc i) = omega (arith, carried_modify f nodes i, length-append (keys_of n.route) (carried_keys nodes), length-append (keys_of n.route) (carried_keys (modify f nodes i)))

module _ {A : Type 0} (b : ℕ) where
  -- a node that changes carries another route than one of theirs
  changed_up_to : (f : Node A → Node A) (nodes : List (Node A)) (i : ℕ) (n : Node A) → slice_get nodes i ≡ Some n
      → up_to b (carried_keys nodes) + up_to b (keys_of (f n).route) ≤ suc (up_to b (carried_keys (modify f nodes i)))
  changed_up_to f [] i n e = absurd cc
  changed_up_to f (m ∷ nodes) zero n e =
      let same : m ≡ n = cc in
      let then = ap (λ (z : Node A). up_to b (keys_of (f z).route)) same in
      omega (arith, then, up_to_one b m.route, up_to-append b (keys_of m.route) (carried_keys nodes), up_to-append b (keys_of (f m).route) (carried_keys nodes))
  changed_up_to f (m ∷ nodes) (suc i) n e =
      omega (arith, changed_up_to f nodes i n e, up_to-append b (keys_of m.route) (carried_keys nodes), up_to-append b (keys_of m.route) (carried_keys (modify f nodes i)))

module _ {A : Type 0} {best : List ℕ → List ℕ → Option RouteRecord} {needed : Option ℕ} {t u : Shape A} {step : GivenRoute} (w : IsNextGiven best needed t u step) where
  abbrev change : Node A → Node A
  change = widened (wide_of w.part w.route.contacts) (best (take w.part.length w.route.contacts) (wide_of w.part w.route.contacts))

  abbrev fresh : List (Node A)
  fresh = w.new

  nodes_are : u.nodes ≡ modify change t.nodes step.node.0 ++ fresh
  nodes_are = ap (λ (z : Shape A). z.nodes) w.shape

  long : length (modify change t.nodes step.node.0) ≡ length t.nodes
  long = length-modify change t.nodes step.node.0

  pub step_within : (step.node.0 < length u.nodes) × (step.first ≤ length u.nodes)
  step_within =
      let all = ap (length {A = Node A}) nodes_are ∙ length-append (modify change t.nodes step.node.0) fresh in
      (omega (arith, all, long, slice_get_within t.nodes step.node.0 w.part w.stands), omega (arith, all, w.former, long))

  carried_then : length (carried_keys t.nodes) ≤ suc (length (carried_keys u.nodes))
  carried_then =
      let front = modify change t.nodes step.node.0 in
      omega (arith, carried_modify change t.nodes step.node.0, ap (λ z. length (carried_keys z)) nodes_are ∙ ap length (carried-append front fresh), length-append (carried_keys front) (carried_keys fresh))

  module _ (old new : SeenKeys) (noted : OfNode u.nodes step.node (λ m. AreNoted old (keys_of m.route ++ carried_keys (drop step.first u.nodes)) new)) where
    -- what was noted
    then_noted : AreNoted old (keys_of (change w.part).route ++ carried_keys fresh) new
    then_noted =
        let inside : step.node.0 < length (modify change t.nodes step.node.0) = omega (arith, long, slice_get_within t.nodes step.node.0 w.part w.stands) in
        let at = ap (λ ns. slice_get ns step.node.0) nodes_are ∙ get_front (modify change t.nodes step.node.0) fresh step.node.0 inside ∙ get_same change t.nodes step.node.0 w.part w.stands in
        let rest = (λ i. drop ((w.former ∙ sym long) i) (nodes_are i)) ∙ drop_at (modify change t.nodes step.node.0) fresh _ refl in
        subst (λ z. AreNoted old (keys_of (change w.part).route ++ carried_keys z) new) rest (noted (change w.part) at)

    kept_then : (b given : ℕ) → up_to b old.keys ≤ given + up_to b (carried_keys t.nodes) → up_to b new.keys ≤ suc given + up_to b (carried_keys u.nodes)
    kept_then b given kept =
        let keys = keys_of (change w.part).route in
        let all = ap (λ z. up_to b (carried_keys z)) nodes_are ∙ ap (up_to b) (carried-append (modify change t.nodes step.node.0) fresh) in
        omega (
          arith,
          kept,
          all,
          noted_up_to b old new (keys ++ carried_keys fresh) then_noted,
          up_to-append b keys (carried_keys fresh),
          up_to-append b (carried_keys (modify change t.nodes step.node.0)) (carried_keys fresh),
          changed_up_to b change t.nodes step.node.0 w.part w.stands,
        )

-- ---- the loop

-- where the loop is: what is given, and what k further steps give, is what all steps give from the state s; and the keys are
-- of routes that were given or are carried
pub record IsCutWay {A : Type 0} (a : Asked) (s : State) (all : ℕ) (before : List RouteRecord) (start k : ℕ) (t : Shape A) (calls : ℕ) (keys : SeenKeys) : Type 0 where
  pub state : State
  pub routes : t.leaves ++ records_for a (steps_for a k state).0 ≡ before ++ records_for a (steps_for a all s).0
  pub reaches : (steps_for a k state).1 ≡ (steps_for a all s).1
  pub shows : ShowsCut a (suc (suc k)) state t
  pub begun : start ≤ calls
  pub searches : AreAllOr (calls + searches_in a.plan.plan a.request k state) (start + searches_in a.plan.plan a.request all s) (k + 2) t.nodes
  pub few : k ≤ all
  pub most : keys.most ≡ all + 2
  pub kept : (b : ℕ) → up_to b keys.keys ≤ (all - k) + up_to b (carried_keys t.nodes)

pub way_first : {A : Type 0} (a : Asked) (all : ℕ) (t : Shape A) (calls : ℕ) (none keys : SeenKeys) → IsTree a.plan.plan a.request t
    → none ≡ record { most = all + 2; keys = [] } → AreNoted none (carried_keys t.nodes) keys → IsCutWay a (shown t) all t.leaves calls all t calls keys
way_first a all t calls none keys is new noted = record {
  state = shown t;
  routes = refl;
  reaches = refl;
  shows = cut_first a (suc (suc all)) t is;
  begun = omega arith;
  searches = inl refl;
  few = omega arith;
  most = noted.most ∙ ap (λ (z : SeenKeys). z.most) new;
  kept = λ b. (let h = noted_up_to b none keys (carried_keys t.nodes) noted in let o : up_to b none.keys ≡ 0 = ap (λ (z : SeenKeys). up_to b z.keys) new in omega (arith, h, o));
}

-- the turn of the loop is that of the state
module _ {A : Type 0} {a : Asked} (good : IsPlan a.plan.plan) {s : State} {all : ℕ} {before : List RouteRecord} {start : ℕ} (k : ℕ) {t : Shape A} {calls : ℕ} {keys : SeenKeys}
    (way : IsCutWay a s all before start (suc k) t calls keys) (b : Option Bound) (bound : IsBoundOf keys b) {u : Shape A} {step : GivenRoute} (w : IsNextGiven (best_for a b) (Some (suc (suc k))) t u step) where
  pub turn_is : IsTurn a (suc (suc k)) way.state t u step
  turn_is =
      let few = way.few in
      let most = way.most in
      cut_turn a b (suc (suc k)) way.state t u step good way.shows (bound_for b (suc (suc (suc k))) (all - suc k) keys t.nodes (omega (arith, few, most)) bound way.kept) w

  pub way_on : (now : ℕ) → now ≡ calls + step.searches → (then : SeenKeys) → OfNode u.nodes step.node (λ m. AreNoted keys (keys_of m.route ++ carried_keys (drop step.first u.nodes)) then) → IsCutWay a s all before start k u now then
  way_on now called then noted =
      let p = a.plan.plan in
      let r = a.request in
      let next = turn_is.next in
      let go = steps_go p r way.state next.1 next.0 k turn_is.is in
      let counts = counts_go p r way.state next.1 next.0 k turn_is.is in
      let more = records_for a (steps_for a k next.1).0 in
      let few = way.few in
      let carried = carried_then w in
      record {
        state = next.1;
        routes = ap (λ z. z ++ more) turn_is.leaves ∙ append_assoc t.leaves (record_of p r next.0 ∷ []) more ∙ ap (λ (z : List (List ℕ) × State). t.leaves ++ records_for a z.0) (sym go) ∙ way.routes;
        reaches = ap (λ (z : List (List ℕ) × State). z.1) (sym go) ∙ way.reaches;
        shows = turn_is.then;
        begun = omega (arith, way.begun, called);
        searches = elim way.searches [
          | inl sum ↦ elim turn_is.searches [ inl e ↦ inl (omega (arith, called, counts, sum, e)) | inr e ↦ inr (omega (arith, called, counts, sum, e.0), omega (arith, e.1)) ]
          | inr sum ↦ inr (
            elim turn_is.searches [ inl e ↦ omega (arith, called, counts, sum.0, e) | inr e ↦ omega (arith, called, counts, sum.0, e.0) ],
            omega (arith, sum.1, carried),
          )
        ];
        few = omega (arith, few);
        most = (then_noted w keys then noted).most ∙ way.most;
        kept = λ c. (let left : suc (all - suc k) ≡ all - k = omega (arith, few) in let h = kept_then w keys then noted c (all - suc k) (way.kept c) in omega (arith, left, h));
      }
