-- A partial tree stays in order and answered when a part is added after the others. It is complete if and only if the
-- parts are closed. What a prefix leads to with its excluded numbers, and when a part is refused, and how.
use Rattle.sabr_frontier.proofs.Names.{◌≡◌, ℕ, suc, ◌+◌, ◌-◌, ◌<◌, Bool, true, false, not, ◌&&◌, nat_lt, List, [], ◌∷◌, ◌++◌, map, flat_map, reverse, if◌then◌else◌, ◌≤◌, length, take, refl, sym, ap, subst, ◌∙◌, ◌⊎◌, inl, inr, arith, true≢false, Option, Some, None, length-append, length-take-le, append-nil, cond, filter, get_or, ◌==◌, slice_get, IfOk, IfErr, IfSome, IfNone, Result, option_map, option_map_or, nat_cmp, is_lt, is_eq, Less, and_parts, false_from_ne_true, cases_Bool, or_cases, nat_tests, nat_list_cmp_total, nat_cmp_total, reverse-append, reverse-reverse, length-reverse, length-map, take-map, take-take, take-append-le, map-append, nil_from_length, take_all, take_more, slice_get-map, by_numbers, same_numbers, numbers_before, ContactPlan, rises_above, TabledPlan, RouteRequest, is_path, is_prefix, is_route, goes_on, RouteRecord, record_of, empty_is_prefix, prefix_goes_on, Calls, Node, Below, Rises, has, PartState, pair_of, part_with, Member, leaves_of, InPairs, IsClosed, InOrder, Within, onward, IsGood, Expects, AreExpected, AreSteps, IsPathEnd, expected_prefix, step_of, PartialShape, IsAnswered, IsLoader, IsPartial, IsChecked, IsVerdict, with_node, is_after_last, is_expected, is_least, is_complete, last_prefix, nothing_yet, nodes_of, expected_in, expected_after, partial_shape_of, loaded, AllGoOn, comes_after, may_carry, rise_strictly, IsCarryFault, Loaded, refusal_by, last_item, front, LoadFault, BadOrder, BadRoute, NotClosed, BadCount, NoMemory, filter-append}
use Rattle.std.specs.Prelude.{Ok, Err}
use Rattle.std.proofs.lemmas.Grind.{flat_map-append}
use Rattle.sabr_frontier.specs.declared.loader.check.Checked.{Checked}
use Rattle.sabr_frontier.specs.declared.loader.path_end.ExpectedPrefix.{ExpectedPrefix}
use Rattle.sabr_frontier.proofs.ListingLemmas.ListMembers.{Below-lower, map_same, pairs_two, less_from_test, Member-append_right, Member-append_cases, Below-member, has-append, has_itself}
use Rattle.sabr_frontier.proofs.ListingLemmas.ExpectedPrefixes.{Expects-push, Expects-front, Expects-one, expects_closed, closed_expects}
use Rattle.sabr_frontier.proofs.ListingLemmas.AllRoutes.{goes_on_within, prefix_no_route}
use Rattle.sabr_frontier.proofs.TreeLemmas.ModifiedPlaces.{get_Member, last_item_push, last_split, member_taken, no_last, pair_across, pairs_front, member_at}
use Rattle.sabr_model.proofs.ListLemmas.Apart.{same_numbers_tell}
use Rattle.sabr_frontier.specs.declared.loader.partial_tree.PartialTree.{PartialTree}
use Rattle.sabr_model.specs.declared.fault.HopFault.{HopFault}
use Rattle.sabr_model.specs.declared.fault.HopFault.TheVariants.{WrongEnd}
use Rattle.sabr_model.specs.declared.following.Reached.{Reached}
use Rattle.sabr_model.specs.routes.Fault.{first_fault}
use Rattle.sabr_model.proofs.RouteLemmas.Faults.{fault_is_no_route, path_is_good}
use Rattle.sabr_model.proofs.RouteLemmas.Follows.{ends_elsewhere, ends_there, some_behind}
use Rattle.sabr_frontier.specs.declared.loader.path_end.PathEnd.{PathEnd}
use Rattle.sabr_frontier.proofs.ListingLemmas.ClosedTrees.{Number_has, has_Number}

-- ---- order

less_from_lt : (x y : ℕ) → nat_lt x y ≡ true → nat_cmp x y ≡ Less
less_from_lt x y h = less_from_test (nat_cmp x y) (tests x y ∙ h)
  where
    tests : (x y : ℕ) → is_lt (nat_cmp x y) ≡ nat_lt x y
    tests x y = grind (arith, nat_tests)

rises_from : (x : ℕ) (xs : List ℕ) → rises_above x xs ≡ true → Below nat_cmp x xs × Rises nat_cmp xs
rises_from x [] h = (tt, tt)
rises_from x (y ∷ ys) h =
    let w = and_parts (nat_lt x y) (rises_above y ys) h in
    let l = less_from_lt x y w.0 in
    let v = rises_from y ys w.1 in
    ((l, Below-lower nat_cmp_total x y ys l v.0), v)

rises_strictly : (xs : List ℕ) → rise_strictly xs ≡ true → Rises nat_cmp xs
rises_strictly [] h = tt
rises_strictly (x ∷ xs) h = rises_from x xs h

below_more : (y x : List ℕ) (xs : List (List ℕ)) → Below by_numbers y xs → by_numbers y x ≡ Less → Below by_numbers y (xs ++ x ∷ [])
below_more y x [] b l = (l, tt)
below_more y x (z ∷ xs) b l = (b.0, below_more y x xs b.1 l)

rises_more : (F : List (List ℕ)) (z x : List ℕ) → Rises by_numbers (F ++ z ∷ []) → by_numbers z x ≡ Less → Rises by_numbers ((F ++ z ∷ []) ++ x ∷ [])
rises_more [] z x h l = ((l, tt), (tt, tt))
rises_more (y ∷ F) z x h l = (
  below_more y x (F ++ z ∷ []) h.0 (nat_list_cmp_total.trans y z x (Below-member nat_list_cmp_total y z (F ++ z ∷ []) h.0 (Member-append_right z F (z ∷ []) (inl refl))) l),
  rises_more F z x h.1 l,
)

order_more : (parts : List PartState) (t : PartState) → InOrder (map pair_of parts) → rise_strictly t.excluded ≡ true → comes_after parts t.prefix ≡ true → InOrder (map pair_of parts ++ pair_of t ∷ [])
order_more parts t h strictly after = record {
  by_prefix = subst (Rises by_numbers) (sym (map-append (λ (e : List ℕ × List ℕ). e.0) (map pair_of parts) (pair_of t ∷ []))) rising;
  numbers = λ p X m. elim (Member-append_cases (p, X) (map pair_of parts) (pair_of t ∷ []) m) [
    | inl n ↦ h.numbers p X n
    | inr n ↦ elim n [ inl e ↦ subst (Rises nat_cmp) (sym (ap (λ (e : List ℕ × List ℕ). e.1) e)) (rises_strictly t.excluded strictly) | inr z ↦ absurd z ]
  ];
}
  where
    keys : List PartState → List (List ℕ)
    keys parts = map (λ (e : List ℕ × List ℕ). e.0) (map pair_of parts)

    keys_more : (F : List PartState) (z : PartState) → keys (F ++ z ∷ []) ≡ keys F ++ z.prefix ∷ []
    keys_more F z = simp map-append

    rising : Rises by_numbers (keys parts ++ t.prefix ∷ [])
    rising = elim (last_item parts) as (λ o. last_item parts ≡ o → option_map_or (λ (z : PartState). numbers_before z.prefix t.prefix) o true ≡ true → Rises by_numbers (keys parts ++ t.prefix ∷ [])) [
      | None ↦ λ e _. subst (λ z. Rises by_numbers (keys z ++ t.prefix ∷ [])) (sym (no_last parts e)) (tt, tt)
      | Some z ↦ λ e k.
          let split = last_split parts z e in
          let same : keys parts ≡ keys (front parts) ++ z.prefix ∷ [] = ap keys split ∙ keys_more (front parts) z in
          subst (λ (k : List (List ℕ)). Rises by_numbers (k ++ t.prefix ∷ [])) (sym same)
          (rises_more (keys (front parts)) z.prefix t.prefix (subst (Rises by_numbers) same h.by_prefix) (less_from_test (by_numbers z.prefix t.prefix) k))
    ] refl after

-- ---- the nodes of parts

module _ {A : Type 0} (p : ContactPlan) (r : RouteRequest) where
  abbrev node_at : ℕ → PartState → Node A
  node_at c t = record { leaf = c; length = length t.prefix; excluded = t.excluded; route = option_map (record_of p r) t.carried }

  nodes_push : (c : ℕ) (ts : List PartState) (t : PartState) → nodes_of p r c (ts ++ t ∷ []) ≡ nodes_of p r c ts ++ node_at (c + length (flat_map (leaves_of (is_route p r)) (map pair_of ts))) t ∷ []
  nodes_push c [] t = let same : c ≡ c + 0 = omega arith in ap (λ k. node_at k t ∷ []) same
  nodes_push c (u ∷ ts) t =
      let own = leaves_of (is_route p r) (pair_of u) in
      let others = flat_map (leaves_of (is_route p r)) (map pair_of ts) in
      let sum : c + length own + length others ≡ c + length (own ++ others) = omega (arith, length-append own others) in
      ap (λ ns. node_at c u ∷ ns) (nodes_push (c + length own) ts t ∙ ap (λ k. nodes_of p r (c + length own) ts ++ node_at k t ∷ []) sum)

more_test : (n : ℕ) → (suc n == 0) ≡ false
more_test n = grind (arith, nat_tests)

test_zero : (n : ℕ) → (n == 0) ≡ true → n ≡ 0
test_zero n h = grind (arith, nat_tests)

same_itself : (q : List ℕ) → same_numbers q q ≡ true
same_itself q = ap is_eq (Rattle.std.proofs.lemmas.Cmp.tied_itself nat_list_cmp_total q)

-- ---- the last prefix

prefix_there : (q : List ℕ) (o : Option PartState) → option_map_or (λ z. numbers_before z q) (option_map (λ (t : PartState). t.prefix) o) true ≡ option_map_or (λ (t : PartState). numbers_before t.prefix q) o true
prefix_there q None = refl
prefix_there q (Some t) = refl

after_last : {A : Type 0} (h : PartialShape A) (q : List ℕ) (parts : List PartState) → option_map (λ (t : PartState). t.prefix) (last_item parts) ≡ last_prefix h → is_after_last h q ≡ comes_after parts q
after_last h q parts last = ap (λ o. option_map_or (λ z. numbers_before z q) o true) (sym last) ∙ prefix_there q (last_item parts)

-- ---- what is expected

module _ {A : Type 0} {p : ContactPlan} {r : RouteRequest} {parts : List PartState} {h : PartialShape A} (a : IsAnswered p r parts h) where
  -- there is no part, or a first one
  part_cases : ((h.nodes ≡ []) × (parts ≡ [])) ⊎ (((length h.nodes == 0) ≡ false) × (t : PartState) × (ts : List PartState) × (parts ≡ t ∷ ts))
  part_cases = elim parts as (λ z. h.nodes ≡ nodes_of p r 0 z → ((h.nodes ≡ []) × (z ≡ [])) ⊎ (((length h.nodes == 0) ≡ false) × (t : PartState) × (ts : List PartState) × (z ≡ t ∷ ts))) [
    | [] ↦ λ e. inl (e, refl)
    | t ∷ ts ↦ λ e. inr (ap (λ (ns : List (Node A)). length ns == 0) e ∙ more_test (length (nodes_of {A = A} p r (0 + length (leaves_of (is_route p r) (pair_of t))) ts)), t, ts, refl)
  ] a.nodes

  module _ (q : List ℕ) where
    -- an expected prefix is the least that is expected, and what is expected after it is smaller
    expected_first : is_least h q ≡ true → expected_after parts (expected_in h) ≡ q ∷ reverse (front (expected_in h))
    expected_first least = elim part_cases [
      | inl none ↦
          let d : (length h.nodes == 0 && length q == 0) ≡ true = sym (ap (λ (z : List (List ℕ)). option_map_or (same_numbers q) (last_item z) (length h.nodes == 0 && length q == 0)) (a.first none.1)) ∙ least in
          let empty : q ≡ [] = nil_from_length q (test_zero (length q) (and_parts (length h.nodes == 0) (length q == 0) d).1) in
          ap (λ z. expected_after z (expected_in h)) none.1 ∙ (λ i. sym empty i ∷ reverse (front (sym (a.first none.1) i)))
      | inr some ↦
          let last : expected_in h ≡ front (expected_in h) ++ q ∷ [] = elim (last_item (expected_in h)) as (λ o. last_item (expected_in h) ≡ o → option_map_or (same_numbers q) o (length h.nodes == 0 && length q == 0) ≡ true → expected_in h ≡ front (expected_in h) ++ q ∷ []) [
            | None ↦ λ _ k. absurd (true≢false (sym (and_parts (length h.nodes == 0) (length q == 0) k).0 ∙ some.0))
            | Some o ↦ λ e k. last_split (expected_in h) o e ∙ ap (λ z. front (expected_in h) ++ z ∷ []) (sym (same_numbers_tell q o k))
          ] refl least in
          ap (λ z. expected_after z (expected_in h)) some.3 ∙ ap reverse last ∙ reverse-append (front (expected_in h)) (q ∷ [])
    ]

    -- and the least that is expected comes next
    first_expected : (rest : List (List ℕ)) → expected_after parts (expected_in h) ≡ q ∷ rest → is_least h q ≡ true
    first_expected rest o = elim part_cases [
      | inl none ↦
          let is : [] ∷ [] ≡ q ∷ rest = sym (ap (λ z. expected_after z (expected_in h)) none.1) ∙ o in
          let empty : [] ≡ q = cc in
          ap (λ (z : List (List ℕ)). option_map_or (same_numbers q) (last_item z) (length h.nodes == 0 && length q == 0)) (a.first none.1)
          ∙ (λ i. length (none.0 i) == 0 && length (sym empty i) == 0)
      | inr some ↦
          let is : reverse (expected_in h) ≡ q ∷ rest = sym (ap (λ z. expected_after z (expected_in h)) some.3) ∙ o in
          let back : expected_in h ≡ reverse rest ++ q ∷ [] = sym (reverse-reverse (expected_in h)) ∙ ap reverse is ∙ reverse-append (q ∷ []) rest in
          let last : last_item (expected_in h) ≡ Some q = last_item_push (expected_in h) (reverse rest) q back in
          ap (λ o. option_map_or (same_numbers q) o (length h.nodes == 0 && length q == 0)) last ∙ same_itself q
    ]

-- ---- the prefixes of those that are kept

last_of_map : {X Y : Type 0} (f : X → Y) (os : List X) → last_item (map f os) ≡ option_map f (last_item os)
last_of_map f os = ap (λ n. slice_get (map f os) (n - 1)) (length-map os f) ∙ slice_get-map f os (length os - 1)

module _ {A : Type 0} (h : PartialShape A) (q : List ℕ) (o : ExpectedPrefix) (last : last_item h.expected ≡ Some o) where
  least_is : is_least h q ≡ same_numbers q (expected_prefix h.last o)
  least_is = ap (λ o. option_map_or (same_numbers q) o (length h.nodes == 0 && length q == 0)) (last_of_map (expected_prefix h.last) h.expected ∙ ap (option_map (expected_prefix h.last)) last)

  module _ (sound : h.sound ≡ true) where
    pub same_is_expected : q ≡ expected_prefix h.last o → is_expected h q ≡ true
    same_is_expected same = (λ i. sound i && least_is i) ∙ ap (same_numbers q) (sym same) ∙ same_itself q

    pub other_is_not_expected : (q ≡ expected_prefix h.last o → ⊥) → is_expected h q ≡ false
    other_is_not_expected other = (λ i. sound i && least_is i) ∙ false_from_ne_true (same_numbers q (expected_prefix h.last o)) (λ k. other (same_numbers_tell q (expected_prefix h.last o) k))

map-front : {X Y : Type 0} (f : X → Y) (xs : List X) → map f (front xs) ≡ front (map f xs)
map-front f xs = sym (ap (λ n. take (n - 1) (map f xs)) (length-map xs f) ∙ take-map f (length xs - 1) xs)

map-reverse : {X Y : Type 0} (f : X → Y) (xs : List X) → map f (reverse xs) ≡ reverse (map f xs)
map-reverse f [] = refl
map-reverse f (x ∷ xs) = ap (map f) (reverse-append (x ∷ []) xs) ∙ map-append f (reverse xs) (x ∷ []) ∙ ap (λ z. z ++ f x ∷ []) (map-reverse f xs) ∙ sym (reverse-append (f x ∷ []) (map f xs))

-- ---- those that stay after the least

pairs_of_last : {X : Type 0} (Q : X → X → Type 0) (xs : List X) (y : X) → InPairs Q (xs ++ y ∷ []) → ((x : X) → Member x xs → Q x y) × InPairs Q xs
pairs_of_last Q xs y h = ((λ x m. pair_across Q xs (y ∷ []) x y h m (inl refl)), pairs_front Q xs (y ∷ []) h)

pairs_of_all : {X : Type 0} (Q : X → X → Type 0) (xs : List X) → ((x y : X) → Member x xs → Member y xs → Q x y) → InPairs Q xs
pairs_of_all Q [] h = tt
pairs_of_all Q (x ∷ xs) h = ((λ y m. h x y (inl refl) (inr m)), pairs_of_all Q xs (λ y z m k. h y z (inr m) (inr k)))

Member-reverse : {X : Type 0} (x : X) (xs : List X) → Member x (reverse xs) → Member x xs
Member-reverse x [] m = m
Member-reverse x (y ∷ xs) m = elim (Member-append_cases x (reverse xs) (y ∷ []) (subst (Member x) (reverse-append (y ∷ []) xs) m)) [
  | inl k ↦ inr (Member-reverse x xs k)
  | inr k ↦ elim k [ inl e ↦ inl e | inr z ↦ absurd z ]
]

record Stay (last q : List ℕ) (os : List ExpectedPrefix) : Type 0 where
  same : (o : ExpectedPrefix) → Member o os → expected_prefix q o ≡ expected_prefix last o
  within : (o : ExpectedPrefix) → Member o os → o.length ≤ length q
  nested : InPairs (λ a b. a.length ≤ b.length) os

module _ {A : Type 0} (p : ContactPlan) (r : RouteRequest) (h : PartialShape A) (q : List ℕ) (least : is_least h q ≡ true) (expected : AreExpected p r h.last h.expected) where
  -- the others begin with numbers that the least begins with
  stay : Stay h.last q (front h.expected)
  stay = elim (last_item h.expected) as (λ z. last_item h.expected ≡ z → Stay h.last q (front h.expected)) [
    | None ↦ λ e. subst (λ os. Stay h.last q (front os)) (sym (no_last h.expected e)) (record { same = λ o m. absurd m; within = λ o m. absurd m; nested = tt })
    | Some o ↦ λ e.
        let is : q ≡ take o.length h.last ++ o.number ∷ [] = same_numbers_tell q (expected_prefix h.last o) (sym (least_is h q o e) ∙ least) in
        let all : h.expected ≡ front h.expected ++ o ∷ [] = last_split h.expected o e in
        let w = pairs_of_last (λ (a b : ExpectedPrefix). a.length ≤ b.length) (front h.expected) o (subst (InPairs (λ (a b : ExpectedPrefix). a.length ≤ b.length)) all expected.nested) in
        let most : o.length ≤ length h.last = expected.within o (get_Member h.expected (length h.expected - 1) o e) in
        let front_long : length (take o.length h.last) ≡ o.length = length-take-le o.length h.last most in
        record {
          same = λ x m.
              let less : x.length ≤ length (take o.length h.last) = omega (arith, front_long, w.0 x m) in
              ap (λ z. z ++ x.number ∷ []) (ap (take x.length) is ∙ take-append-le x.length (take o.length h.last) (o.number ∷ []) less ∙ take-take x.length o.length h.last (w.0 x m));
          within = λ x m. omega (arith, w.0 x m, ap (length {A = ℕ}) is, length-append (take o.length h.last) (o.number ∷ []), front_long);
          nested = w.1;
        }
  ] refl

  step_is : (o : ExpectedPrefix) → o.length ≡ length q → expected_prefix q o ≡ step_of q o
  step_is o e = ap (λ z. z ++ o.number ∷ []) (ap (λ n. take n q) e ∙ take_all (length q) q (omega arith))

  -- and after them come the steps from it
  expected_more : (steps : List ExpectedPrefix) → AreSteps p r q steps → AreExpected p r q (front h.expected ++ reverse steps)
  expected_more steps new = record {
    ends = λ o m. elim (Member-append_cases o (front h.expected) (reverse steps) m) [
      | inl k ↦ subst (λ z. IsPathEnd p r z o.end) (sym (stay.same o k)) (expected.ends o (member_taken (length h.expected - 1) o h.expected k))
      | inr k ↦ let w = new o (Member-reverse o steps k) in subst (λ z. IsPathEnd p r z o.end) (sym (step_is o w.0)) w.1
    ];
    within = λ o m. elim (Member-append_cases o (front h.expected) (reverse steps) m) [
      | inl k ↦ stay.within o k
      | inr k ↦ omega (arith, (new o (Member-reverse o steps k)).0)
    ];
    nested = pairs_two (λ (a b : ExpectedPrefix). a.length ≤ b.length) (front h.expected) (reverse steps) stay.nested
        (pairs_of_all (λ (a b : ExpectedPrefix). a.length ≤ b.length) (reverse steps) (λ a b m k. omega (arith, (new a (Member-reverse a steps m)).0, (new b (Member-reverse b steps k)).0)))
        (λ a b m k. omega (arith, stay.within a m, (new b (Member-reverse b steps k)).0));
  }

  prefixes_more : (steps : List ExpectedPrefix) → AreSteps p r q steps → map (expected_prefix q) (front h.expected ++ reverse steps) ≡ front (expected_in h) ++ reverse (map (step_of q) steps)
  prefixes_more steps new = map-append (expected_prefix q) (front h.expected) (reverse steps)
      ∙ (λ i. (map_same (expected_prefix q) (expected_prefix h.last) (front h.expected) stay.same ∙ map-front (expected_prefix h.last) h.expected) i
      ++ (map_same (expected_prefix q) (step_of q) (reverse steps) (λ o m. step_is o (new o (Member-reverse o steps m)).0) ∙ map-reverse (step_of q) steps) i)

module _ (p : ContactPlan) (r : RouteRequest) where
  abbrev route : List ℕ → Bool
  route = is_route p r

  abbrev path : List ℕ → Bool
  path = is_path p r

  module _ {A : Type 0} where
    -- ---- a part more

    module _ (parts : List PartState) (h : PartialShape A) (partial : IsPartial p r parts h) (q X : List ℕ) (kept : Option RouteRecord) (carried : Option (List ℕ)) (is : kept ≡ option_map (record_of p r) carried) where
      abbrev e : List ℕ × List ℕ
      e = (q, X)

      abbrev t : PartState
      t = part_with q X carried

      abbrev n : Node A
      n = record { leaf = length h.leaves; length = length q; excluded = X; route = kept }

      pairs_more : map pair_of (parts ++ t ∷ []) ≡ map pair_of parts ++ e ∷ []
      pairs_more = map-append pair_of parts (t ∷ [])

      expected_after_more : (parts : List PartState) (t : PartState) (expected : List (List ℕ)) → expected_after (parts ++ t ∷ []) expected ≡ reverse expected
      expected_after_more [] t expected = refl
      expected_after_more (u ∷ parts) t expected = refl

      answered_more : (j : Checked A) → IsAnswered p r parts h → is_least h q ≡ true → IsGood route path e → IsChecked p r e j → IsAnswered p r (parts ++ t ∷ []) (with_node h q X kept (Some j))
      answered_more j a least good checked = record {
        expects = subst (λ T. Expects route path ([] ∷ []) T (expected_after (parts ++ t ∷ []) (map (expected_prefix q) expected))) (sym pairs_more)
            (Expects-push route path (map pair_of parts) ([] ∷ []) (expected_after parts (expected_in h)) (expected_after (parts ++ t ∷ []) (map (expected_prefix q) expected)) e a.expects
            (reverse (front (expected_in h)), expected_first a q least, good, sym expected_now));
        leaves = (λ i. a.leaves i ++ checked.leaves_are i) ∙ sym (map-append (record_of p r) (flat_map (leaves_of route) (map pair_of parts)) (leaves_of route e))
            ∙ ap (map (record_of p r)) (ap (λ z. flat_map (leaves_of route) (map pair_of parts) ++ z) (sym (append-nil (leaves_of route e))) ∙ sym (flat_map-append (leaves_of route) (map pair_of parts) (e ∷ [])) ∙ ap (flat_map (leaves_of route)) (sym pairs_more));
        nodes = (λ i. a.nodes i ++ record { leaf = count i; length = length q; excluded = X; route = is i } ∷ []) ∙ sym (nodes_push p r 0 parts t);
        expected = expected_more p r h q least a.expected j.onward.items checked.steps;
        first = λ k. absurd (omega (arith, ap (length {A = PartState}) k, length-append parts (t ∷ [])));
      }
        where
          expected : List ExpectedPrefix
          expected = front h.expected ++ reverse j.onward.items

          count : length h.leaves ≡ 0 + length (flat_map (leaves_of route) (map pair_of parts))
          count = let k = ap (length {A = RouteRecord}) a.leaves ∙ length-map (flat_map (leaves_of route) (map pair_of parts)) (record_of p r) in omega (arith, k)

          expected_now : expected_after (parts ++ t ∷ []) (map (expected_prefix q) expected) ≡ onward route path e ++ reverse (front (expected_in h))
          expected_now = expected_after_more parts t (map (expected_prefix q) expected) ∙ ap reverse (prefixes_more p r h q least a.expected j.onward.items checked.steps)
              ∙ reverse-append (front (expected_in h)) (reverse (map (step_of q) j.onward.items))
              ∙ ap (λ z. z ++ reverse (front (expected_in h))) (reverse-reverse (map (step_of q) j.onward.items) ∙ checked.onward_are)

      broken_more : (is_expected h q ≡ true → IsGood route path e → ⊥) → (os : List (List ℕ)) → Expects route path ([] ∷ []) (map pair_of parts ++ e ∷ []) os → ⊥
      broken_more none os o =
          let w = Expects-front route path (map pair_of parts) ([] ∷ []) os e o in
          elim (cases_Bool h.sound) [
            | inl k ↦
                let a = partial.answered k in
                none (λ i. k i && first_expected a q w.2.0 (Expects-one route path (map pair_of parts) ([] ∷ []) (expected_after parts (expected_in h)) w.0 a.expects w.1 ∙ w.2.1) i) w.2.2
            | inr k ↦ partial.broken k w.0 w.1
          ]

      carried_in : may_carry p r t ≡ true → (s : List ℕ) → carried ≡ Some s → (route s ≡ true) × Within q X s
      carried_in may s k =
          let w = and_parts (route s) (goes_on q X s) (sym (ap (λ o. option_map_or (Rattle.sabr_model.specs.routes.Parts.in_part p r q X) o true) k) ∙ may) in
          (w.0, goes_on_within q X s w.1)

      module _ (strictly : rise_strictly X ≡ true) (after : is_after_last h q ≡ true) (may : may_carry p r t ≡ true) where
        ordered : InOrder (map pair_of (parts ++ t ∷ []))
        ordered = subst InOrder (sym pairs_more) (order_more parts t partial.order strictly (sym (after_last h q parts partial.last) ∙ after))

        carried_then : (u : PartState) (s : List ℕ) → Member u (parts ++ t ∷ []) → u.carried ≡ Some s → (route s ≡ true) × Within u.prefix u.excluded s
        carried_then u s m k = elim (Member-append_cases u parts (t ∷ []) m) [
          | inl a ↦ partial.carried u s a k
          | inr a ↦ elim a [
            | inl same ↦ subst (λ (z : PartState). (route s ≡ true) × Within z.prefix z.excluded s) (sym same) (carried_in may s (sym (ap (λ (z : PartState). z.carried) same) ∙ k))
            | inr z ↦ absurd z
          ]
        ]

        last_then : option_map (λ (t : PartState). t.prefix) (last_item (parts ++ t ∷ [])) ≡ Some q
        last_then = ap (option_map (λ (t : PartState). t.prefix)) (last_item_push (parts ++ t ∷ []) parts t refl)

        pub partial_more : (j : Option (Checked A)) → IsVerdict p r h e j → IsPartial p r (parts ++ t ∷ []) (with_node h q X kept j)
        partial_more (Some j) v = record {
          last = last_then ∙ sym (ap (λ b. if b then None else Some q) (λ i. least.0 i && some i));
          order = ordered;
          carried = carried_then;
          answered = λ _. answered_more j (partial.answered least.0) least.1 v.1 v.2;
          broken = λ k. absurd (true≢false (sym least.0 ∙ k));
        }
          where
            least : (h.sound ≡ true) × (is_least h q ≡ true)
            least = and_parts h.sound (is_least h q) v.0

            some : (length (h.nodes ++ n ∷ []) == 0) ≡ false
            some = elim h.nodes as (λ ns. (length (ns ++ n ∷ []) == 0) ≡ false) [ [] ↦ refl | m ∷ ns ↦ more_test (length (ns ++ n ∷ [])) ]
        partial_more None v = record {
          last = last_then;
          order = ordered;
          carried = carried_then;
          answered = λ k. absurd (true≢false (sym k));
          broken = λ _ os. subst (λ T. Expects route path ([] ∷ []) T os → ⊥) (sym pairs_more) (broken_more v os);
        }

    -- ---- before any part

    pub nothing_yet_is : IsPartial p r [] (nothing_yet {A = A})
    nothing_yet_is = record {
      last = refl;
      order = record { by_prefix = tt; numbers = λ q X m. absurd m };
      carried = λ t s m. absurd m;
      answered = λ _. record { expects = refl; leaves = refl; nodes = refl; expected = record { ends = λ o m. absurd m; within = λ o m. absurd m; nested = tt }; first = λ _. refl };
      broken = λ k. absurd (true≢false k);
    }

    -- ---- the end

    module _ (parts : List PartState) (h : PartialShape A) (partial : IsPartial p r parts h) where
      pub complete_expects : is_complete h ≡ true → Expects route path ([] ∷ []) (map pair_of parts) []
      complete_expects complete =
          let w = and_parts h.sound (not (length h.nodes == 0) && (length h.expected == 0)) complete in
          let v = and_parts (not (length h.nodes == 0)) (length h.expected == 0) w.1 in
          let some : expected_after (parts) (expected_in h) ≡ reverse (expected_in h) = elim (part_cases (partial.answered w.0)) [
            | inl none ↦ absurd (true≢false (sym v.0 ∙ ap (λ ns. not (length {A = Node A} ns == 0)) none.0))
            | inr some ↦ ap (λ z. expected_after z (expected_in h)) some.3
          ] in
          subst (Expects route path ([] ∷ []) (map pair_of parts)) (some ∙ ap (λ os. reverse (map (expected_prefix h.last) os)) (nil_from_length h.expected (test_zero (length h.expected) v.1))) (partial.answered w.0).expects

      pub complete_closed : is_complete h ≡ true → IsClosed route path (is_prefix p r) (map pair_of parts)
      complete_closed complete = expects_closed route path (is_prefix p r) (empty_is_prefix p r) (prefix_goes_on p r) (prefix_no_route p r) (map pair_of parts) (complete_expects complete)

      pub incomplete_open : is_complete h ≡ false → IsClosed route path (is_prefix p r) (map pair_of parts) → ⊥
      incomplete_open incomplete closed =
          let o = closed_expects route path (is_prefix p r) (empty_is_prefix p r) (prefix_goes_on p r) (prefix_no_route p r) (map pair_of parts) partial.order closed in
          elim (cases_Bool h.sound) [
            | inr k ↦ partial.broken k [] o
            | inl k ↦ elim (part_cases (partial.answered k)) [
              | inl none ↦
                  let is : [] ∷ [] ≡ [] = subst (λ T. Expects route path ([] ∷ []) T []) (ap (map pair_of) none.1) o in cc
              | inr some ↦
                  let a = partial.answered k in
                  let complete : reverse (expected_in h) ≡ [] = sym (ap (λ z. expected_after z (expected_in h)) some.3) ∙ Expects-one route path (map pair_of parts) ([] ∷ []) (expected_after (parts) (expected_in h)) [] a.expects o in
                  let empty : length h.expected ≡ 0 = sym (length-map h.expected (expected_prefix h.last)) ∙ sym (length-reverse (expected_in h)) ∙ ap length complete in
                  true≢false (sym ((λ i. k i && (not (some.0 i) && (empty i == 0)))) ∙ incomplete)
            ]
          ]

-- ---- how a part is refused

abbrev is_next : {A : Type 0} → PartialTree A → PartState → Bool
is_next partial t = rise_strictly t.excluded && is_after_last (partial_shape_of partial) t.prefix

module _ {A : Type 0} {plan : TabledPlan} {r : RouteRequest} {parts : List PartState} {partial : PartialTree A} (is_loader : IsLoader plan r parts partial) {calls : Calls} {v : Loaded} (is : loaded plan r parts calls ≡ v) (t : PartState) where
  refusal_is : {first may : Bool} → is_next partial t ≡ first → may_carry plan.plan r t ≡ may → refusal_by v t ≡ cond (not first) (Some BadOrder) (cond (not may) (Some BadRoute) None)
  refusal_is h k =
      let first = ap (λ b. rise_strictly t.excluded && b) (sym (after_last (partial_shape_of partial) t.prefix parts is_loader.partial.last)) ∙ h in
      ap (λ w. refusal_by w t) (sym is) ∙ (λ i. cond (not (first i)) (Some BadOrder) (cond (not (k i)) (Some BadRoute) None))

  pub order_refused : is_next partial t ≡ false → refusal_by v t ≡ Some BadOrder
  order_refused h = refusal_is h refl

  pub not_refused : is_next partial t ≡ true → may_carry plan.plan r t ≡ true → refusal_by v t ≡ None
  not_refused h k = refusal_is h k

  -- what is reported is the refusal
  pub carry_told : is_next partial t ≡ true → (a f : LoadFault) → IsCarryFault (may_carry plan.plan r t) a → refusal_by v t ≡ Some f → a ≡ f
  carry_told h BadOrder f k e = absurd k
  carry_told h BadRoute f k e = let both : Some BadRoute ≡ Some f = sym (refusal_is h k) ∙ e in cc
  carry_told h NotClosed f k e = absurd k
  carry_told h BadCount f k e = absurd k
  carry_told h NoMemory f k e = let both : None ≡ Some f = sym (refusal_is h k) ∙ e in cc

  pub carry_accepted : is_next partial t ≡ true → (a : LoadFault) → IsCarryFault (may_carry plan.plan r t) a → refusal_by v t ≡ None → a ≡ NoMemory
  carry_accepted h BadOrder k e = absurd k
  carry_accepted h BadRoute k e = let both : Some BadRoute ≡ None = sym (refusal_is h k) ∙ e in cc
  carry_accepted h NotClosed k e = absurd k
  carry_accepted h BadCount k e = absurd k
  carry_accepted h NoMemory k e = refl

-- ---- what a prefix leads to with its excluded numbers, one number after another

module _ (p : ContactPlan) (r : RouteRequest) where
  -- ---- one list of numbers

  module _ (q : List ℕ) (n : ℕ) (end : PathEnd) (is : IsPathEnd p r (q ++ n ∷ []) end) where
    -- a path to the destination
    pub goes_there : end.here.node ≡ r.destination → is_route p r (q ++ n ∷ []) ≡ true
    goes_there same = ends_there p r (q ++ n ∷ []) end.here (some_behind q n) is.path is.reached same

    -- a path to another node
    pub goes_elsewhere : (end.here.node ≡ r.destination → ⊥) → is_route p r (q ++ n ∷ []) ≡ false
    goes_elsewhere other = fault_is_no_route p r (q ++ n ∷ []) WrongEnd (ends_elsewhere p r (q ++ n ∷ []) end.here (some_behind q n) is.path is.reached other)

  -- a list that has a fault on the way is no path
  pub faulty_front : (o : Result Reached HopFault) (s : List ℕ) → IfErr o (λ f. first_fault p r [] s ≡ Some f) → ((here : Reached) → o ≡ Ok here → ⊥) → is_path p r s ≡ true → ⊥
  faulty_front (Ok here) s fault other path = other here refl
  faulty_front (Err f) s fault other path = let none : first_fault p r [] s ≡ None = path_is_good p r [] s path in cc

  -- ---- all of them

  module _ (q X : List ℕ) (i : ℕ) (lt : i < length X) where
    abbrev x : ℕ
    x = get_or X i 0

    one_more : take (i + 1) X ≡ take i X ++ x ∷ []
    one_more = take_more X i 0 lt

    leaves_more : leaves_of (is_route p r) (q, take (i + 1) X) ≡ leaves_of (is_route p r) (q, take i X) ++ filter (is_route p r) ((q ++ x ∷ []) ∷ [])
    leaves_more = ap (λ Y. leaves_of (is_route p r) (q, Y)) one_more ∙ ap (filter (is_route p r)) (map-append (λ x. q ++ x ∷ []) (take i X) (x ∷ [])) ∙ filter-append (is_route p r) (map (λ x. q ++ x ∷ []) (take i X)) ((q ++ x ∷ []) ∷ [])

    onward_more : onward (is_route p r) (is_path p r) (q, take (i + 1) X) ≡ onward (is_route p r) (is_path p r) (q, take i X) ++ filter (λ s. not (is_route p r s)) ((q ++ x ∷ []) ∷ [])
    onward_more = ap (λ Y. onward (is_route p r) (is_path p r) (q, Y)) one_more ∙ ap (filter (λ q. not (is_route p r q))) (map-append (λ x. q ++ x ∷ []) (take i X) (x ∷ [])) ∙ filter-append (λ q. not (is_route p r q)) (map (λ x. q ++ x ∷ []) (take i X)) ((q ++ x ∷ []) ∷ [])

    pub checked_more : {A : Type 0} (old new : Checked A) → IsChecked p r (q, take i X) old → new.leaves.items ≡ old.leaves.items ++ map (record_of p r) (filter (is_route p r) ((q ++ x ∷ []) ∷ [])) → map (step_of q) new.onward.items ≡ map (step_of q) old.onward.items ++ filter (λ s. not (is_route p r s)) ((q ++ x ∷ []) ∷ []) → (AreSteps p r q old.onward.items → AreSteps p r q new.onward.items) → IsChecked p r (q, take (i + 1) X) new
    checked_more old new h a b f = record {
      leaves_are = a ∙ ap (λ z. z ++ map (record_of p r) (filter (is_route p r) ((q ++ x ∷ []) ∷ []))) h.leaves_are ∙ sym (map-append (record_of p r) (leaves_of (is_route p r) (q, take i X)) (filter (is_route p r) ((q ++ x ∷ []) ∷ []))) ∙ ap (map (record_of p r)) (sym leaves_more);
      onward_are = b ∙ ap (λ z. z ++ filter (λ s. not (is_route p r s)) ((q ++ x ∷ []) ∷ [])) h.onward_are ∙ sym onward_more;
      steps = f h.steps;
    }

    pub paths_more : AllGoOn p r (q, take i X) → is_path p r (q ++ x ∷ []) ≡ true → AllGoOn p r (q, take (i + 1) X)
    paths_more h one y m = elim (or_cases (has nat_cmp y (take i X)) (has nat_cmp y (x ∷ [])) (sym (has-append nat_cmp_total y (take i X) (x ∷ [])) ∙ ap (has nat_cmp y) (sym one_more) ∙ m)) [
      | inl k ↦ h y k
      | inr k ↦ subst (λ z. is_path p r (q ++ z ∷ []) ≡ true) (sym (elim (has_Number y (x ∷ []) k) [ inl e ↦ e | inr z ↦ absurd z ])) one
    ]

  -- the number at a place is one of them
  pub number_in : (X : List ℕ) (i : ℕ) → i < length X → has nat_cmp (get_or X i 0) X ≡ true
  number_in X i lt = Number_has (get_or X i 0) X (member_at X i 0 lt)

-- ---- the verdict

pub some_number : (X : List ℕ) → (length X == 0) ≡ false → (x : ℕ) × (has nat_cmp x X ≡ true)
some_number [] h = absurd (true≢false h)
some_number (x ∷ X) h = (x, has_itself nat_cmp_total x X)

pub empty_list : (q : List ℕ) → (length q == 0) ≡ true → q ≡ []
empty_list q h = nil_from_length q (grind (arith, nat_tests))

module _ {A : Type 0} (p : ContactPlan) (r : RouteRequest) (h : PartialShape A) (e : List ℕ × List ℕ) (least : is_expected h e.0 ≡ true) (busy : (e.0 ≡ []) ⊎ ((x : ℕ) × (has nat_cmp x e.1 ≡ true))) where
  verdict_of : (o : Option (Checked A)) → IfSome o (λ j. AllGoOn p r e × IsChecked p r e j) → IfNone o (AllGoOn p r e → ⊥) → IsVerdict p r h e o
  verdict_of None some none = λ _ good. none good.chains
  verdict_of (Some j) some none = (least, record { busy = busy; chains = some.0 }, some.1)

  pub verdict_from : {E : Type 0} (res : Result (Option (Checked A)) E) → IfOk res (λ o. IfSome o (λ j. AllGoOn p r e × IsChecked p r e j)) → IfOk res (λ o. IfNone o (AllGoOn p r e → ⊥)) → IfOk res (IsVerdict p r h e)
  verdict_from (Ok o) some none = verdict_of o some none
  verdict_from (Err f) some none = tt
