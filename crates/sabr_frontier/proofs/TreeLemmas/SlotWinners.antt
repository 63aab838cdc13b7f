-- What the winners of slots are.
use Rattle.sabr_frontier.proofs.Names.{◌≡◌, ◌≢◌, ℕ, zero, suc, ◌+◌, ◌-◌, ◌*◌, ◌/◌, ◌<◌, ◌≤◌, true, false, ◌⊎◌, inl, inr, List, [], ◌∷◌, ◌++◌, length, set, Option, Some, None, refl, sym, ap, subst, ◌∙◌, arith, true≢false, length-append, slice_get_within, slice_get, option_and_then, is_lt, Less, cases_eq, cases_lt, get_or-set_same, get_or-set_other, get_or_append_left, get_or_at, RouteRecord, by_record, by_record_total, NodeId, Node, route_at, winner_at, is_lesser, IsNoGreater, IsBestOf, IsFirst, CarriesNone, IsLesser, IsWinner, IsWon, AreWinners, low, high, IsAbove, AreOthersWinners, IsSiftedUp, IsBeside}
use Rattle.std.proofs.Common.{length-set}
use Rattle.sabr_frontier.specs.tree.Winners.{route_of}
use Rattle.sabr_frontier.proofs.ListingLemmas.ListMembers.{turned, less_from_test, not_below, not_less_itself}

-- ---- what a node carries

pub standing_at : {A : Type 0} (nodes : List (Node A)) (id : NodeId) (x : RouteRecord) → route_at nodes id ≡ Some x → (n : Node A) × (slice_get nodes id.0 ≡ Some n) × (n.route ≡ Some x)
standing_at nodes id x h = elim (slice_get nodes id.0) as (λ o. slice_get nodes id.0 ≡ o → option_and_then route_of o ≡ Some x → (n : Node _) × (slice_get nodes id.0 ≡ Some n) × (n.route ≡ Some x)) [
  | None ↦ λ _ k. absurd cc
  | Some n ↦ λ e k. (n, e, k)
] refl h

-- ---- routes that are no greater

no_greater_itself : (o : Option RouteRecord) → IsNoGreater o o
no_greater_itself None = refl
no_greater_itself (Some x) = not_less_itself by_record_total x

no_greater_then : (o p q : Option RouteRecord) → IsNoGreater o p → IsNoGreater p q → IsNoGreater o q
no_greater_then o p None a b = refl
no_greater_then o None (Some z) a b = absurd (true≢false b)
no_greater_then None (Some y) (Some z) a b = absurd (true≢false a)
no_greater_then (Some x) (Some y) (Some z) a b = not_below by_record_total z y x b a

first_then : (o p : Option RouteRecord) → is_lesser o p ≡ true → IsNoGreater o p
first_then None p e = absurd (true≢false (sym e))
first_then (Some x) None e = refl
first_then (Some x) (Some y) e = ap is_lt (turned by_record_total x y Less (less_from_test (by_record x y) e))

-- ---- slots over others

low_over : (m a : ℕ) → low (suc m) a ≡ (low m a - 1) / 2
low_over zero a = refl
low_over (suc m) a = low_over m ((a - 1) / 2)

high_over : (m b : ℕ) → high (suc m) b ≡ high m b / 2
high_over zero b = refl
high_over (suc m) b = high_over m (b / 2)

high_zero : (m : ℕ) → high m 0 ≡ 0
high_zero zero = refl
high_zero (suc m) = high_zero m

above_over : (c k a b : ℕ) → IsAbove c a b → k * 2 + 1 ≤ c → c ≤ k * 2 + 2 → IsAbove k a b
above_over c k a b (m, l, h) x y = (suc m, omega (arith, low_over m a, l, y), omega (arith, high_over m b, h, x))

above_cases : (k a b : ℕ) → IsAbove k a b → ((a ≤ k) × (k < b)) ⊎ IsAbove k ((a - 1) / 2) (b / 2)
above_cases k a b (zero, x, y) = inl (x, y)
above_cases k a b (suc m, x, y) = inr (m, x, y)

above_none : (k a : ℕ) → IsAbove k a 0 → ⊥
above_none k a (m, x, y) = omega (arith, y, high_zero m)

-- ---- the winner of a slot

-- the slots from a on and below b name winners, and the others what they named
pub record IsSettled {A : Type 0} (nodes : List (Node A)) (old ids : List NodeId) (a b : ℕ) : Type 0 where
  pub won : (k : ℕ) → a ≤ k → k < b → IsWon nodes ids k
  pub others : (k : ℕ) → (k < a) ⊎ (b ≤ k) → winner_at ids k ≡ winner_at old k
  pub long : length ids ≡ length old

module _ {A : Type 0} (nodes : List (Node A)) where
  pub lesser_other : (a b : NodeId) → is_lesser (route_at nodes b) (route_at nodes a) ≡ true → IsLesser nodes a b b
  lesser_other a b e = record { first = first_then (route_at nodes b) (route_at nodes a) e; second = no_greater_itself (route_at nodes b); one = inr refl }

  pub lesser_same : (a b : NodeId) → is_lesser (route_at nodes b) (route_at nodes a) ≡ false → IsLesser nodes a b a
  lesser_same a b e = record { first = no_greater_itself (route_at nodes a); second = e; one = inl refl }

  module _ (ids : List NodeId) (k : ℕ) where
    abbrev own : NodeId
    own = record { 0 = k }

    pub won_alone : length ids ≤ k * 2 + 1 → IsWinner nodes ids k own
    won_alone few = record {
      own = no_greater_itself (route_at nodes own);
      over = λ c a b l. absurd (omega (arith, few, a, l));
      from = inl refl;
    }

    pub won_left : (v : NodeId) → k * 2 + 1 < length ids → length ids ≤ k * 2 + 2 → IsLesser nodes own (winner_at ids (k * 2 + 1)) v → IsWinner nodes ids k v
    won_left v there few is = record {
      own = is.first;
      over = λ c a b l. (let e : k * 2 + 1 ≡ c = omega (arith, few, a, l) in subst (λ c. IsNoGreater (route_at nodes v) (route_at nodes (winner_at ids c))) e is.second);
      from = elim is.one [ inl e ↦ inl e | inr e ↦ inr (k * 2 + 1, omega arith, omega arith, there, e) ];
    }

    pub won_both : (v w : NodeId) → k * 2 + 2 < length ids → IsLesser nodes own (winner_at ids (k * 2 + 1)) v → IsLesser nodes v (winner_at ids (k * 2 + 2)) w → IsWinner nodes ids k w
    won_both v w there one two =
        let R = λ (z : NodeId). IsNoGreater (route_at nodes w) (route_at nodes z) in
        let then = λ (z : NodeId). no_greater_then (route_at nodes w) (route_at nodes v) (route_at nodes z) two.first in
        record {
          own = then own one.first;
          over = λ c a b l. elim (cases_eq c (k * 2 + 1)) [
            | inl e ↦ subst (λ c. R (winner_at ids c)) (sym e) (then (winner_at ids (k * 2 + 1)) one.second)
            | inr d ↦ (let e : k * 2 + 2 ≡ c = omega (arith, a, b, d) in subst (λ c. R (winner_at ids c)) e two.second)
          ];
          from = elim two.one [
            | inl e ↦ elim one.one [ inl f ↦ inl (e ∙ f) | inr f ↦ inr (k * 2 + 1, omega arith, omega arith, omega (arith, there), e ∙ f) ]
            | inr e ↦ inr (k * 2 + 2, omega arith, omega arith, there, e)
          ];
        }

  -- it stays one where what it is compared with stays
  stays : (ids ids' : List NodeId) (k : ℕ) (w : NodeId) → length ids ≤ length ids' → ((c : ℕ) → k * 2 + 1 ≤ c → c ≤ k * 2 + 2 → c < length ids' → (c < length ids) × (winner_at ids' c ≡ winner_at ids c)) → IsWinner nodes ids k w → IsWinner nodes ids' k w
  stays ids ids' k w more same is = record {
    own = is.own;
    over = λ c a b l. (let s = same c a b l in subst (λ z. IsNoGreater (route_at nodes w) (route_at nodes z)) (sym s.1) (is.over c a b s.0));
    from = elim is.from [
      | inl e ↦ inl e
      | inr f ↦ (let l : f.0 < length ids' = (let m = f.3 in omega arith) in inr (f.0, f.1, f.2, l, f.4 ∙ sym (same f.0 f.1 f.2 l).1))
    ];
  }

  -- ---- slots that are settled

  pub settled_none : (ids : List NodeId) (b : ℕ) → IsSettled nodes ids ids b b
  settled_none ids b = record { won = λ k l m. absurd (omega arith); others = λ k o. refl; long = refl }

  pub settled_more : (old ids : List NodeId) (s a b : ℕ) (w : NodeId) → a ≡ suc s → s < length ids → a ≤ b → IsWinner nodes ids s w → IsSettled nodes old ids a b → IsSettled nodes old (set ids s w) s b
  settled_more old ids s a b w e l m is so = record {
    won = λ k low high. elim (cases_eq k s) [
      | inl f ↦ subst (IsWon nodes (set ids s w)) (sym f) (subst (IsWinner nodes (set ids s w) s) (sym (get_or-set_same ids s w (record { 0 = 0 }) l)) (unchanged s w is (λ c n. omega (arith, n))))
      | inr d ↦ subst (IsWinner nodes (set ids s w) k) (sym (other k d)) (unchanged k (winner_at ids k) (so.won k (omega (arith, e, low, d)) high) (λ c n. omega (arith, n, low)))
    ];
    others = λ k o. (let d : k ≢ s = elim o [ inl n ↦ omega (arith, n) | inr n ↦ omega (arith, n, e, m) ] in other k d ∙ so.others k (elim o [ inl n ↦ inl (omega (arith, n, e)) | inr n ↦ inr n ]));
    long = length-set ids s w ∙ so.long;
  }
    where
      other : (k : ℕ) → k ≢ s → winner_at (set ids s w) k ≡ winner_at ids k
      other k d = get_or-set_other ids s k w (record { 0 = 0 }) d

      unchanged : (k : ℕ) (z : NodeId) → IsWinner nodes ids k z → ((c : ℕ) → k * 2 + 1 ≤ c → c ≢ s) → IsWinner nodes (set ids s w) k z
      unchanged k z was apart = stays ids (set ids s w) k z (omega (arith, length-set ids s w)) (λ c n u v. (omega (arith, v, length-set ids s w), other c (apart c n))) was

  -- ---- those over them

  pub others_over : (old ids : List NodeId) (a b : ℕ) → IsSettled nodes old ids a b → AreOthersWinners nodes old a b → AreOthersWinners nodes ids ((a - 1) / 2) (b / 2)
  others_over old ids a b so are k l out = elim (cases_lt k a) [
    | inl below ↦ outside (inl below) (λ w. elim (above_cases k a b w) [ inl z ↦ (let x = z.0 in omega (arith, x, below)) | inr z ↦ out z ])
    | inr from ↦ elim (cases_lt k b) [
      | inl before ↦ so.won k from before
      | inr past ↦ outside (inr past) (λ w. elim (above_cases k a b w) [ inl z ↦ (let x = z.1 in omega (arith, x, past)) | inr z ↦ out z ])
    ]
  ]
    where
      same : (c : ℕ) → k * 2 + 1 ≤ c → c ≤ k * 2 + 2 → winner_at ids c ≡ winner_at old c
      same c x y = elim (cases_lt c a) [
        | inl below ↦ so.others c (inl below)
        | inr from ↦ elim (cases_lt c b) [
          | inl before ↦ absurd (out (0, omega (arith, from, y), omega (arith, before, x)))
          | inr past ↦ so.others c (inr past)
        ]
      ]

      outside : (k < a) ⊎ (b ≤ k) → (IsAbove k a b → ⊥) → IsWon nodes ids k
      outside o none = subst (IsWinner nodes ids k) (sym (so.others k o)) (stays old ids k (winner_at old k) (omega (arith, so.long)) (λ c x y z. (omega (arith, z, so.long), same c x y)) (are k (omega (arith, l, so.long)) none))

  pub others_all : (ids : List NodeId) (a b : ℕ) → b ≤ 0 → AreOthersWinners nodes ids a b → AreWinners nodes ids
  others_all ids a b none are k l = are k l (λ w. (let e : b ≡ 0 = omega (arith, none) in above_none k a (subst (IsAbove k a) e w)))

  -- ---- the first slot

  module _ (ids : List NodeId) (won : AreWinners nodes ids) where
    first_is : (n j : ℕ) → j ≤ n → j < length ids → IsNoGreater (route_at nodes (winner_at ids 0)) (route_at nodes (winner_at ids j))
    first_is zero j le l = (let e : 0 ≡ j = omega (arith, le) in subst (λ j. IsNoGreater (route_at nodes (winner_at ids 0)) (route_at nodes (winner_at ids j))) e (no_greater_itself (route_at nodes (winner_at ids 0))))
    first_is (suc n) j le l = elim (cases_eq j 0) [
      | inl e ↦ subst (λ j. IsNoGreater (route_at nodes (winner_at ids 0)) (route_at nodes (winner_at ids j))) (sym e) (no_greater_itself (route_at nodes (winner_at ids 0)))
      | inr d ↦
          let p : ℕ = (j - 1) / 2 in
          no_greater_then (route_at nodes (winner_at ids 0)) (route_at nodes (winner_at ids p)) (route_at nodes (winner_at ids j)) (first_is n p (omega (arith, le, d)) (omega (arith, l, d))) ((won p (omega (arith, l, d))).over j (omega (arith, d)) (omega (arith, d)) l)
    ]

    -- no node carries a lesser route than its winner
    pub least_is : (j : ℕ) → j < length ids → IsNoGreater (route_at nodes (winner_at ids 0)) (route_at nodes (record { 0 = j }))
    least_is j l = no_greater_then (route_at nodes (winner_at ids 0)) (route_at nodes (winner_at ids j)) (route_at nodes (record { 0 = j })) (first_is j j (omega arith) l) (won j l).own

    -- a node carries the least route where some node carries one
    module _ (all : length nodes ≤ length ids) where
      least_of : (o : Option RouteRecord) → ((id : NodeId) → id.0 < length nodes → IsNoGreater o (route_at nodes id)) → (x : RouteRecord) → o ≡ Some x → IsBestOf nodes x
      least_of o below x e id y f = subst (λ o. IsNoGreater o (Some y)) e (subst (IsNoGreater o) f (below id (let w = standing_at nodes id y f in slice_get_within nodes id.0 w.0 w.1)))

      below_first : (id : NodeId) → id.0 < length nodes → IsNoGreater (route_at nodes (winner_at ids 0)) (route_at nodes id)
      below_first id l = least_is id.0 (omega (arith, l, all))

      pub first_carries : (x : RouteRecord) → route_at nodes (winner_at ids 0) ≡ Some x → IsFirst nodes (winner_at ids 0) x
      first_carries x e = record { carries = e; least = least_of (route_at nodes (winner_at ids 0)) below_first x e }

      pub none_carries : route_at nodes (winner_at ids 0) ≡ None → CarriesNone nodes
      none_carries e id = elim (route_at nodes id) as (λ o. route_at nodes id ≡ o → o ≡ None) [
        | None ↦ λ _. refl
        | Some y ↦ λ f. absurd (true≢false (subst (λ o. IsNoGreater o (Some y)) e (subst (IsNoGreater (route_at nodes (winner_at ids 0))) f (below_first id (let w = standing_at nodes id y f in slice_get_within nodes id.0 w.0 w.1)))))
      ] refl

    -- a winner's slot is over its own
    named : (n c : ℕ) → length ids - c ≤ n → c < length ids → (i : ℕ) × (winner_at ids c ≡ record { 0 = i }) × (i < length ids) × IsAbove c i (i + 1)
    named zero c few l = absurd (omega (arith, few, l))
    named (suc n) c few l = elim (won c l).from [
      | inl e ↦ (c, e, l, (0, omega arith, omega arith))
      | inr f ↦ (let x = f.1 in let r = named n f.0 (omega (arith, few, x)) f.3 in (r.0, f.4 ∙ r.1, r.2, above_over f.0 c r.0 (r.0 + 1) r.3 f.1 f.2))
    ]

-- another route of one node
pub others_changed : {A : Type 0} (nodes old : List (Node A)) (ids : List NodeId) (i : ℕ) → AreWinners old ids → ((id : NodeId) → id.0 < length ids → (id.0 ≡ i → ⊥) → route_at nodes id ≡ route_at old id) → AreOthersWinners nodes ids i (i + 1)
others_changed nodes old ids i won same k l out =
    let is = won k l in
    let w = there k l out in
    record {
      own = subst (λ o. IsNoGreater o (route_at nodes (record { 0 = k }))) (sym w) (subst (IsNoGreater (route_at old (winner_at ids k))) (sym (same (record { 0 = k }) l (λ e. out (0, omega (arith, e), omega (arith, e))))) is.own);
      over = λ c x y z. subst (λ o. IsNoGreater o (route_at nodes (winner_at ids c))) (sym w) (subst (IsNoGreater (route_at old (winner_at ids k))) (sym (there c z (λ a. out (above_over c k i (i + 1) a x y)))) (is.over c x y z));
      from = is.from;
    }
  where
    there : (c : ℕ) → c < length ids → (IsAbove c i (i + 1) → ⊥) → route_at nodes (winner_at ids c) ≡ route_at old (winner_at ids c)
    there c z off =
        let r = named old ids won (length ids) c (omega arith) z in
        ap (route_at nodes) r.1 ∙ same (record { 0 = r.0 }) r.2 (λ e. off (subst (λ j. IsAbove c j (j + 1)) e r.3)) ∙ sym (ap (route_at old) r.1)

-- ---- a node that wins slots over its own

module _ {A : Type 0} (nodes : List (Node A)) where
  -- one node more
  pub sifted_first : (ids ids' : List NodeId) (n : ℕ) → n ≡ length ids → ids' ≡ ids ++ record { 0 = n } ∷ [] → AreWinners nodes ids → IsSiftedUp nodes ids' n (record { 0 = n })
  sifted_first ids ids' n long is won = record {
    within = omega (arith, more);
    here = last;
    others = λ k l out. elim (cases_eq k n) [
      | inl e ↦ subst (λ k. IsWon nodes ids' k) (sym e) (subst (IsWinner nodes ids' n) (sym last) (won_alone nodes ids' n (omega (arith, more))))
      | inr d ↦ (let h : k < length ids = omega (arith, l, more, long, d) in subst (IsWinner nodes ids' k) (sym (same k h))
          (stays nodes ids ids' k (winner_at ids k) (omega (arith, more, long)) (λ c x y z. (let w : c < length ids = elim (cases_eq c n) [ inl f ↦ absurd (out (omega (arith, x, f)) (omega (arith, y, f))) | inr g ↦ omega (arith, z, more, long, g) ] in (w, same c w))) (won k h)))
    ];
    above = λ k x y.
        let h : k < length ids = omega (arith, x, long) in
        let was = won k h in
        let e = same k h in
        record {
          own = subst (λ z. IsNoGreater (route_at nodes z) (route_at nodes (record { 0 = k }))) (sym e) was.own;
          over = λ c a b l d. (let w : c < length ids = omega (arith, l, more, long, d) in subst (λ (z : NodeId × NodeId). IsNoGreater (route_at nodes z.0) (route_at nodes z.1)) (λ i. (sym e i, sym (same c w) i)) (was.over c a b w));
          from = inr (elim was.from [ inl f ↦ inl (e ∙ f) | inr f ↦ (let w = f.3 in inr (f.0, f.1, f.2, omega (arith, w, more, long), omega (arith, w, long), e ∙ f.4 ∙ sym (same f.0 w))) ]);
        };
  }
    where
      more : length ids' ≡ n + 1
      more = omega (arith, ap (length {A = NodeId}) is, length-append ids (record { 0 = n } ∷ []), long)

      last : winner_at ids' n ≡ record { 0 = n }
      last = ap (λ z. winner_at z n) is ∙ get_or_at ids (record { 0 = n }) [] (record { 0 = 0 }) n (sym long)

      same : (c : ℕ) → c < length ids → winner_at ids' c ≡ winner_at ids c
      same c w = ap (λ z. winner_at z c) is ∙ get_or_append_left ids (record { 0 = n } ∷ []) (record { 0 = 0 }) c w

  module _ (ids : List NodeId) (at : ℕ) (id : NodeId) (is : IsSiftedUp nodes ids at id) where
    -- at the first slot
    pub sifted_ends : at ≤ 0 → AreWinners nodes ids
    sifted_ends none k l = is.others k l (λ x y. omega (arith, none, x))

    -- the slot over it has a winner that isn't greater
    pub sifted_stops : (p : ℕ) → p * 2 + 1 ≤ at → at ≤ p * 2 + 2 → is_lesser (route_at nodes id) (route_at nodes (winner_at ids p)) ≡ false → AreWinners nodes ids
    sifted_stops p x y e k l = elim (cases_eq k p) [
      | inr d ↦ is.others k l (λ a b. d (omega (arith, a, b, x, y)))
      | inl f ↦ subst (λ k. IsWon nodes ids k) (sym f) (record {
        own = b.own;
        over = λ c s t u. elim (cases_eq c at) [
          | inl g ↦ subst (λ c. IsNoGreater (route_at nodes (winner_at ids p)) (route_at nodes (winner_at ids c))) (sym g) (subst (λ z. IsNoGreater (route_at nodes (winner_at ids p)) (route_at nodes z)) (sym is.here) e)
          | inr d ↦ b.over c s t u d
        ];
        from = elim b.from [
          | inl h ↦ absurd (true≢false (sym h ∙ e))
          | inr h ↦ elim h [ inl g ↦ inl g | inr g ↦ inr (g.0, g.1, g.2, g.3, g.5) ]
        ];
      })
    ]
      where
        b : IsBeside nodes ids p at id
        b = is.above p x y

    -- the slot over it is won
    pub sifted_on : (p : ℕ) → p * 2 + 1 ≤ at → at ≤ p * 2 + 2 → is_lesser (route_at nodes id) (route_at nodes (winner_at ids p)) ≡ true → IsSiftedUp nodes (set ids p id) p id
    sifted_on p x y e = record {
      within = omega (arith, long, is.within, x);
      here = here;
      others = λ k l out. elim (cases_eq k p) [
        | inl f ↦ subst (λ k. IsWon nodes (set ids p id) k) (sym f) (subst (IsWinner nodes (set ids p id) p) (sym here) (record {
          own = no_greater_then (route_at nodes id) (route_at nodes (winner_at ids p)) (route_at nodes (record { 0 = p })) less b.own;
          over = λ c s t u. subst (λ z. IsNoGreater (route_at nodes id) (route_at nodes z)) (sym (other c (omega (arith, s)))) (elim (cases_eq c at) [
            | inl g ↦ subst (λ c. IsNoGreater (route_at nodes id) (route_at nodes (winner_at ids c))) (sym g) (subst (λ z. IsNoGreater (route_at nodes id) (route_at nodes z)) (sym is.here) (no_greater_itself (route_at nodes id)))
            | inr d ↦ no_greater_then (route_at nodes id) (route_at nodes (winner_at ids p)) (route_at nodes (winner_at ids c)) less (b.over c s t (omega (arith, u, long)) d)
          ]);
          from = inr (at, x, y, omega (arith, long, is.within), sym (other at (omega (arith, x)) ∙ is.here));
        }))
        | inr d ↦ subst (IsWinner nodes (set ids p id) k) (sym (other k d)) (stays nodes ids (set ids p id) k (winner_at ids k) (omega (arith, long)) (λ c s t u. (omega (arith, u, long), other c (λ g. out (omega (arith, s, g)) (omega (arith, t, g))))) (is.others k (omega (arith, l, long)) (λ s t. d (omega (arith, s, t, x, y)))))
      ];
      above = λ k s t.
          let d : k ≢ p = omega (arith, s) in
          let was = is.others k (omega (arith, s, x, is.within)) (λ m n. d (omega (arith, m, n, x, y))) in
          record {
            own = subst (λ z. IsNoGreater (route_at nodes z) (route_at nodes (record { 0 = k }))) (sym (other k d)) was.own;
            over = λ c m n u f. subst (λ (z : NodeId × NodeId). IsNoGreater (route_at nodes z.0) (route_at nodes z.1)) (λ i. (sym (other k d) i, sym (other c f) i)) (was.over c m n (omega (arith, u, long)));
            from = elim was.from [
              | inl f ↦ inr (inl (other k d ∙ f))
              | inr f ↦ elim (cases_eq f.0 p) [
                | inl g ↦ inl (ap (λ z. is_lesser (route_at nodes id) (route_at nodes z)) (other k d ∙ f.4 ∙ ap (winner_at ids) g) ∙ e)
                | inr g ↦ (let w = f.3 in inr (inr (f.0, f.1, f.2, omega (arith, w, long), g, other k d ∙ f.4 ∙ sym (other f.0 g))))
              ]
            ];
          };
    }
      where
        b : IsBeside nodes ids p at id
        b = is.above p x y

        less : IsNoGreater (route_at nodes id) (route_at nodes (winner_at ids p))
        less = first_then (route_at nodes id) (route_at nodes (winner_at ids p)) e

        long : length (set ids p id) ≡ length ids
        long = length-set ids p id

        here : winner_at (set ids p id) p ≡ id
        here = get_or-set_same ids p id (record { 0 = 0 }) (omega (arith, x, is.within))

        other : (c : ℕ) → c ≢ p → winner_at (set ids p id) c ≡ winner_at ids c
        other c d = get_or-set_other ids p c id (record { 0 = 0 }) d

-- ---- without slots

-- some node carries a route that is no greater than any other's
no_greater_there : {A : Type 0} (n : Node A) (nodes : List (Node A)) → (id : NodeId) × ((i : ℕ) → IsNoGreater (route_at (n ∷ nodes) id) (route_at (n ∷ nodes) (record { 0 = i })))
no_greater_there {A} n [] = (record { 0 = 0 }, first) where
  first : (i : ℕ) → IsNoGreater n.route (route_at (n ∷ []) (record { 0 = i }))
  first zero = no_greater_itself n.route
  first (suc i) = refl
no_greater_there {A} n (m ∷ nodes) =
    let w = no_greater_there m nodes in
    let o : Option RouteRecord = route_at (m ∷ nodes) w.0 in
    elim (is_lesser n.route o) as (λ b. is_lesser n.route o ≡ b → (id : NodeId) × ((i : ℕ) → IsNoGreater (route_at (n ∷ m ∷ nodes) id) (route_at (n ∷ m ∷ nodes) (record { 0 = i })))) [
      | true ↦ λ e. (
        record { 0 = 0 },
        λ i. elim i as (λ i. IsNoGreater n.route (route_at (n ∷ m ∷ nodes) (record { 0 = i }))) [
          | zero ↦ no_greater_itself n.route
          | suc i ↦ no_greater_then n.route o (route_at (m ∷ nodes) (record { 0 = i })) (first_then n.route o e) (w.1 i)
        ],
      )
      | false ↦ λ e. (
        record { 0 = suc w.0.0 },
        λ i. elim i as (λ i. IsNoGreater o (route_at (n ∷ m ∷ nodes) (record { 0 = i }))) [
          | zero ↦ e
          | suc i ↦ w.1 i
        ],
      )
    ] refl

no_greater_none : (o p : Option RouteRecord) → o ≡ None → IsNoGreater o p → p ≡ None
no_greater_none o None e h = refl
no_greater_none None (Some y) e h = absurd (true≢false h)
no_greater_none (Some x) (Some y) e h = absurd cc

-- no node carries a route, or one carries the least
pub carries_cases : {A : Type 0} (nodes : List (Node A)) → CarriesNone nodes ⊎ ((x : RouteRecord) × (id : NodeId) × IsFirst nodes id x)
carries_cases [] = inl (λ id. refl)
carries_cases (n ∷ nodes) =
    let w = no_greater_there n nodes in
    elim (route_at (n ∷ nodes) w.0) as (λ o. route_at (n ∷ nodes) w.0 ≡ o → CarriesNone (n ∷ nodes) ⊎ ((x : RouteRecord) × (id : NodeId) × IsFirst (n ∷ nodes) id x)) [
      | None ↦ λ e. inl (λ id. no_greater_none (route_at (n ∷ nodes) w.0) (route_at (n ∷ nodes) id) e (w.1 id.0))
      | Some x ↦ λ e. inr (
        x,
        w.0,
        record {
          carries = e;
          least = λ id y f. subst (λ (z : Option RouteRecord × Option RouteRecord). IsNoGreater z.0 z.1) (λ i. (e i, f i)) (w.1 id.0);
        },
      )
    ] refl
