-- Pairs that come in order are closed if and only if each answers the least prefix that is expected, and none is
-- expected at the end.
use Rattle.sabr_frontier.proofs.Names.{◌≡◌, ℕ, Bool, true, false, cond, not, List, [], ◌∷◌, ◌++◌, map, sym, ap, subst, refl, ◌∙◌, true≢false, ◌⊎◌, inl, inr, append_assoc, append-nil, cases_Bool, nat_list_cmp_total, nat_cmp_total, tied_itself, nat_cmp, ordering_then, Less, by_numbers, has, Rises, Member, InPairs, IsClosed, InOrder, onward, IsGood, Expects}
use Rattle.sabr_frontier.proofs.ListingLemmas.ListMembers.{Member-map, Member-map_cases, Member-filter, Member-filter_cases, Member-append_left, Member-append_right, Member-append_cases, Below-member, Less-apart, pairs_two}
use Rattle.sabr_frontier.proofs.ListingLemmas.ClosedTrees.{Number_has, has_Number, Pairs}
use Rattle.sabr_frontier.proofs.ListingLemmas.Division.{begins_less}

module _ (route chain : List ℕ → Bool) where
  -- one pair more
  pub Expects-push : (T : Pairs) (os mid end : List (List ℕ)) (e : List ℕ × List ℕ) → Expects route chain os T mid → Expects route chain mid (e ∷ []) end → Expects route chain os (T ++ e ∷ []) end
  Expects-push [] os mid end e a b = subst (λ z. Expects route chain z (e ∷ []) end) (sym a) b
  Expects-push (f ∷ T) os mid end e a b = (a.0, a.1, a.2, Expects-push T (onward route chain f ++ a.0) mid end e a.3 b)

  pub Expects-front : (T : Pairs) (os end : List (List ℕ)) (e : List ℕ × List ℕ) → Expects route chain os (T ++ e ∷ []) end → (mid : List (List ℕ)) × Expects route chain os T mid × Expects route chain mid (e ∷ []) end
  Expects-front [] os end e a = (os, refl, a)
  Expects-front (f ∷ T) os end e a = let w = Expects-front T (onward route chain f ++ a.0) end e a.3 in (w.0, (a.0, a.1, a.2, w.1), w.2)

  -- at most one list is expected
  pub Expects-one : (T : Pairs) (os a b : List (List ℕ)) → Expects route chain os T a → Expects route chain os T b → a ≡ b
  Expects-one [] os a b p q = sym p ∙ q
  Expects-one (e ∷ T) os a b p q =
      let same : p.0 ≡ q.0 = let h : e.0 ∷ p.0 ≡ e.0 ∷ q.0 = sym p.1 ∙ q.1 in cc in
      Expects-one T (onward route chain e ++ p.0) a b p.3 (subst (λ z. Expects route chain (onward route chain e ++ z) T b) (sym same) q.3)

  onward_cases : (o : List ℕ) (e : List ℕ × List ℕ) → Member o (onward route chain e) → (x : ℕ) × (o ≡ e.0 ++ x ∷ []) × (has nat_cmp x e.1 ≡ true) × (route o ≡ false)
  onward_cases o e m =
      let f = Member-filter_cases (λ q. not (route q)) o (map (λ x. e.0 ++ x ∷ []) e.1) m in
      let v = Member-map_cases (λ x. e.0 ++ x ∷ []) o e.1 f.1 in
      (v.0, v.1, Number_has v.0 e.1 v.2, elim (route o) as (λ b. not b ≡ true → b ≡ false) [ true ↦ λ h. absurd (true≢false (sym h)) | false ↦ λ _. refl ] f.0)

  onward_has : (o : List ℕ) (x : ℕ) (e : List ℕ × List ℕ) → o ≡ e.0 ++ x ∷ [] → has nat_cmp x e.1 ≡ true → route o ≡ false → Member o (onward route chain e)
  onward_has o x e is h out = Member-filter (λ q. not (route q)) o (map (λ x. e.0 ++ x ∷ []) e.1) (ap not out) (subst (λ z. Member z (map (λ x. e.0 ++ x ∷ []) e.1)) (sym is) (Member-map (λ x. e.0 ++ x ∷ []) x e.1 (has_Number x e.1 h)))

-- one list comes before another, and so does all that begins with it
abbrev Precedes : List ℕ → List ℕ → Type 0
Precedes a b = (z : List ℕ) → by_numbers (a ++ z) b ≡ Less

lesser_precedes : (p : List ℕ) (x y : ℕ) → nat_cmp x y ≡ Less → Precedes (p ++ x ∷ []) (p ++ y ∷ [])
lesser_precedes [] x y h z = ap (λ r. ordering_then r (by_numbers z [])) h
lesser_precedes (w ∷ p) x y h z = ap (λ r. ordering_then r (by_numbers ((p ++ x ∷ []) ++ z) (p ++ y ∷ []))) (tied_itself nat_cmp_total w) ∙ lesser_precedes p x y h z

module _ (route chain fits : List ℕ → Bool) (fits_nil : fits [] ≡ true)
    (fits_on : (p : List ℕ) (x : ℕ) → fits p ≡ true → chain (p ++ x ∷ []) ≡ true → route (p ++ x ∷ []) ≡ false → fits (p ++ x ∷ []) ≡ true)
    (fits_no_route : (p : List ℕ) → fits p ≡ true → route p ≡ false) where
  -- the number goes on from the pair's prefix to a route or to a listed prefix
  abbrev GoesOn : Pairs → List ℕ × List ℕ → ℕ → Type 0
  GoesOn E e x = (chain (e.0 ++ x ∷ []) ≡ true) × ((route (e.0 ++ x ∷ []) ≡ true) ⊎ ((Y : List ℕ) × Member (e.0 ++ x ∷ [], Y) E))

  -- the prefix is a listed one with an excluded number of it
  abbrev IsAsked : Pairs → List ℕ → Type 0
  IsAsked E p = (d : List ℕ × List ℕ) × (x : ℕ) × (p ≡ d.0 ++ x ∷ []) × Member d E × (has nat_cmp x d.1 ≡ true)

  -- closed, but for the expected prefixes, which are asked for elsewhere
  record IsAnswer (os : List (List ℕ)) (E : Pairs) : Type 0 where
    listed : (o : List ℕ) → Member o os → (X : List ℕ) × Member (o, X) E
    fit : (e : List ℕ × List ℕ) → Member e E → fits e.0 ≡ true
    below : (e : List ℕ × List ℕ) (x : ℕ) → Member e E → has nat_cmp x e.1 ≡ true → GoesOn E e x
    above : (e : List ℕ × List ℕ) → Member e E → Member e.0 os ⊎ IsAsked E e.0
    busy : (e : List ℕ × List ℕ) → Member e E → (e.0 ≡ []) ⊎ ((x : ℕ) × (has nat_cmp x e.1 ≡ true))

  -- what answers the expected prefixes in order
  answers : (E : Pairs) (os : List (List ℕ)) → Expects route chain os E [] → ((o : List ℕ) → Member o os → fits o ≡ true) → IsAnswer os E
  answers [] os w f = record { listed = λ o m. absurd (subst (Member o) w m); fit = λ e m. absurd m; below = λ e x m. absurd m; above = λ e m. absurd m; busy = λ e m. absurd m }
  answers (e ∷ E) os w f =
      let on : List (List ℕ) = onward route chain e in
      let fit_e : fits e.0 ≡ true = f e.0 (subst (Member e.0) (sym w.1) (inl refl)) in
      let rest_in : (o : List ℕ) → Member o w.0 → Member o os = λ o m. subst (Member o) (sym w.1) (inr m) in
      let h : IsAnswer (on ++ w.0) E = answers E (on ++ w.0) w.3 (λ o m. elim (Member-append_cases o on w.0 m) [
        | inl n ↦ let v = onward_cases route chain o e n in ap fits v.1 ∙ fits_on e.0 v.0 fit_e (w.2.chains v.0 v.2) (ap route (sym v.1) ∙ v.3)
        | inr n ↦ f o (rest_in o n)
      ]) in
      record {
        listed = λ o m. elim (subst (Member o) w.1 m) [
          | inl k ↦ (e.1, inl (λ i. (k i, e.1)))
          | inr n ↦ let v = h.listed o (Member-append_right o on w.0 n) in (v.0, inr v.1)
        ];
        fit = λ d m. elim m [ inl k ↦ ap (λ (z : List ℕ × List ℕ). fits z.0) k ∙ fit_e | inr n ↦ h.fit d n ];
        below = λ d x m t. elim m [
          | inl k ↦
              let in_e : has nat_cmp x e.1 ≡ true = ap (λ (z : List ℕ × List ℕ). has nat_cmp x z.1) (sym k) ∙ t in
              let on_e : GoesOn (e ∷ E) e x = (
                w.2.chains x in_e,
                elim (cases_Bool (route (e.0 ++ x ∷ []))) [
                  | inl r ↦ inl r
                  | inr r ↦ let v = h.listed (e.0 ++ x ∷ []) (Member-append_left _ on w.0 (onward_has route chain (e.0 ++ x ∷ []) x e refl in_e r)) in inr (v.0, inr v.1)
                ],
              ) in
              subst (λ (z : List ℕ × List ℕ). GoesOn (e ∷ E) z x) (sym k) on_e
          | inr n ↦ let v = h.below d x n t in (v.0, elim v.1 [ inl r ↦ inl r | inr u ↦ inr (u.0, inr u.1) ])
        ];
        above = λ d m. elim m [
          | inl k ↦ inl (subst (Member d.0) (sym w.1) (inl (ap (λ (z : List ℕ × List ℕ). z.0) k)))
          | inr n ↦ elim (h.above d n) [
            | inl a ↦ elim (Member-append_cases d.0 on w.0 a) [
              | inl b ↦ let v = onward_cases route chain d.0 e b in inr (e, v.0, v.1, inl refl, v.2)
              | inr b ↦ inl (rest_in d.0 b)
            ]
            | inr v ↦ inr (v.0, v.1, v.2, inr v.3, v.4)
          ]
        ];
        busy = λ d m. elim m [ inl k ↦ subst (λ (z : List ℕ × List ℕ). (z.0 ≡ []) ⊎ ((x : ℕ) × (has nat_cmp x z.1 ≡ true))) (sym k) w.2.busy | inr n ↦ h.busy d n ];
      }

  -- accepted lists are closed
  pub expects_closed : (T : Pairs) → Expects route chain ([] ∷ []) T [] → IsClosed route chain fits T
  expects_closed T w =
      let h = answers T ([] ∷ []) w (λ o m. elim m [ inl e ↦ ap fits e ∙ fits_nil | inr z ↦ absurd z ]) in
      record {
        root = h.listed [] (inl refl);
        fit = λ p X. h.fit (p, X);
        below = λ p X. h.below (p, X);
        above = λ p X m. elim (h.above (p, X) m) [ inl k ↦ inl (elim k [ inl e ↦ e | inr z ↦ absurd z ]) | inr v ↦ inr (v.0.0, v.0.1, v.1, v.2, v.3, v.4) ];
        busy = λ p X. h.busy (p, X);
      }

  -- ---- and closed lists are accepted
  onward_apart : (p X : List ℕ) → Rises nat_cmp X → InPairs Precedes (onward route chain (p, X))
  onward_apart p [] r = tt
  onward_apart p (x ∷ X) r =
      let on : List (List ℕ) = onward route chain (p, X) in
      elim (not (route (p ++ x ∷ []))) as (λ c. InPairs Precedes (cond c ((p ++ x ∷ []) ∷ on) on)) [
        | true ↦ (
          (λ b m. let v = onward_cases route chain b (p, X) m in subst (Precedes (p ++ x ∷ [])) (sym v.1) (lesser_precedes p x v.0 (Below-member nat_cmp_total x v.0 X r.0 (has_Number v.0 X v.2)))),
          onward_apart p X r.1,
        )
        | false ↦ onward_apart p X r.1
      ]

  accepts : (E : Pairs) (os : List (List ℕ)) → InOrder E → InPairs Precedes os → IsAnswer os E → Expects route chain os E []
  accepts [] [] order s h = refl
  accepts [] (o ∷ os) order s h = absurd (h.listed o (inl refl)).1
  accepts (e ∷ E) os order s h =
      let on : List (List ℕ) = onward route chain e in
      let above_e : (d : List ℕ × List ℕ) → Member d E → by_numbers e.0 d.0 ≡ Less = λ d m. Below-member nat_list_cmp_total e.0 d.0 (map (λ z. z.0) E) order.by_prefix.0 (Member-map (λ z. z.0) d E m) in
      let not_below : (d : List ℕ × List ℕ) → Member d (e ∷ E) → by_numbers d.0 e.0 ≡ Less → ⊥ = λ d m l. elim m [
        | inl k ↦ Less-apart nat_list_cmp_total e.0 (ap (λ (z : List ℕ × List ℕ). by_numbers z.0 e.0) (sym k) ∙ l)
        | inr n ↦ Less-apart nat_list_cmp_total e.0 (nat_list_cmp_total.trans e.0 d.0 e.0 (above_e d n) l)
      ] in
      let later : (q : List ℕ) → by_numbers e.0 q ≡ Less → (X : List ℕ) × Member (q, X) (e ∷ E) → (X : List ℕ) × Member (q, X) E = λ q l w. (
        w.0,
        elim w.1 [ inl k ↦ absurd (Less-apart nat_list_cmp_total e.0 (ap (λ (z : List ℕ × List ℕ). by_numbers e.0 z.0) (sym k) ∙ l)) | inr m ↦ m ],
      ) in
      let expected : Member e.0 os = elim (h.above e (inl refl)) [
        | inl m ↦ m
        | inr w ↦ absurd (not_below w.0 w.3 (subst (λ z. by_numbers w.0.0 z ≡ Less) (sym w.2) (begins_less w.0.0 w.1 [])))
      ] in
      let first : (rest : List (List ℕ)) × (os ≡ e.0 ∷ rest) = elim os as (λ os. Member e.0 os → InPairs Precedes os → IsAnswer os (e ∷ E) → (rest : List (List ℕ)) × (os ≡ e.0 ∷ rest)) [
        | [] ↦ λ m _ _. absurd m
        | o ∷ os ↦ λ m s h. elim m [
          | inl k ↦ (os, ap (λ z. z ∷ os) (sym k))
          | inr n ↦ absurd (not_below (o, (h.listed o (inl refl)).0) (h.listed o (inl refl)).1 (subst (λ z. by_numbers z e.0 ≡ Less) (append-nil o) (s.0 e.0 n [])))
        ]
      ] expected s h in
      let rest : List (List ℕ) = first.0 in
      let s' : InPairs Precedes (e.0 ∷ rest) = subst (InPairs Precedes) first.1 s in
      let good : IsGood route chain e = record { busy = h.busy e (inl refl); chains = λ x t. (h.below e x (inl refl) t).0 } in
      let left : IsAnswer (on ++ rest) E = record {
        listed = λ q m. elim (Member-append_cases q on rest m) [
          | inl n ↦ let v = onward_cases route chain q e n in elim (h.below e v.0 (inl refl) v.2).1 [
            | inl r ↦ absurd (true≢false (sym r ∙ ap route (sym v.1) ∙ v.3))
            | inr u ↦ subst (λ z. (X : List ℕ) × Member (z, X) E) (sym v.1) (later (e.0 ++ v.0 ∷ []) (begins_less e.0 v.0 []) u)
          ]
          | inr n ↦ later q (subst (λ z. by_numbers z q ≡ Less) (append-nil e.0) (s'.0 q n [])) (h.listed q (subst (Member q) (sym first.1) (inr n)))
        ];
        fit = λ d m. h.fit d (inr m);
        below = λ d x m t. let w = h.below d x (inr m) t in (
          w.0,
          elim w.1 [ inl r ↦ inl r | inr u ↦ inr (later (d.0 ++ x ∷ []) (nat_list_cmp_total.trans e.0 d.0 (d.0 ++ x ∷ []) (above_e d m) (begins_less d.0 x [])) u) ],
        );
        above = λ d m. elim (h.above d (inr m)) [
          | inl n ↦ elim (subst (Member d.0) first.1 n) [
            | inl k ↦ absurd (Less-apart nat_list_cmp_total e.0 (subst (λ z. by_numbers e.0 z ≡ Less) k (above_e d m)))
            | inr u ↦ inl (Member-append_right d.0 on rest u)
          ]
          | inr w ↦ elim w.3 [
            | inl k ↦ inl (Member-append_left d.0 on rest (onward_has route chain d.0 w.1 e (w.2 ∙ ap (λ (z : List ℕ × List ℕ). z.0 ++ w.1 ∷ []) k) (ap (λ (z : List ℕ × List ℕ). has nat_cmp w.1 z.1) (sym k) ∙ w.4) (fits_no_route d.0 (h.fit d (inr m)))))
            | inr u ↦ inr (w.0, w.1, w.2, u, w.4)
          ]
        ];
        busy = λ d m. h.busy d (inr m);
      } in
      let apart : InPairs Precedes (on ++ rest) = pairs_two Precedes on rest (onward_apart e.0 e.1 (order.numbers e.0 e.1 (inl refl))) s'.1 (λ a b m n z.
      let v = onward_cases route chain a e m in
      subst (λ w. by_numbers w b ≡ Less) (sym (ap (λ w. w ++ z) v.1 ∙ append_assoc e.0 (v.0 ∷ []) z)) (s'.0 b n (v.0 ∷ z))) in
      (rest, first.1, good, accepts E (on ++ rest) (record { by_prefix = order.by_prefix.1; numbers = λ p X m. order.numbers p X (inr m) }) apart left)

  pub closed_expects : (T : Pairs) → InOrder T → IsClosed route chain fits T → Expects route chain ([] ∷ []) T []
  closed_expects T order closed = accepts T ([] ∷ []) order ((λ b m. absurd m), tt) (record {
    listed = λ o m. elim m [ inl e ↦ subst (λ z. (X : List ℕ) × Member (z, X) T) (sym e) closed.root | inr z ↦ absurd z ];
    fit = λ e. closed.fit e.0 e.1;
    below = λ e. closed.below e.0 e.1;
    above = λ e m. elim (closed.above e.0 e.1 m) [ inl k ↦ inl (inl k) | inr w ↦ inr ((w.0, w.1), w.2, w.3, w.4, w.5) ];
    busy = λ e. closed.busy e.0 e.1;
  })
