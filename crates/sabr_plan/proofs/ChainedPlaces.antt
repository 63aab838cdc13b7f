-- Chains of places by buckets: what one more leaves of them, and what a walk along one shows.
use Rattle.sabr_plan.proofs.Names.{◌≡◌, ℕ, ◌-◌, ◌<◌, ◌≤◌, Bool, true, false, List, [], ◌∷◌, ◌++◌, length, get_or, map, refl, sym, ap, subst, ◌∙◌, arith, length-append, slice_get, Some, slice_get-map, slice_get-get_or, list_any, nat_tests, false_from_ne_true, get_or_append_left, get_or-map, map-append, or_from_places}
use Rattle.sabr_plan.specs.Gathering.{IsLastOf, AreChained}

-- the places before a bound alone matter
last_same : (ks ls : List ℕ) (b below last : ℕ) → ((j : ℕ) → j < below → get_or ls j 0 ≡ get_or ks j 0) → IsLastOf ks b below last → IsLastOf ls b below last
last_same ks ls b below last same h = record {
  within = h.within;
  is = λ j e. let low = h.within in same j (omega (arith, low, e)) ∙ h.is j e;
  none = λ j ge lt at. h.none j ge lt (sym (same j lt) ∙ at);
}

-- no place is in a chain
pub chained_none : (ks : List ℕ) → AreChained ks [] []
chained_none ks = record {
  within = omega arith;
  begins = λ b. record { within = omega arith; is = λ j e. absurd (omega (arith, e)); none = λ j ge lt. absurd (omega (arith, lt)) };
  followed = λ k lt. absurd (omega (arith, lt));
}

-- one more place, in no chain
pub chained_more : (ks befores lasts : List ℕ) (more : List ℕ) → AreChained ks befores lasts → AreChained (ks ++ more) befores lasts
chained_more ks befores lasts more h =
    let same = λ (j : ℕ) (lt : j < length befores). let low = h.within in get_or_append_left ks more 0 j (omega (arith, lt, low)) in
    record {
      within = let low = h.within in omega (arith, low, length-append ks more);
      begins = λ b. last_same ks (ks ++ more) b (length befores) _ same (h.begins b);
      followed = λ k lt.
          subst (λ b. IsLastOf (ks ++ more) b k (get_or befores k 0)) (sym (same k lt))
          (last_same ks (ks ++ more) _ k _ (λ j less. same j (omega (arith, less, lt))) (h.followed k lt));
    }

-- one more element, in no chain
pub chained_push : {X : Type 0} (f : X → ℕ) (xs : List X) (x : X) (befores lasts : List ℕ) → AreChained (map f xs) befores lasts → AreChained (map f (xs ++ x ∷ [])) befores lasts
chained_push f xs x befores lasts h = subst (λ ks. AreChained ks befores lasts) (sym (map-append f xs (x ∷ []))) (chained_more (map f xs) befores lasts (f x ∷ []) h)

-- the bucket of an element at a place
pub bucket_at : {X : Type 0} (f : X → ℕ) (xs : List X) (d : X) (k n b : ℕ) → k ≡ n → k < length xs → b ≡ f (get_or xs k d) → slice_get (map f xs) n ≡ Some b
bucket_at f xs d k n b e within is = rw (← e, slice_get-map f xs k, slice_get-get_or xs k d within) (ap Some (sym is))

-- the same, where another table tells the same
pub chained_told : (ks befores lasts lasts_then : List ℕ) → ((b : ℕ) → get_or lasts_then b 0 ≡ get_or lasts b 0) → AreChained ks befores lasts → AreChained ks befores lasts_then
chained_told ks befores lasts lasts_then same h = record {
  within = h.within;
  begins = λ b. subst (IsLastOf ks b (length befores)) (sym (same b)) (h.begins b);
  followed = h.followed;
}

-- a walk along the chain of a bucket has come so far, and nothing passes that it left behind
pub record IsWalked {X : Type 0} (f : X → ℕ) (p : X → Bool) (bucket : ℕ) (none : X) (xs : List X) (at : ℕ) : Type 0 where
  pub below : ℕ
  pub within : below ≤ length xs
  pub last : IsLastOf (map f xs) bucket below at
  pub fails : (j : ℕ) → below ≤ j → j < length xs → p (get_or xs j none) ≡ false
  pub others : (x : X) → p x ≡ true → f x ≡ bucket

module _ {X : Type 0} {f : X → ℕ} {p : X → Bool} {bucket : ℕ} {none : X} {xs : List X} {at : ℕ} (h : IsWalked f p bucket none xs at) where
  -- a place of another bucket doesn't pass
  skipped : (j : ℕ) → j < length xs → (get_or (map f xs) j 0 ≡ bucket → ⊥) → p (get_or xs j none) ≡ false
  skipped j lt other = false_from_ne_true (p (get_or xs j none)) (λ yes. other (get_or-map f xs j none 0 lt ∙ h.others (get_or xs j none) yes))

  pub walk_ends : at ≤ 0 → list_any p xs ≡ false
  walk_ends end =
      or_from_places (list_any p) p refl (λ x ys. refl) xs none (λ j lt. grind (arith, nat_tests, skipped j lt, h.last.none j, h.fails j))

  -- from a place that doesn't pass to the one before it
  pub walk_on : (befores lasts : List ℕ) → AreChained (map f xs) befores lasts → length befores ≡ length xs → 0 < at → p (get_or xs (at - 1) none) ≡ false
      → IsWalked f p bucket none xs (get_or befores (at - 1) 0) × (get_or befores (at - 1) 0 < at)
  walk_on befores lasts chained many some fails =
      let k = at - 1 in
      let low = h.last.within in
      let within = h.within in
      let before = chained.followed k (omega (arith, low, within, some, many)) in
      let less = before.within in (
        record {
          below = k;
          within = omega (arith, low, within);
          last = subst (λ b. IsLastOf (map f xs) b k (get_or befores k 0)) (h.last.is k (omega (arith, some))) before;
          fails = λ j ge lt. grind (arith, h.fails j, skipped j lt, h.last.none j);
          others = h.others;
        },
        omega (arith, less, some),
      )
