-- A tree of the contacts that stand, by their openings: what it finds, and what one more leaves of it.
use Rattle.sabr_plan.proofs.Names.{◌≡◌, ℕ, zero, suc, ◌+◌, ◌<◌, true, false, ◌&&◌, List, [], ◌∷◌, ◌++◌, length, get_or, set, refl, subst, ◌∙◌, inl, inr, arith, length-append, list_any, Some, None, BTreeMap, get, is_at, Updates, cases_eq, cases_lt, both_ways, nat_tests, get_or_append_left, get_or_default, get_or-set_same, get_or-set_other, length-set, list_any_at, or_from_places, Contact, Opening, same_opening, none_twice, by_key}
use Rattle.sabr_plan.specs.Gathering.{stands, standing, stands_at, IsTreed}
use Rattle.sabr_plan.proofs.GatheredOpenings.{any_standing, no_contact}

-- the tree of no contact
pub treed_none : (indexes : BTreeMap (ℕ × ℕ × ℕ) ℕ) (cs : List Contact) → IsTreed indexes 0 cs
treed_none indexes cs = record { within = omega arith; found = λ k d lt stays. absurd (omega (arith, lt)) }

-- ---- what it finds

module _ (o : Opening) (indexes : BTreeMap (ℕ × ℕ × ℕ) ℕ) (treed : ℕ) (cs : List Contact) (h : IsTreed indexes treed cs) (all : treed ≡ length cs) where
  at_own : (k : ℕ) → k < length cs → stands_at o (get_or cs k no_contact) ≡ true → get by_key indexes (o.from, o.to, o.start) ≡ Some k
  at_own k lt also = grind (arith, nat_tests, h.found k no_contact (omega (arith, lt, all)))

  pub nothing_there : get by_key indexes (o.from, o.to, o.start) ≡ None → list_any (stands_at o) cs ≡ false
  nothing_there is =
      or_from_places (list_any (stands_at o)) (stands_at o) refl (λ x ys. refl) cs no_contact (λ k lt. grind (arith, nat_tests, at_own k lt))

  pub another_there : (i : ℕ) → get by_key indexes (o.from, o.to, o.start) ≡ Some i → (i < length cs → stands_at o (get_or cs i no_contact) ≡ false) → list_any (stands_at o) cs ≡ false
  another_there i is fails =
      or_from_places (list_any (stands_at o)) (stands_at o) refl (λ x ys. refl) cs no_contact (λ k lt. grind (arith, nat_tests, at_own k lt))

-- ---- one more

-- two that stand differ in their openings
distinct : (cs : List Contact) (k j : ℕ) (d : Contact) → k < j → j < length cs → stands (get_or cs k d) ≡ true → stands (get_or cs j d) ≡ true → none_twice same_opening (standing cs) ≡ true → same_opening (get_or cs k d) (get_or cs j d) ≡ false
distinct [] k j d less lt sk sj apart = absurd (omega (arith, lt))
distinct (c ∷ cs) k zero d less lt sk sj apart = absurd (omega (arith, less))
distinct (c ∷ cs) zero (suc j) d less lt sk sj apart = grind (arith, nat_tests, any_standing (same_opening c) cs, list_any_at (λ e. same_opening c e && stands e) cs j d (omega (arith, lt)))
distinct (c ∷ cs) (suc k) (suc j) d less lt sk sj apart = grind (arith, nat_tests, distinct cs k j d (omega (arith, less)) (omega (arith, lt)) sk sj)

abbrev key : Contact → ℕ × ℕ × ℕ
key c = (c.from, c.to, c.start)

-- keys differ where openings do
untied : (c d : Contact) → same_opening c d ≡ false → is_at (by_key (key d)) (key c) ≡ false
untied c d differ = grind (arith, nat_tests)

module _ (indexes : BTreeMap (ℕ × ℕ × ℕ) ℕ) (n : ℕ) (cs : List Contact) (h : IsTreed indexes n cs) (lt : n < length cs) where
  -- one that doesn't stand
  pub treed_skip : stands (get_or cs n no_contact) ≡ false → IsTreed indexes (n + 1) cs
  treed_skip gone = record {
    within = omega (arith, lt);
    found = λ k d less stays.
        elim (cases_lt k n) [
          | inl low ↦ h.found k d low stays
          | inr high ↦ let here : k ≡ n = omega (arith, less, high) in absurd (both_ways (stands (get_or cs n no_contact)) gone (rw (here, get_or_default cs n d no_contact lt) at stays))
        ];
  }

  -- one that stands
  pub treed_more : (then : BTreeMap (ℕ × ℕ × ℕ) ℕ) → none_twice same_opening (standing cs) ≡ true → stands (get_or cs n no_contact) ≡ true → Updates by_key indexes then (key (get_or cs n no_contact)) (Some n) → IsTreed then (n + 1) cs
  treed_more then apart here u = record {
    within = omega (arith, lt);
    found = λ k d less stays.
        let same = get_or_default cs n d no_contact lt in
        elim (cases_lt k n) [
          | inl low ↦
              let differ = distinct cs k n d low lt stays (rw same here) apart in
              u.2 (key (get_or cs k d)) (untied (get_or cs k d) (get_or cs n no_contact) (rw same at differ)) ∙ h.found k d low stays
          | inr high ↦ let at : k ≡ n = omega (arith, less, high) in rw (at, same) u.1
        ];
  }

-- ---- contacts that change

pub treed_push : (indexes : BTreeMap (ℕ × ℕ × ℕ) ℕ) (n : ℕ) (cs : List Contact) (c : Contact) → IsTreed indexes n cs → IsTreed indexes n (cs ++ c ∷ [])
treed_push indexes n cs c h = record {
  within = let low = h.within in omega (arith, low, length-append cs (c ∷ []));
  found = λ k d less stays.
      let low = h.within in
      let same : get_or (cs ++ c ∷ []) k d ≡ get_or cs k d = get_or_append_left cs (c ∷ []) d k (omega (arith, less, low)) in
      rw same (h.found k d less (subst (λ x. stands x ≡ true) same stays));
}

-- one that doesn't stand any more
pub treed_set : (indexes : BTreeMap (ℕ × ℕ × ℕ) ℕ) (n : ℕ) (cs : List Contact) (k : ℕ) (c : Contact) → IsTreed indexes n cs → k < length cs → stands c ≡ false → IsTreed indexes n (set cs k c)
treed_set indexes n cs k c h lt gone = record {
  within = let low = h.within in omega (arith, low, length-set cs k c);
  found = λ j d less stays.
      elim (cases_eq j k) [
        | inl here ↦ absurd (both_ways (stands c) gone (rw (here, get_or-set_same cs k c d lt) at stays))
        | inr other ↦ rw (get_or-set_other cs k j c d other) (h.found j d less (rw (get_or-set_other cs k j c d other) at stays))
      ];
}
