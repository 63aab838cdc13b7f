-- What a plan stores of its contacts.
use Rattle.std.proofs.Common.{◌≡◌, ℕ, ◌+◌, ◌<◌, ◌≤◌, true, eqb, List, [], ◌∷◌, ◌++◌, length, get_or, refl, sym, ap, subst, ◌∙◌, inl, inr, arith, length-append, ◌-◌, Bool, false, cond, ◌&&◌, ltb, map, remove}
use Rattle.std.specs.Prelude.{Vec, slice_get, is_some, MatchOption}
use Rattle.std.proofs.Math.ListN.{get_or-append}
use Rattle.std.proofs.Math.Seq.{get_or-append_seam}
use Rattle.std.proofs.lemmas.Bool.{eq-eqb, cases_lt, and_from, cases_order, eqb-true, lt-ltb, le-ltb, both_ways, false_from_ne_true}
use Rattle.std.proofs.lemmas.List.{get_or_default, get_or_append_left}
use Rattle.std.specs.declared.option.Option.{Option}
use Rattle.indexmap.specs.IndexMap.{IndexMap, keys}
use Rattle.sabr_model.specs.declared.contact.Contact.{Contact}
use Rattle.sabr_model.specs.declared.contact.Range.{Range}
use Rattle.sabr_model.specs.declared.plan.known.Known.{Known}
use Rattle.sabr_model.specs.plan.Plan.{has, opens, same_opening, none_twice, rises_above}
use Rattle.sabr_model.specs.plan.Table.{KeepsPlaces, IsTableOf}
use Rattle.sabr_model.specs.plan.Known.{IsKnown, AreKnown, AreEnds, light_of_word}
use Rattle.sabr_model.proofs.ListLemmas.Members.{in_from_Contains}
use Rattle.sabr_model.proofs.PlanLemmas.TableLemmas.{has_node}
use Rattle.sabr_model.proofs.PlanLemmas.Without.{ends_in}
use Rattle.std.specs.List.{find, list_any}
use Rattle.std.specs.declared.option.Option.TheVariants.{Some, None}
use Rattle.std.specs.BTreeMap.{BTreeMap, get, is_at, Updates}
use Rattle.std.specs.Ordering.{nat_cmp, ordering_then}
use Rattle.std.specs.Cmp.{both_tied, unsigned_ties}
use Rattle.std.proofs.lemmas.List.Edits.{length-remove, get_or-remove_below, get_or-remove_above}
use Rattle.std.proofs.lemmas.List.Folds.{list_any_at}
use Rattle.std.proofs.lemmas.Option.{slice_get-get_or}
use Rattle.sabr_model.specs.Order.{by_key}
use Rattle.sabr_model.specs.plan.Openings.{contact_key, IsNoted}
use Rattle.sabr_model.proofs.PlanLemmas.Numbered.{numbers_apart, found_here}
use Rattle.sabr_model.proofs.PlanLemmas.Deletions.{found_passes, opens_parts}
use Rattle.sabr_model.proofs.PlanLemmas.Tabled.{none_any}
use Rattle.sabr_model.proofs.PlanLemmas.RangeOrder.{apart_at, find_none, find_only}

-- of no contact anything is known
pub none_known : (table : List ℕ) (ranges : List Range) (lit : Bool) → AreKnown table ranges lit [] []
none_known table ranges lit = record { as_many = refl; each = λ k d e lt. absurd (omega (arith, lt)) }

-- over other ranges the ends are still known
pub unlit : (table : List ℕ) (ranges others : List Range) (lit : Bool) (cs : List Contact) (known : List Known) → AreKnown table ranges lit cs known → AreKnown table others false cs known
unlit table ranges others lit cs known h = record { as_many = h.as_many; each = λ k d e lt. let one = h.each k d e lt in record { from = one.from; to = one.to; light = λ t. absurd cc } }

-- and so are the light times where only the ends were renewed
pub relit : (old new : List ℕ) (ranges : List Range) (lit : Bool) (cs : List Contact) (before after : List Known) → AreKnown old ranges lit cs before → AreEnds new cs after → ((k : ℕ) (e : Known) → (get_or after k e).light ≡ (get_or before k e).light) → AreKnown new ranges lit cs after
relit old new ranges lit cs before after h ends same = record {
  as_many = ends.as_many;
  each = λ k d e lt. record { from = (ends.each k d e lt).from; to = (ends.each k d e lt).to; light = λ t. ap light_of_word (same k e) ∙ (h.each k d e lt).light t };
}

-- one contact more is known
pub known_push : (old new : List ℕ) (ranges : List Range) (lit : Bool) (cs : List Contact) (known : List Known) (c : Contact) (e : Known) → KeepsPlaces old new → AreKnown old ranges lit cs known → IsKnown new ranges lit c e → AreKnown new ranges lit (cs ++ c ∷ []) (known ++ e ∷ [])
known_push old new ranges lit cs known c e places h here =
    let many = h.as_many in
    let more = length-append cs (c ∷ []) in
    record {
      as_many = length-append known (e ∷ []) ∙ ap (λ n. n + 1) many ∙ sym more;
      each = λ k d f lt.
          elim (cases_lt k (length cs)) [
            | inl early ↦
                let was = h.each k d f early in
                rw (get_or-append cs (c ∷ []) d k early, get_or-append known (e ∷ []) f k (omega (arith, early, many))) (record { from = places _ _ was.from; to = places _ _ was.to; light = was.light })
            | inr late ↦
                let is : k ≡ length cs = omega (arith, lt, late, more) in
                rw (is, get_or-append_seam cs c [] d, ← many, get_or-append_seam known e [] f) here
          ];
    }

-- both nodes of a contact are in the table
pub both_in_table : {S A : Type 0} (cs : List Contact) (table : IndexMap ℕ (Vec ℕ A) S) → IsTableOf cs table → (k : ℕ) (d : Contact) → k < length cs → (has (get_or cs k d).from (keys table) ≡ true) × (has (get_or cs k d).to (keys table) ≡ true)
both_in_table cs table h k d lt =
    let c = get_or cs k d in
    let there = ends_in c cs (in_from_Contains cs c (k, lt, get_or_default cs k c d lt)) in
    (has_node cs table c.from h ∙ there.0, has_node cs table c.to h ∙ there.1)

-- The contacts that a plan has noted by their keys: what changes leave of them, and which contact is found.

abbrev no_contact : Contact
no_contact = record { number = 0; from = 0; to = 0; start = 0; end = 0; rate = 0 }

-- the map of no contact
pub noted_none : (numbers : BTreeMap (ℕ × ℕ × ℕ) ℕ) (noted : ℕ) (cs : List Contact) → noted ≡ 0 → IsNoted numbers noted cs
noted_none numbers noted cs e = record { within = omega (arith, e); found = λ k d lt. absurd (omega (arith, lt, e)) }

-- keys are equal where openings are
tied : (c d : Contact) → same_opening c d ≡ is_at (by_key (contact_key c)) (contact_key d)
tied c d = both_tied _ _ (ordering_then (nat_cmp c.from d.from) (nat_cmp c.to d.to)) (nat_cmp c.start d.start) (both_tied _ _ (nat_cmp c.from d.from) (nat_cmp c.to d.to) (unsigned_ties c.from d.from) (unsigned_ties c.to d.to)) (unsigned_ties c.start d.start)

flipped : (c d : Contact) → same_opening c d ≡ true → same_opening d c ≡ true
flipped c d also =
    let e = opens_parts c.from c.to c.start d also in
    and_from (eqb d.from c.from && eqb d.to c.to) (eqb d.start c.start)
    (and_from (eqb d.from c.from) (eqb d.to c.to) (eq-eqb d.from c.from (sym e.0)) (eq-eqb d.to c.to (sym e.1)))
    (eq-eqb d.start c.start (sym e.2))

module _ (numbers : BTreeMap (ℕ × ℕ × ℕ) ℕ) (n : ℕ) (cs : List Contact) (h : IsNoted numbers n cs) where
  -- the next contact is noted
  pub noted_next : (then : BTreeMap (ℕ × ℕ × ℕ) ℕ) → n < length cs → none_twice same_opening cs ≡ true → Updates by_key numbers then (contact_key (get_or cs n no_contact)) (Some (get_or cs n no_contact).number) → IsNoted then (n + 1) cs
  noted_next then lt apart u = record {
    within = omega (arith, lt);
    found = λ k d less.
        let c = get_or cs n no_contact in
        elim (cases_lt k n) [
          | inl low ↦
              let e = get_or cs k d in
              let differ : same_opening e c ≡ false = subst (λ x. same_opening e x ≡ false) (get_or_default cs n d no_contact lt) (apart_at same_opening cs k n d apart low lt) in
              u.2 (contact_key e) (sym (tied c e) ∙ false_from_ne_true (same_opening c e) (λ also. both_ways (same_opening e c) differ (flipped c e also)))
              ∙ h.found k d low
          | inr high ↦
              let at : k ≡ n = omega (arith, less, high) in
              let same : get_or cs k d ≡ c = ap (λ j. get_or cs j d) at ∙ get_or_default cs n d no_contact lt in
              ap (λ x. get by_key then (contact_key x)) same ∙ u.1 ∙ ap (λ (x : Contact). Some x.number) (sym same)
        ];
  }

  -- a contact is added
  pub noted_push : (c : Contact) → IsNoted numbers n (cs ++ c ∷ [])
  noted_push c =
      let low = h.within in
      record {
        within = omega (arith, low, length-append cs (c ∷ []));
        found = λ k d less. rw (get_or_append_left cs (c ∷ []) d k (omega (arith, less, low))) (h.found k d less);
      }

  -- one is deleted
  pub noted_removed : (i : ℕ) → i < length cs → IsNoted numbers (cond (ltb i n) (n - 1) n) (remove cs i)
  noted_removed i lt =
      let low = h.within in
      let fewer = length-remove cs i lt in
      elim (cases_lt i n) [
        | inl before ↦ rw (lt-ltb i n before) (record {
          within = omega (arith, low, fewer, before);
          found = λ k d less.
              elim (cases_lt k i) [
                | inl early ↦ rw (get_or-remove_below cs i d k early lt) (h.found k d (omega (arith, early, before)))
                | inr late ↦ rw (get_or-remove_above cs i d k late lt) (h.found (k + 1) d (omega (arith, less)))
              ];
        })
        | inr behind ↦ rw (le-ltb i n behind) (record {
          within = omega (arith, low, fewer, behind, lt);
          found = λ k d less. rw (get_or-remove_below cs i d k (omega (arith, less, behind)) lt) (h.found k d less);
        })
      ]

  -- ---- what is found if all are noted

  module _ (all : length cs ≤ n) (rises : rises_above 0 (map (λ c. c.number) cs) ≡ true) (from to start : ℕ) where
    at_own : (k : ℕ) (d : Contact) → k < length cs → opens from to start (get_or cs k d) ≡ true → get by_key numbers (from, to, start) ≡ Some (get_or cs k d).number
    at_own k d lt also = let e = opens_parts from to start (get_or cs k d) also in rw (e.0, e.1, e.2) (h.found k d (omega (arith, lt, all)))

    pub none_noted : get by_key numbers (from, to, start) ≡ None → find (opens from to start) cs ≡ None
    none_noted is = find_none (opens from to start) cs (λ k d lt also. let own = at_own k d lt also in let no : None ≡ Some (get_or cs k d).number = sym is ∙ own in absurd cc)

    -- a contact of the key has the number
    own_number : (n k : ℕ) (d : Contact) → get by_key numbers (from, to, start) ≡ Some n → k < length cs → opens from to start (get_or cs k d) ≡ true → (get_or cs k d).number ≡ n
    own_number n k d is lt also = let e : Some (get_or cs k d).number ≡ Some n = sym (at_own k d lt also) ∙ is in cc

    pub none_numbered : (n : ℕ) → get by_key numbers (from, to, start) ≡ Some n → find (λ c. eqb c.number n) cs ≡ None → find (opens from to start) cs ≡ None
    none_numbered n is none =
        find_none (opens from to start) cs (λ k d lt also.
        let e : Some (get_or cs k d) ≡ None = sym (slice_get-get_or cs k d lt) ∙ sym (found_here 0 cs n k d rises lt (own_number n k d is lt also)) ∙ none in absurd cc)

    pub only_there : (n i : ℕ) → get by_key numbers (from, to, start) ≡ Some n → i < length cs → find (λ c. eqb c.number n) cs ≡ slice_get cs i
        → find (opens from to start) cs ≡ cond (opens from to start (get_or cs i no_contact)) (slice_get cs i) None
    only_there n i is lt at =
        let e = get_or cs i no_contact in
        let there : slice_get cs i ≡ Some e = slice_get-get_or cs i no_contact lt in
        let numbered : e.number ≡ n = eqb-true e.number n (found_passes (λ c. eqb c.number n) cs e (at ∙ there)) in
        rw there
        (find_only (opens from to start) cs i no_contact lt (λ k d within other also.
        let own = own_number n k d is within also in
        elim (cases_order k i) [
          | inl same ↦ other same
          | inr (inl under) ↦ let apart = numbers_apart 0 cs k i d no_contact rises under lt in omega (arith, apart, own, numbered, under)
          | inr (inr over) ↦ let apart = numbers_apart 0 cs i k no_contact d rises over within in omega (arith, apart, own, numbered, over)
        ]))

-- there is a place if and only if one passes
pub any_at_place : (p : Contact → Bool) (cs : List Contact) (o : Option ℕ) → MatchOption o (find p cs ≡ None) (λ k. (k < length cs) × (find p cs ≡ slice_get cs k)) → is_some o ≡ list_any p cs
any_at_place p cs None none = sym (none_any p cs none)
any_at_place p cs (Some k) there =
    sym (list_any_at p cs k no_contact there.0 (found_passes p cs (get_or cs k no_contact) (there.1 ∙ slice_get-get_or cs k no_contact there.0)))
