use Rattle.std.proofs.Common.{◌≡◌, ℕ, ◌<◌, ◌≤◌, true, eqb, List, Some, None, Ok, Err, length, get_or, map, inl, inr, arith, ap, subst, tests, rules}
use Rattle.std.proofs.lemmas.Bool.{cases_order, cases_lt, eqb-true}
use Rattle.std.proofs.lemmas.List.Sorted.{answers_always}
use Rattle.std.specs.Cmp.{ranks}
use Rattle.std.specs.Ordering.{nat_cmp, ordering_index, MatchOrdering}
use Rattle.std.specs.List.Sorted.{IsBinarySearchResult}
use Rattle.sabr_model.specs.declared.contact.Contact.{Contact}
use Rattle.sabr_model.specs.plan.Plan.{rises_above, IsPlaceOf}
use Rattle.sabr_model.proofs.PlanLemmas.Numbered.{numbers_apart, found_here}
use Rattle.sabr_model.proofs.PlanLemmas.RangeOrder.{find_none}
use Rattle.sabr_model.proofs.plan.contacts_by_number.searched_place.Goals as goal

module _ (cs : List Contact) (n : ℕ) (rises : rises_above 0 (map (λ c. c.number) cs) ≡ true) where
  higher : (a b : ℕ) → a ≤ b → ordering_index (nat_cmp a n) ≤ ordering_index (nat_cmp b n)
  higher a b le = grind (arith, tests)

  rising : (i j : ℕ) (d : Contact) → i ≤ j → j < length cs → (get_or cs i d).number ≤ (get_or cs j d).number
  rising i j d le lt =
      elim (cases_order i j) [
        | inl same ↦ let e = ap (λ k. (get_or cs k d).number) same in omega (arith, e)
        | inr (inl less) ↦ let apart = numbers_apart 0 cs i j d d rises less lt in omega (arith, apart, less)
        | inr (inr over) ↦ absurd (omega (arith, over, le))
      ]

  told : (k : ℕ) (d : Contact) → MatchOrdering (nat_cmp (get_or cs k d).number n) ((get_or cs k d).number < n) ((get_or cs k d).number ≡ n) (n < (get_or cs k d).number)
  told k d = ranks (get_or cs k d).number n

  -- what is found
  here : (k : ℕ) → k < length cs → IsBinarySearchResult (λ c. nat_cmp c.number n) cs (Ok k) → IsPlaceOf cs n (Some k)
  here k within h =
      let d : Contact = record { number = 0; from = 0; to = 0; start = 0; end = 0; rate = 0 } in
      (within, found_here 0 cs n k d rises within (subst (λ o. MatchOrdering o ((get_or cs k d).number < n) ((get_or cs k d).number ≡ n) (n < (get_or cs k d).number)) (h d) (told k d)))

  -- or that nothing is
  nowhere : (k : ℕ) → IsBinarySearchResult (λ c. nat_cmp c.number n) cs (Err k) → IsPlaceOf cs n None
  nowhere k h =
      let parted = h (λ a b d le lt. higher (get_or cs a d).number (get_or cs b d).number (rising a b d le lt)) in
      find_none (λ c. eqb c.number n) cs (λ i d lt same.
      let is = eqb-true (get_or cs i d).number n same in
      elim (cases_lt i k) [
        | inl below ↦ let less = subst (λ o. MatchOrdering o ((get_or cs i d).number < n) ((get_or cs i d).number ≡ n) (n < (get_or cs i d).number)) (parted.0 i d (omega arith) below) (told i d) in omega (arith, less, is)
        | inr above ↦ let more = subst (λ o. MatchOrdering o ((get_or cs i d).number < n) ((get_or cs i d).number ≡ n) (n < (get_or cs i d).number)) (parted.1 i d above lt) (told i d) in omega (arith, more, is)
      ])

pub returns-in-Ok : goal.returns-in-Ok
returns-in-Ok c =
    let e = c.in-Ok.ensures {u = tt} in
    here c.args.contacts.now c.args.number c.requires c.in-Ok.place e.bound (e.position (λ (x : Contact). x.number) (answers_always _ _ _ (λ f a r g h. search rules)))

pub returns-in-Err : goal.returns-in-Err
returns-in-Err c =
    let e = c.in-Err.ensures {u = tt} in
    nowhere c.args.contacts.now c.args.number c.requires c.in-Err.field-0 (e.position (λ (x : Contact). x.number) (answers_always _ _ _ (λ f a r g h. search rules)))
