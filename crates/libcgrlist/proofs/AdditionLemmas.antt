-- Records that are added one after another, and a contact by its number.
use Rattle.std.proofs.Common.{◌≡◌, ℕ, suc, ◌+◌, ◌<◌, ◌≤◌, Bool, true, false, cond, ◌&&◌, not, eqb, List, [], ◌∷◌, drop, drop-cons, length, get_or, Result, Ok, Err, inl, inr, refl, sym, ap, subst, ◌∙◌, arith, ⊎_elim}
use Rattle.std.specs.Option.{option_map}
use Rattle.std.specs.List.{find, list_any}
use Rattle.std.specs.declared.option.Option.TheVariants.{Some, None}
use Rattle.std.proofs.lemmas.Bool.{and_parts, not-true, eq-eqb, eqb-true, both_ways}
use Rattle.std.proofs.lemmas.List.{drop_all}
use Rattle.sabr_model.specs.declared.contact.Contact.{Contact}
use Rattle.sabr_model.specs.plan.Plan.{ContactPlan, IsPlan, contact_named, none_twice, opens, same_opening, TabledPlan}
use Rattle.sabr_model.specs.plan.Adding.{number_of_opening, without_contact}
use Rattle.sabr_model.specs.plan.Table.{without_number}
use Rattle.sabr_model.proofs.ListLemmas.Has.{eqb_flip}
use Rattle.sabr_model.proofs.PlanLemmas.Deletions.{all_found, any_none, found_passes, without_opening}
use Rattle.std.specs.Prelude.{◌⊎◌, is_some}
use Rattle.libcgrlist.specs.Additions.{AddsAll, AddsNone, Makes, TakesOver, all_put, all_refused, open_refused, then_put}
use Rattle.libcgrlist.specs.Changes.{Becomes, Changes, change_or, deletion_refusal, number_deleted}
use Rattle.libcgrlist.specs.Status.{refused_or, done, has_listing, no_memory}
use Rattle.libcgrlist.specs.Opened.{OpenPlan}
use Rattle.libcgrlist.specs.declared.additions.RefusedRecord.{RefusedRecord}

module _ {X : Type 0} (put : ContactPlan → X → Result ContactPlan ℕ) where
  -- the next record is added or refused first
  one_put : (p : ContactPlan) (xs : List X) (i : ℕ) (d : X) → i < length xs → all_put put i p (drop i xs) ≡ then_put i (put p (get_or xs i d)) (λ q. all_put put (i + 1) q (drop (suc i) xs))
  unfolding all_put
  one_put p xs i d h = ap (all_put put i p) (drop-cons xs i d h)

  -- it is added
  pub put_more : (p q : ContactPlan) (xs : List X) (i : ℕ) (d : X) (all : Result ContactPlan RefusedRecord) → i < length xs → put p (get_or xs i d) ≡ Ok q
      → all_put put i p (drop i xs) ≡ all → all_put put (i + 1) q (drop (i + 1) xs) ≡ all
  put_more p q xs i d all h added is =
      let place : i + 1 ≡ suc i = omega arith in
      ap (λ k. all_put put (i + 1) q (drop k xs)) place
      ∙ sym (one_put p xs i d h ∙ ap (λ o. then_put i o (λ q. all_put put (i + 1) q (drop (suc i) xs))) added) ∙ is

  -- it is refused
  pub put_refused : (p : ContactPlan) (xs : List X) (i s : ℕ) (d : X) (all : Result ContactPlan RefusedRecord) → i < length xs → put p (get_or xs i d) ≡ Err s
      → all_put put i p (drop i xs) ≡ all → all ≡ Err (record { place = i; status = s })
  put_refused p xs i s d all h refused is =
      sym is ∙ one_put p xs i d h ∙ ap (λ o. then_put i o (λ q. all_put put (i + 1) q (drop (suc i) xs))) refused

  -- none is left
  pub put_end : (p : ContactPlan) (xs : List X) (i : ℕ) (all : Result ContactPlan RefusedRecord) → length xs ≤ i → all_put put i p (drop i xs) ≡ all → all ≡ Ok p
  unfolding all_put
  put_end p xs i all h is = sym is ∙ ap (all_put put i p) (drop_all i xs h)

-- ---- a contact by its number

opening_flip : (c d : Contact) → same_opening c d ≡ same_opening d c
opening_flip c d =
    ap (λ b. b && eqb c.to d.to && eqb c.start d.start) (eqb_flip c.from d.from)
    ∙ ap (λ b. eqb d.from c.from && b && eqb c.start d.start) (eqb_flip c.to d.to)
    ∙ ap (λ b. eqb d.from c.from && eqb d.to c.to && b) (eqb_flip c.start d.start)

opens_itself : (c : Contact) → same_opening c c ≡ true
opens_itself c = rw (eq-eqb c.from c.from refl, eq-eqb c.to c.to refl, eq-eqb c.start c.start refl) refl

-- the contact with a number is the one with its opening
named_opens : (cs : List Contact) (n : ℕ) (c : Contact) → none_twice same_opening cs ≡ true → find (λ d. eqb d.number n) cs ≡ Some c → find (opens c.from c.to c.start) cs ≡ Some c
named_opens [] n c none found = absurd cc
named_opens (x ∷ cs) n c none found =
    let parts = and_parts (not (list_any (same_opening x) cs)) (none_twice same_opening cs) none in
    elim (eqb x.number n) as (λ b. cond b (Some x) (find (λ d. eqb d.number n) cs) ≡ Some c → cond (same_opening c x) (Some x) (find (opens c.from c.to c.start) cs) ≡ Some c) [
      | true ↦ λ e.
          let same : x ≡ c = cc in
          let opens_it : same_opening c x ≡ true = ap (same_opening c) same ∙ opens_itself c in
          ap (λ b. cond b (Some x) (find (opens c.from c.to c.start) cs)) opens_it ∙ ap Some same
      | false ↦ λ e.
          let other : same_opening x c ≡ false = all_found (λ d. same_opening x d ≡ false) (λ d. eqb d.number n) cs c (any_none (same_opening x) cs (not-true (list_any (same_opening x) cs) parts.0)) e in
          ap (λ b. cond b (Some x) (find (opens c.from c.to c.start) cs)) (opening_flip c x ∙ other) ∙ named_opens cs n c parts.1 e
    ] found

-- deleting the contact of that opening deletes the contact with the number
pub deleted_by_number : (p : ContactPlan) (n : ℕ) (c : Contact) → IsPlan p → contact_named p n ≡ Some c
    → (number_of_opening p c.from c.to c.start ≡ Some n) × (without_contact p c.from c.to c.start ≡ record { contacts = without_number n p.contacts; ranges = p.ranges; largest = p.largest })
deleted_by_number p n c h named =
    let found = named_opens p.contacts n c h.openings_differ named in
    let number : c.number ≡ n = eqb-true c.number n (found_passes (λ d. eqb d.number n) p.contacts c named) in
    let left = without_opening p c.from c.to c.start c h found ∙ ap (λ k. without_number k p.contacts) number in
    let numbered : number_of_opening p c.from c.to c.start ≡ Some n = ap (option_map (λ (d : Contact). d.number)) found ∙ ap Some number in
    (numbered, cc)

-- ---- what a call for many records answers

-- memory was refused
none_added : (o : OpenPlan) (wanted : Result ContactPlan RefusedRecord) (status old new : ℕ) (n : OpenPlan) → AddsNone o status old new n → AddsAll o wanted status old new n
none_added o (Ok p) status old new n none = inr none
none_added o (Err b) status old new n none = inr none

-- a plan that is made takes the place of the old one, or a refusal is given
pub adds_all : (o : OpenPlan) (wanted : Result ContactPlan RefusedRecord) (made : Result TabledPlan RefusedRecord) (status old new : ℕ) (n : OpenPlan)
    → Makes wanted made → TakesOver o made status old new n → AddsAll o wanted status old new n
adds_all o wanted (Ok p) status old new n is takes = subst (λ w. AddsAll o w status old new n) (sym is) (inl takes)
adds_all o wanted (Err b) status old new n why takes = by (eqb b.status no_memory) refl
  where
    by : (t : Bool) → eqb b.status no_memory ≡ t → AddsAll o wanted status old new n
    by true e =
        let memory : status ≡ no_memory = takes.0 ∙ eqb-true b.status no_memory e in
        let place : new ≡ old = takes.1 ∙ ap (λ t. cond t old b.place) e in
        none_added o wanted status old new n (memory, place, takes.2)
    by false e =
        let place : new ≡ b.place = takes.1 ∙ ap (λ t. cond t old b.place) e in
        ⊎_elim
        (λ memory. absurd (both_ways (eqb b.status no_memory) e (eq-eqb b.status no_memory memory)))
        (λ refused. subst (λ w. AddsAll o w status old new n) (sym refused) (inl (takes.0, place, takes.2)))
        why

-- a listing is open
pub busy : (o : OpenPlan) (rest : Result ContactPlan RefusedRecord) → is_some o.listing ≡ true → refused_or (open_refused o) rest ≡ Err (all_refused has_listing)
busy o rest listed = ap (λ b. refused_or (cond b (Some (all_refused has_listing)) None) rest) listed

-- none is
pub idle : (o : OpenPlan) (rest : Result ContactPlan RefusedRecord) → is_some o.listing ≡ false → refused_or (open_refused o) rest ≡ rest
idle o rest closed = ap (λ b. refused_or (cond b (Some (all_refused has_listing)) None) rest) closed

-- what is refused of the records is refused of the call
pub makes_none : (o : OpenPlan) (rest : Result ContactPlan RefusedRecord) (b : RefusedRecord) → is_some o.listing ≡ false → (b.status ≡ no_memory) ⊎ (rest ≡ Err b)
    → (b.status ≡ no_memory) ⊎ (refused_or (open_refused o) rest ≡ Err b)
makes_none o rest b closed why = ⊎_elim (λ memory. inl memory) (λ refused. inr (idle o rest closed ∙ refused)) why

-- the plan without the contact of a number
pub number_gone : (o n : OpenPlan) (number : ℕ) (c : Contact) → is_some o.listing ≡ false → IsPlan o.plan.plan → contact_named o.plan.plan number ≡ Some c
    → Becomes o (without_contact o.plan.plan c.from c.to c.start) n → Changes o (number_deleted o number) done n
number_gone o n number c closed rules named becomes =
    let p = o.plan.plan in
    let left : ContactPlan = record { contacts = without_number number p.contacts; ranges = p.ranges; largest = p.largest } in
    let wanted : number_deleted o number ≡ Ok left =
    ap (λ b. refused_or (cond b (Some has_listing) None) (change_or (deletion_refusal (is_some (contact_named p number))) left)) closed ∙ ap (λ m. change_or (deletion_refusal (is_some m)) left) named in
    subst (λ w. Changes o w done n) (sym wanted) (refl, (becomes.0 ∙ (deleted_by_number p number c rules named).1, becomes.1))
