-- The contacts without one of them, and the table of nodes after its deletion.
use Rattle.std.proofs.Common.{◌≡◌, ℕ, ◌<◌, Bool, true, false, cond, ◌||◌, ◌&&◌, not, eqb, ltb, List, [], ◌∷◌, map, refl, sym, ap, subst, ◌∙◌, inl, inr, arith}
use Rattle.std.specs.Prelude.{nat_eq, Vec}
use Rattle.std.specs.List.{filter, find, list_any, AllByRecursion}
use Rattle.std.specs.Bool.{then_some}
use Rattle.std.specs.Option.{option_map}
use Rattle.std.proofs.lemmas.Bool.{and_parts, or_from, eqb-true, ltb-true, both_ways, false_from_ne_true, not-false, cond_both}
use Rattle.std.specs.declared.option.Option.TheVariants.{Some, None}
use Rattle.indexmap.specs.IndexMap.{IndexMap, IsUnique}
use Rattle.sabr_model.specs.declared.contact.Contact.{Contact}
use Rattle.sabr_model.specs.plan.Plan.{has, rises_above}
use Rattle.sabr_model.specs.plan.Table.{sent_by, ends_of, without_number, list_at, IsTableOf}
use Rattle.std.specs.Cmp.{nat_eq_equiv}
use Rattle.std.proofs.Math.Bool.{or_assoc}
use Rattle.std.proofs.lemmas.Map.Views.{list_any-from_Contains}
use Rattle.sabr_model.proofs.ListLemmas.Has.{eqb_flip, without_absent}
use Rattle.sabr_model.proofs.ListLemmas.Members.{IsIn, Contains-from_in, in_flat_map, find_in}

-- the numbers of rising contacts are above the bound
pub all_above : (low : ℕ) (cs : List Contact) → rises_above low (map (λ d. d.number) cs) ≡ true → AllByRecursion (λ d. low < d.number) cs
all_above low [] rises = tt
all_above low (x ∷ cs) rises =
    let parts = and_parts (ltb low x.number) (rises_above x.number (map (λ d. d.number) cs)) rises in
    let lt = ltb-true low x.number parts.0 in
    (lt, weaker cs (all_above x.number cs parts.1) lt)
  where
    weaker : (ds : List Contact) → AllByRecursion (λ d. x.number < d.number) ds → low < x.number → AllByRecursion (λ d. low < d.number) ds
    weaker [] all lt = tt
    weaker (d ∷ ds) all lt = (let one : x.number < d.number = all.0 in omega (arith, one, lt), weaker ds all.1 lt)

-- each contact with the number is this one
abbrev pub IsOne : Contact → ℕ → List Contact → Type 0
IsOne c n cs = AllByRecursion (λ d. eqb d.number n ≡ true → d ≡ c) cs

-- no contact above the number has it
none_above : (c : Contact) (n : ℕ) (cs : List Contact) → AllByRecursion (λ d. n < d.number) cs → IsOne c n cs
none_above c n [] all = tt
none_above c n (d ∷ cs) all = ((λ e. absurd (let lt : n < d.number = all.0 in omega (arith, eqb-true d.number n e, lt))), none_above c n cs all.1)

-- only the contact found has its number
pub is_one : (low : ℕ) (cs : List Contact) (n : ℕ) (c : Contact) → rises_above low (map (λ d. d.number) cs) ≡ true → find (λ d. eqb d.number n) cs ≡ Some c → IsOne c n cs
is_one low [] n c rises found = tt
is_one low (x ∷ cs) n c rises found =
    let parts = and_parts (ltb low x.number) (rises_above x.number (map (λ d. d.number) cs)) rises in
    elim (eqb x.number n) as (λ b. eqb x.number n ≡ b → cond b (Some x) (find (λ d. eqb d.number n) cs) ≡ Some c → IsOne c n (x ∷ cs)) [
      | true ↦ λ e is. (let same : x ≡ c = cc in ((λ _. same), none_above c n cs (subst (λ m. AllByRecursion (λ d. m < d.number) cs) (eqb-true x.number n e) (all_above x.number cs parts.1))))
      | false ↦ λ e behind. ((λ t. absurd (both_ways (eqb x.number n) e t)), is_one x.number cs n c parts.1 behind)
    ] refl found

-- no other node sends it
pub absent_sent : (c : Contact) (n : ℕ) (cs : List Contact) (q : ℕ) → IsOne c n cs → eqb q c.from ≡ false → has n (sent_by cs q) ≡ false
absent_sent c n [] q one ne = refl
absent_sent c n (x ∷ cs) q one ne =
    let rest = absent_sent c n cs q one.1 ne in
    cond_both (eqb q x.from) (x ∷ filter (λ d. eqb q d.from) cs) (filter (λ d. eqb q d.from) cs) (λ (ds : List Contact). has n (map (λ d. d.number) ds) ≡ false)
    (λ e. or_from (eqb n x.number) (has n (sent_by cs q)) (false_from_ne_true (eqb n x.number) (λ t.
    let same : x ≡ c = one.0 (eqb_flip x.number n ∙ t) in
    both_ways (eqb q c.from) ne (ap (λ (d : Contact). eqb q d.from) (sym same) ∙ e))) rest)
    (λ _. rest)

-- every node except its two is in use as before
pub ends_kept : (c : Contact) (n : ℕ) (cs : List Contact) (q : ℕ) → IsOne c n cs → eqb q c.from ≡ false → eqb q c.to ≡ false → has q (ends_of (without_number n cs)) ≡ has q (ends_of cs)
ends_kept c n [] q one f t = refl
ends_kept c n (x ∷ cs) q one f t =
    let rest = ends_kept c n cs q one.1 f t in
    cond_both (not (eqb x.number n)) (x ∷ without_number n cs) (without_number n cs) (λ ds. has q (ends_of ds) ≡ (eqb q x.from || (eqb q x.to || has q (ends_of cs))))
    (λ _. ap (λ b. eqb q x.from || (eqb q x.to || b)) rest)
    (λ gone.
    let same : x ≡ c = one.0 (not-false (eqb x.number n) gone) in
    rest
    ∙ ap (λ b. b || has q (ends_of cs)) (sym (ap (λ (d : Contact). eqb q d.to) same ∙ t))
    ∙ ap (λ b. b || (eqb q x.to || has q (ends_of cs))) (sym (ap (λ (d : Contact). eqb q d.from) same ∙ f)))

-- testing each contact for its number and its nodes tests whether a node is in use without that number
pub in_use_is : (n q : ℕ) (cs : List Contact) → list_any (λ d. not (eqb d.number n) && (eqb q d.from || eqb q d.to)) cs ≡ has q (ends_of (without_number n cs))
in_use_is n q [] = refl
in_use_is n q (x ∷ cs) =
    elim (eqb x.number n) as (λ b. ((not b && (eqb q x.from || eqb q x.to)) || list_any (λ d. not (eqb d.number n) && (eqb q d.from || eqb q d.to)) cs) ≡ has q (ends_of (cond (not b) (x ∷ without_number n cs) (without_number n cs)))) [
      | true ↦ in_use_is n q cs
      | false ↦ or_assoc (eqb q x.from) (eqb q x.to) (list_any (λ d. not (eqb d.number n) && (eqb q d.from || eqb q d.to)) cs) ∙ ap (λ b. eqb q x.from || (eqb q x.to || b)) (in_use_is n q cs)
    ]

-- a number of a list is found in it
pub has_in : (x : ℕ) (ys : List ℕ) → IsIn x ys → has x ys ≡ true
has_in x ys is = list_any-from_Contains nat_eq_equiv x ys (Contains-from_in ys x is)

-- the nodes of a standing contact are in use
pub ends_in : (c : Contact) (cs : List Contact) → IsIn c cs → (has c.from (ends_of cs) ≡ true) × (has c.to (ends_of cs) ≡ true)
ends_in c cs is =
    let ends = λ (d : Contact). d.from ∷ d.to ∷ [] in
    (has_in c.from (ends_of cs) (in_flat_map ends c.from c cs is (inl refl)), has_in c.to (ends_of cs) (in_flat_map ends c.to c cs is (inr (inl refl))))

pub ends_of_found : (cs : List Contact) (n : ℕ) (c : Contact) → find (λ d. eqb d.number n) cs ≡ Some c → (has c.from (ends_of cs) ≡ true) × (has c.to (ends_of cs) ≡ true)
ends_of_found cs n c found = ends_in c cs (find_in (λ d. eqb d.number n) cs c found).0

-- what a node sends without one number
pub sent_by-without : (cs : List Contact) (n q : ℕ) → sent_by (without_number n cs) q ≡ filter (λ k. not (eqb k n)) (sent_by cs q)
sent_by-without [] n q = refl
sent_by-without (x ∷ cs) n q =
    let rest = filter (λ (d : Contact). eqb q d.from) cs in
    elim (eqb x.number n) as (λ b. eqb x.number n ≡ b → map (λ (d : Contact). d.number) (filter (λ d. eqb q d.from) (cond (not b) (x ∷ without_number n cs) (without_number n cs))) ≡ filter (λ k. not (eqb k n)) (map (λ (d : Contact). d.number) (cond (eqb q x.from) (x ∷ rest) rest))) [
      | true ↦ λ e.
          elim (eqb q x.from) as (λ b. sent_by (without_number n cs) q ≡ filter (λ k. not (eqb k n)) (map (λ (d : Contact). d.number) (cond b (x ∷ rest) rest))) [
            | true ↦ sent_by-without cs n q ∙ sym (ap (λ b. cond (not b) (x.number ∷ filter (λ k. not (eqb k n)) (sent_by cs q)) (filter (λ k. not (eqb k n)) (sent_by cs q))) e)
            | false ↦ sent_by-without cs n q
          ]
      | false ↦ λ e.
          elim (eqb q x.from) as (λ b. map (λ (d : Contact). d.number) (cond b (x ∷ filter (λ d. eqb q d.from) (without_number n cs)) (filter (λ d. eqb q d.from) (without_number n cs))) ≡ filter (λ k. not (eqb k n)) (map (λ (d : Contact). d.number) (cond b (x ∷ rest) rest))) [
            | true ↦ ap (λ ys. x.number ∷ ys) (sent_by-without cs n q) ∙ sym (ap (λ b. cond (not b) (x.number ∷ filter (λ k. not (eqb k n)) (sent_by cs q)) (filter (λ k. not (eqb k n)) (sent_by cs q))) e)
            | false ↦ sent_by-without cs n q
          ]
    ] refl

-- ---- the table

-- what is left for a node: is_from and is_to say whether it is the contact's sender or receiver
left : (is_from is_to from_used to_used used was : Bool) (f : List ℕ → List ℕ) (xs : List ℕ)
    → (is_from ≡ true → from_used ≡ used) → (is_to ≡ true → to_used ≡ used) → (is_from ≡ true → was ≡ true) → (is_to ≡ true → was ≡ true) → (is_from ≡ false → is_to ≡ false → used ≡ was)
    → cond (is_to && not to_used) None (cond (is_from && not from_used) None (cond is_from (option_map f (then_some was xs)) (then_some was xs))) ≡ then_some used (cond is_from (f xs) xs)
left true true from_used to_used used was f xs a b c d e =
    let p : from_used ≡ used = a refl in let q : to_used ≡ used = b refl in let r : was ≡ true = c refl in
    rw (p, q, r) (elim used as (λ u. cond (not u) None (cond (not u) None (Some (f xs))) ≡ then_some u (f xs)) [ true ↦ refl | false ↦ refl ])
left true false from_used to_used used was f xs a b c d e =
    let p : from_used ≡ used = a refl in let r : was ≡ true = c refl in
    rw (p, r) (elim used as (λ u. cond (not u) None (Some (f xs)) ≡ then_some u (f xs)) [ true ↦ refl | false ↦ refl ])
left false true from_used to_used used was f xs a b c d e =
    let q : to_used ≡ used = b refl in let r : was ≡ true = d refl in
    rw (q, r) (elim used as (λ u. cond (not u) None (Some xs) ≡ then_some u xs) [ true ↦ refl | false ↦ refl ])
left false false from_used to_used used was f xs a b c d e = ap (λ u. then_some u xs) (sym (e refl refl))

-- the table after a deletion
pub IsTableOf-without : {S A : Type 0} (low : ℕ) (cs : List Contact) (c : Contact) (t0 t1 t2 t3 : IndexMap ℕ (Vec ℕ A) S) (from_used to_used : Bool)
    → rises_above low (map (λ d. d.number) cs) ≡ true → find (λ d. eqb d.number c.number) cs ≡ Some c → IsTableOf cs t0 → IsUnique nat_eq t3
    → from_used ≡ has c.from (ends_of (without_number c.number cs)) → to_used ≡ has c.to (ends_of (without_number c.number cs))
    → ((q : ℕ) → list_at t1 q ≡ cond (eqb q c.from) (option_map (filter (λ k. not (eqb k c.number))) (list_at t0 q)) (list_at t0 q))
    → ((q : ℕ) → list_at t2 q ≡ cond (eqb q c.from && not from_used) None (list_at t1 q))
    → ((q : ℕ) → list_at t3 q ≡ cond (eqb q c.to && not to_used) None (list_at t2 q))
    → IsTableOf (without_number c.number cs) t3
IsTableOf-without low cs c t0 t1 t2 t3 from_used to_used rises found h unique fu tu l1 l2 l3 =
    let one = is_one low cs c.number c rises found in
    let ends = ends_of_found cs c.number c found in
    let gone = filter (λ k. not (eqb k c.number)) in
    record {
      unique = unique;
      lists = λ q.
          l3 q
          ∙ ap (λ o. cond (eqb q c.to && not to_used) None o) (l2 q)
          ∙ ap (λ o. cond (eqb q c.to && not to_used) None (cond (eqb q c.from && not from_used) None o)) (l1 q)
          ∙ ap (λ o. cond (eqb q c.to && not to_used) None (cond (eqb q c.from && not from_used) None (cond (eqb q c.from) (option_map gone o) o))) (h.lists q)
          ∙ left (eqb q c.from) (eqb q c.to) from_used to_used (has q (ends_of (without_number c.number cs))) (has q (ends_of cs)) gone (sent_by cs q)
          (λ e. fu ∙ ap (λ p. has p (ends_of (without_number c.number cs))) (sym (eqb-true q c.from e)))
          (λ e. tu ∙ ap (λ p. has p (ends_of (without_number c.number cs))) (sym (eqb-true q c.to e)))
          (λ e. ap (λ p. has p (ends_of cs)) (eqb-true q c.from e) ∙ ends.0)
          (λ e. ap (λ p. has p (ends_of cs)) (eqb-true q c.to e) ∙ ends.1)
          (λ f t. ends_kept c c.number cs q one f t)
          ∙ ap (then_some (has q (ends_of (without_number c.number cs)))) (sent_left q (eqb q c.from) refl one);
    }
  where
    sent_left : (q : ℕ) (b : Bool) → eqb q c.from ≡ b → IsOne c c.number cs → cond (eqb q c.from) (filter (λ k. not (eqb k c.number)) (sent_by cs q)) (sent_by cs q) ≡ sent_by (without_number c.number cs) q
    sent_left q true e one = ap (λ b. cond b (filter (λ k. not (eqb k c.number)) (sent_by cs q)) (sent_by cs q)) e ∙ sym (sent_by-without cs c.number q)
    sent_left q false e one =
        ap (λ b. cond b (filter (λ k. not (eqb k c.number)) (sent_by cs q)) (sent_by cs q)) e
        ∙ sym (without_absent (sent_by cs q) c.number (absent_sent c c.number cs q one e))
        ∙ sym (sent_by-without cs c.number q)
