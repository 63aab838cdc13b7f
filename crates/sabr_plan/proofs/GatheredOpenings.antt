-- What no two gathered contacts share, as the chains beside them have it.
use Rattle.sabr_plan.proofs.Names.{◌≡◌, ℕ, zero, suc, ◌<◌, Bool, true, false, ◌&&◌, not, List, [], ◌∷◌, ◌++◌, filter, length, get_or, set, refl, sym, ap, ◌∙◌, arith, slice_get, option_map, is_some, list_any, find, position, Contact, Opening, and_parts, both_ways, get_or_default, slice_get-get_or, list_any_at, or_from_places, fails_before_first, Option, Some, None, opens, same_opening, none_twice, contact_refusal, by_key, is_le, is_gt, le_itself, all_push, opens_parts, find_none, nat_tests}
use Rattle.sabr_model.proofs.ListLemmas.Ordered.{all_weaker}
use Rattle.std.proofs.lemmas.List.Quantifiers.{position-Some}
use Rattle.std.proofs.lemmas.List.Elements.{filter-append}
use Rattle.sabr_model.specs.plan.Openings.{opening_of}
use Rattle.sabr_plan.specs.Gathering.{plan_of_contacts, stands, standing, stands_at, IsFound, opening_key, contact_bucket, OpenBy, KnowsSome}
use Rattle.sabr_plan.proofs.ChainedPlaces.{chained_push}

-- ---- contacts that open by a last opening

-- none has an opening that comes after it
pub after_all : (o last : Opening) (cs : List Contact) → OpenBy last cs → is_gt (by_key (opening_key o) (opening_key last)) ≡ true → list_any (stands_at o) cs ≡ false
after_all o last [] all more = refl
after_all o last (c ∷ cs) all more = grind (arith, nat_tests, all.0, after_all o last cs all.1 more)

-- and they open by a later one
pub later_opening : (o last : Opening) (cs : List Contact) → OpenBy last cs → is_gt (by_key (opening_key o) (opening_key last)) ≡ true → OpenBy o cs
later_opening o last cs all more =
    all_weaker (λ d. is_le (by_key (opening_key (opening_of d)) (opening_key last)) ≡ true) (λ d. is_le (by_key (opening_key (opening_of d)) (opening_key o)) ≡ true) (λ d le. grind (arith, nat_tests)) cs all

-- one more contact, whose opening is the last one
pub knows_push : (befores lasts : List ℕ) (in_order : Bool) (last o : Opening) (cs : List Contact) → KnowsSome befores lasts in_order last cs → (in_order ≡ true → OpenBy o cs) → (c : Contact) → opening_of c ≡ o → KnowsSome befores lasts in_order o (cs ++ c ∷ [])
knows_push befores lasts in_order last o cs h by c is = (
  chained_push contact_bucket cs c befores lasts h.0,
  λ up. all_push (λ d. is_le (by_key (opening_key (opening_of d)) (opening_key o)) ≡ true) cs c (by up) (grind (arith, is, le_itself (opening_key o))),
)

-- ---- contacts that stand

-- a test of those that stand
pub any_standing : (p : Contact → Bool) (cs : List Contact) → list_any (λ c. p c && stands c) cs ≡ list_any p (standing cs)
any_standing p [] = refl
any_standing p (c ∷ cs) = grind (arith, nat_tests, any_standing p cs)

-- over a window, between two nodes, and where there is room, a contact is refused only as a duplicate
pub new_accepted : (cs : List Contact) (largest : ℕ) (o : Opening) (end : ℕ) → o.start < end → (o.from ≡ o.to → ⊥) → largest < 20000 → list_any (stands_at o) cs ≡ false
    → contact_refusal (plan_of_contacts (standing cs) largest) o.from o.to o.start end ≡ None
new_accepted cs largest o end window apart room new = grind (arith, nat_tests, any_standing (opens o.from o.to o.start) cs)

-- what an index past the end gives
abbrev pub no_contact : Contact
no_contact = record { number = 0; from = 0; to = 0; start = 0; end = 0; rate = 0 }

module _ (o : Opening) (cs : List Contact) where
  -- the contact at an index stands
  pub found_at : (k : ℕ) → k < length cs → stands_at o (get_or cs k no_contact) ≡ true → option_map (stands_at o) (slice_get cs k) ≡ Some true
  found_at k lt passes = ap (option_map (stands_at o)) (slice_get-get_or cs k no_contact lt) ∙ ap Some passes

  pub stands_found : (k : ℕ) → k < length cs → option_map (stands_at o) (slice_get cs k) ≡ Some true → stands_at o (get_or cs k no_contact) ≡ true
  stands_found k lt is = grind (arith, slice_get-get_or cs k no_contact lt)

  -- one is found if there is one
  pub found_any : (r : Option ℕ) → IsFound o cs r → is_some r ≡ list_any (stands_at o) cs
  found_any None h = sym h
  found_any (Some k) h = sym (list_any_at (stands_at o) cs k no_contact h.0 (stands_found k h.0 h.1))

  -- by a pass
  pub by_pass : (r : Option ℕ) → r ≡ position (stands_at o) cs → IsFound o cs r
  by_pass (Some k) e = let q = position-Some (stands_at o) cs k no_contact (sym e) in (q.0, found_at k q.0 q.1)
  by_pass None e =
      or_from_places (list_any (stands_at o)) (stands_at o) refl (λ x ys. refl) cs no_contact (λ j lt. grind (arith, nat_tests, fails_before_first (stands_at o) cs j no_contact))

-- the element at an index, by any value past the end
pub there : (cs : List Contact) (k : ℕ) (c : Contact) → k < length cs → c ≡ get_or cs k c → c ≡ get_or cs k no_contact
there cs k c lt is = is ∙ get_or_default cs k c no_contact lt

-- one more that stands
pub standing_push : (cs : List Contact) (c : Contact) → c.start < c.end → standing (cs ++ c ∷ []) ≡ standing cs ++ c ∷ []
standing_push cs c lt = grind (arith, nat_tests, filter-append stands cs (c ∷ []))

-- a contact that is deleted
abbrev pub ended : Contact → ℕ → Contact
ended c end = record { number = c.number; from = c.from; to = c.to; start = c.start; end = end; rate = c.rate }

-- if no element passes, all stay
all_stay : (p : Contact → Bool) (cs : List Contact) → list_any p cs ≡ false → filter (λ c. not (p c)) cs ≡ cs
all_stay p [] fails = refl
all_stay p (c ∷ cs) fails = grind (arith, nat_tests, all_stay p cs)

-- an element that is found passes for some
any_found : (p : Contact → Bool) (cs : List Contact) (c : Contact) → find p cs ≡ Some c → list_any p cs ≡ true
any_found p [] c is = absurd cc
any_found p (d ∷ ds) c is = grind (arith, nat_tests, any_found p ds c)

-- one that stands ends at its start, and then it and no other is gone
module _ (o : Opening) where
  abbrev pub p : Contact → Bool
  p = opens o.from o.to o.start

  -- only one contact opens so
  alone : (c : Contact) (cs : List Contact) → p c ≡ true → list_any (same_opening c) cs ≡ false → list_any p cs ≡ false
  alone c cs passes none_same = let e = opens_parts o.from o.to o.start c passes in rw (e.0, e.1, e.2) none_same

  ends : (c : Contact) → p c ≡ true → stands (ended c o.start) ≡ false
  ends c passes = grind (arith, nat_tests)

  pub deleted : (cs : List Contact) (k : ℕ) → k < length cs → stands_at o (get_or cs k no_contact) ≡ true → none_twice same_opening (standing cs) ≡ true
      → (standing (set cs k (ended (get_or cs k no_contact) o.start)) ≡ filter (λ c. not (p c)) (standing cs)) × (find p (standing cs) ≡ Some (get_or cs k no_contact))
  deleted [] k lt at apart = absurd (omega (arith, lt))
  deleted (c ∷ cs) zero lt at apart = (
    grind (arith, nat_tests, alone c (standing cs), all_stay p (standing cs), ends c),
    grind (arith, nat_tests),
  )
  deleted (c ∷ cs) (suc k) lt at apart = (
    grind (arith, nat_tests, deleted cs k, alone c (standing cs), any_found p (standing cs)),
    grind (arith, nat_tests, deleted cs k, alone c (standing cs), any_found p (standing cs)),
  )

  -- the contact that is found is gone then
  pub deletes : (cs : List Contact) (k : ℕ) → IsFound o cs (Some k) → none_twice same_opening (standing cs) ≡ true
      → (standing (set cs k (ended (get_or cs k no_contact) o.start)) ≡ filter (λ c. not (p c)) (standing cs)) × (find p (standing cs) ≡ Some (get_or cs k no_contact))
  deletes cs k h apart = deleted cs k h.0 (stands_found o cs k h.0 h.1) apart

  -- and doesn't stand then
  pub gone : (cs : List Contact) (k : ℕ) → IsFound o cs (Some k) → stands (ended (get_or cs k no_contact) o.start) ≡ false
  gone cs k h = ends (get_or cs k no_contact) (and_parts (p (get_or cs k no_contact)) (stands (get_or cs k no_contact)) (stands_found o cs k h.0 h.1)).0

  -- without one none is found
  pub none_found : (cs : List Contact) → list_any (stands_at o) cs ≡ false → find p (standing cs) ≡ None
  none_found cs h = find_none p (standing cs) (λ k d lt passes. both_ways (list_any p (standing cs)) (sym (any_standing p cs) ∙ h) (list_any_at p (standing cs) k d lt passes))

-- no opening changes
pub open_by_set : (last : Opening) (cs : List Contact) (k e : ℕ) → OpenBy last cs → OpenBy last (set cs k (ended (get_or cs k no_contact) e))
open_by_set last [] k e all = tt
open_by_set last (c ∷ cs) zero e all = all
open_by_set last (c ∷ cs) (suc k) e all = (all.0, open_by_set last cs k e all.1)
