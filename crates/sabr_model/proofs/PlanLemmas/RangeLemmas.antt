-- A plan with one more range that is not refused is a plan, and the place where that range goes.
use Rattle.std.proofs.Common.{◌≡◌, ℕ, zero, suc, ◌+◌, ◌<◌, ◌≤◌, Bool, true, false, ◌||◌, not, eqb, leb, List, [], ◌∷◌, length, get_or, map, refl, sym, ap, subst, ◌∙◌, arith}
use Rattle.std.specs.List.{insert, list_any, AllByRecursion}
use Rattle.std.specs.List.Sorted.{IsStrictlySortedBy}
use Rattle.std.proofs.lemmas.Bool.Decides.{nat_tests}
use Rattle.std.proofs.lemmas.Bool.{and_parts, and_from, or_parts, or_from, not-true, not_from_false, leb-false, eqb-false}
use Rattle.std.proofs.lemmas.List.Elements.{All-from_recursion, All-get_or}
use Rattle.std.specs.declared.option.Option.TheVariants.{None}
use Rattle.std.specs.declared.cmp.Ordering.{Ordering}
use Rattle.std.specs.declared.cmp.Ordering.TheVariants.{Less, Equal, Greater}
use Rattle.sabr_model.specs.declared.contact.Range.{Range}
use Rattle.sabr_model.specs.declared.fault.AddFault.TheVariants.{EmptyWindow, SelfPair, RangeOverlap, TooMany}
use Rattle.sabr_model.specs.Order.{put_in, by_key}
use Rattle.sabr_model.specs.plan.Plan.{ContactPlan, IsPlan, IsWindow, IsNode, IsPair, overlap, none_twice, range_key, last_time}
use Rattle.sabr_model.specs.plan.Adding.{range_refusal, with_range, by_range_key}
use Rattle.sabr_model.proofs.ListLemmas.Answered.{unfailed}
use Rattle.sabr_model.proofs.ListLemmas.Ordered.{all_put, sorted_put}
use Rattle.sabr_model.proofs.PlanLemmas.KeyOrder.{by_key_total}

-- the facts of an accepted range
pub record IsAcceptedRange (p : ContactPlan) (r : Range) : Type 0 where
  pub window : r.start < r.end
  pub apart : eqb r.one r.other ≡ false
  pub new : list_any (overlap r) p.ranges ≡ false
  pub room : length p.ranges < 20000

-- a range that is not refused has these facts
pub accepted_range : (p : ContactPlan) (r : Range) → range_refusal p r ≡ None → IsAcceptedRange p r
accepted_range p r e =
    let a = unfailed (leb r.end r.start) EmptyWindow _ e in
    let b = unfailed (eqb r.one r.other) SelfPair _ a.1 in
    let c = unfailed (list_any (overlap r) p.ranges) RangeOverlap _ b.1 in
    let d = unfailed (leb 20000 (length p.ranges)) TooMany None c.1 in
    record { window = leb-false r.end r.start a.0; apart = b.0; new = c.0; room = leb-false 20000 (length p.ranges) d.0 }

-- overlap is symmetric
pub overlap_flip : (a b : Range) → overlap a b ≡ overlap b a
overlap_flip a b = grind (arith, nat_tests)

module _ {X : Type 0} (cmp : X → X → Ordering) where
  pub any_put : (p : X → Bool) (x : X) (ys : List X) → p x ≡ false → list_any p ys ≡ false → list_any p (put_in cmp x ys) ≡ false
  any_put p x [] one none = or_from (p x) false one refl
  any_put p x (y ∷ ys) one none =
      let parts = or_parts (p y) (list_any p ys) none in
      elim (cmp x y) as (λ o. list_any p (elim o [ Less ↦ x ∷ y ∷ ys | Equal ↦ y ∷ ys | Greater ↦ y ∷ put_in cmp x ys ]) ≡ false) [
        | Less ↦ or_from (p x) (p y || list_any p ys) one none
        | Equal ↦ none
        | Greater ↦ or_from (p y) (list_any p (put_in cmp x ys)) parts.0 (any_put p x ys one parts.1)
      ]

  -- if no two elements pass a test, no two do after putting in one that passes with none
  none_twice-put : (same : X → X → Bool) → ((x y : X) → same x y ≡ same y x) → (x : X) (ys : List X) → none_twice same ys ≡ true → list_any (same x) ys ≡ false → none_twice same (put_in cmp x ys) ≡ true
  none_twice-put same flips x [] none new = refl
  none_twice-put same flips x (y ∷ ys) none new =
      let parts = and_parts (not (list_any (same y) ys)) (none_twice same ys) none in
      let other = or_parts (same x y) (list_any (same x) ys) new in
      elim (cmp x y) as (λ o. none_twice same (elim o [ Less ↦ x ∷ y ∷ ys | Equal ↦ y ∷ ys | Greater ↦ y ∷ put_in cmp x ys ]) ≡ true) [
        | Less ↦ and_from (not (list_any (same x) (y ∷ ys))) (none_twice same (y ∷ ys)) (not_from_false (list_any (same x) (y ∷ ys)) new) none
        | Equal ↦ none
        | Greater ↦ and_from (not (list_any (same y) (put_in cmp x ys))) (none_twice same (put_in cmp x ys))
            (not_from_false (list_any (same y) (put_in cmp x ys)) (any_put (same y) x ys (flips y x ∙ other.0) (not-true (list_any (same y) ys) parts.0)))
            (none_twice-put same flips x ys parts.1 other.1)
      ]

  -- a put adds at most one element
  length-put_le : (x : X) (ys : List X) → length (put_in cmp x ys) ≤ length ys + 1
  length-put_le x [] = omega arith
  length-put_le x (y ∷ ys) =
      elim (cmp x y) as (λ o. length (elim o as (λ _. List X) [ Less ↦ x ∷ y ∷ ys | Equal ↦ y ∷ ys | Greater ↦ y ∷ put_in cmp x ys ]) ≤ length (y ∷ ys) + 1) [ Less ↦ omega arith | Equal ↦ omega arith | Greater ↦ omega (arith, length-put_le x ys) ]

  -- an insert after all elements that come before x, and before one that comes after it, is a put
  pub insert_is_put : (x : X) (ys : List X) (i : ℕ) → i ≤ length ys → ((k : ℕ) → k < i → cmp x (get_or ys k x) ≡ Greater) → (i < length ys → cmp x (get_or ys i x) ≡ Less) → insert ys i x ≡ put_in cmp x ys
  insert_is_put x [] zero le before at = refl
  insert_is_put x [] (suc i) le before at = absurd (omega arith)
  insert_is_put x (y ∷ ys) zero le before at = ap (λ o. elim o as (λ _. List X) [ Less ↦ x ∷ y ∷ ys | Equal ↦ y ∷ ys | Greater ↦ y ∷ put_in cmp x ys ]) (sym (at (omega arith)))
  insert_is_put x (y ∷ ys) (suc i) le before at =
      ap (λ zs. y ∷ zs) (insert_is_put x ys i (omega arith) (λ k lt. before (suc k) (omega arith)) (λ lt. at (omega arith)))
      ∙ ap (λ o. elim o as (λ _. List X) [ Less ↦ x ∷ y ∷ ys | Equal ↦ y ∷ ys | Greater ↦ y ∷ put_in cmp x ys ]) (sym (before zero (omega arith)))

-- the keys after a put
keys-put : (r : Range) (rs : List Range) → map range_key (put_in by_range_key r rs) ≡ put_in by_key (range_key r) (map range_key rs)
keys-put r [] = refl
keys-put r (s ∷ rs) =
    elim (by_range_key r s) as (λ o. map range_key (elim o [ Less ↦ r ∷ s ∷ rs | Equal ↦ s ∷ rs | Greater ↦ s ∷ put_in by_range_key r rs ]) ≡ elim o [ Less ↦ range_key r ∷ range_key s ∷ map range_key rs | Equal ↦ range_key s ∷ map range_key rs | Greater ↦ range_key s ∷ put_in by_key (range_key r) (map range_key rs) ]) [
      | Less ↦ refl
      | Equal ↦ refl
      | Greater ↦ ap (λ ks. range_key s ∷ ks) (keys-put r rs)
    ]

-- a plan with one more range that is not refused is a plan
pub IsPlan-range : (p : ContactPlan) (r : Range) → IsPlan p → IsNode r.one → IsNode r.other → r.end ≤ last_time → r.light ≤ 1000000 → range_refusal p r ≡ None → IsPlan (with_range p r)
IsPlan-range p r h one other ends light accept =
    let a = accepted_range p r accept in
    record {
      contact_windows = h.contact_windows;
      contact_nodes = h.contact_nodes;
      rates = h.rates;
      ranges_rise = subst (IsStrictlySortedBy by_key) (sym (keys-put r p.ranges)) (sorted_put by_key by_key_total (range_key r) (map range_key p.ranges) h.ranges_rise);
      numbers_rise = h.numbers_rise;
      numbers_given = h.numbers_given;
      openings_differ = h.openings_differ;
      range_windows = all_put by_range_key (λ s. IsWindow s.start s.end) r p.ranges (a.window, ends) h.range_windows;
      range_nodes = all_put by_range_key (λ s. IsPair s.one s.other) r p.ranges (one, other, eqb-false r.one r.other a.apart) h.range_nodes;
      lights = all_put by_range_key (λ s. s.light ≤ 1000000) r p.ranges light h.lights;
      ranges_apart = none_twice-put by_range_key overlap overlap_flip r p.ranges h.ranges_apart a.new;
      count = h.count;
      range_count = let most = length-put_le by_range_key r p.ranges in let room = a.room in omega (arith, most, room);
    }

-- ranges of one key overlap if neither is empty
pub same_key_overlaps : (r s : Range) → r.start < r.end → s.start < s.end → by_range_key r s ≡ Equal → overlap r s ≡ true
same_key_overlaps r s a b e = grind (arith, nat_tests)

-- what holds for all elements holds at each place
pub all_at : {X : Type 0} (P : X → Type 0) (xs : List X) (i : ℕ) (d : X) → AllByRecursion P xs → i < length xs → P (get_or xs i d)
all_at P xs i d all lt = All-get_or P xs i d lt (All-from_recursion P xs all)
