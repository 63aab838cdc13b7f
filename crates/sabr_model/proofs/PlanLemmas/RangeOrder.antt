-- A plan's ranges in order, and what a count of the ranges that come by a second tells.
use Rattle.std.proofs.Common.{◌≡◌, ℕ, zero, suc, ◌-◌, ◌<◌, ◌≤◌, Bool, true, false, cond, ◌&&◌, not, eqb, ltb, List, [], ◌∷◌, length, get_or, map, refl, sym, ap, subst, ◌∙◌, inl, inr, arith}
use Rattle.std.proofs.lemmas.List.{get_or-map, get_or_default, length-map}
use Rattle.std.proofs.lemmas.Map.Keys.{Less-from_sorted}
use Rattle.std.specs.Prelude.{IfSome}
use Rattle.std.specs.List.{find, insert, list_all, list_any, AllByRecursion}
use Rattle.std.specs.List.Sorted.{IsStrictlySortedBy, IsPartitionedBy}
use Rattle.std.specs.Option.{option_map}
use Rattle.std.specs.Ordering.{is_le, ordering_reverse}
use Rattle.std.proofs.lemmas.Bool.Decides.{nat_tests}
use Rattle.std.proofs.lemmas.Bool.{and_parts, not-true, le-ltb, cases_order, cases_lt, both_ways, false_from_ne_true}
use Rattle.std.proofs.lemmas.List.Folds.{list_all_at, list_any_at, list_any_none}
use Rattle.std.specs.declared.option.Option.{Option}
use Rattle.std.specs.declared.option.Option.TheVariants.{Some, None}
use Rattle.std.specs.declared.cmp.Ordering.{Ordering}
use Rattle.std.specs.declared.cmp.Ordering.TheVariants.{Less, Equal, Greater}
use Rattle.sabr_model.specs.declared.contact.Contact.{Contact}
use Rattle.sabr_model.specs.declared.contact.Range.{Range}
use Rattle.sabr_model.specs.plan.Adding.{range_refusal, by_range_key}
use Rattle.sabr_model.specs.Order.{by_key, put_in}
use Rattle.sabr_model.specs.plan.Plan.{ContactPlan, IsPlan, IsWindow, overlap, none_twice, range_key}
use Rattle.sabr_model.specs.plan.Light.{is_within, holds_both_ways, light_of_pair, or_else, light_of}
use Rattle.sabr_model.specs.plan.RangeOrder.{IsRangeList, IsCountUntil}
use Rattle.sabr_model.proofs.PlanLemmas.Deletions.{any_none, all_found}
use Rattle.sabr_model.proofs.PlanLemmas.RangeLemmas.{all_at, accepted_range, insert_is_put, same_key_overlaps}
use Rattle.sabr_model.proofs.PlanLemmas.KeyOrder.{by_key_total, less_is, le_is, is_le_by, by_more}

-- ---- a plan's ranges

-- of two ranges the one in front has the lesser key
sorted_keys : (rs : List Range) (i j : ℕ) (d : Range) → IsStrictlySortedBy by_key (map range_key rs) → i < j → j < length rs → by_range_key (get_or rs i d) (get_or rs j d) ≡ Less
sorted_keys rs i j d sorted lt within =
    let keys = Less-from_sorted by_key (map range_key rs) i j (range_key d) sorted lt (omega (arith, within, length-map rs range_key)) in
    ap (by_key (range_key (get_or rs i d))) (sym (get_or-map range_key rs j d (range_key d) within))
    ∙ ap (λ k. by_key k (get_or (map range_key rs) j (range_key d))) (sym (get_or-map range_key rs i d (range_key d) (omega (arith, lt, within)))) ∙ keys

-- where no two elements pass a test, those at two places don't
pub apart_at : {X : Type 0} (same : X → X → Bool) (xs : List X) (i j : ℕ) (d : X) → none_twice same xs ≡ true → i < j → j < length xs → same (get_or xs i d) (get_or xs j d) ≡ false
apart_at same [] i j d none lt within = absurd (omega arith)
apart_at same (x ∷ xs) i zero d none lt within = absurd (omega arith)
apart_at same (x ∷ xs) zero (suc j) d none lt within =
    let parts = and_parts (not (list_any (same x) xs)) (none_twice same xs) none in
    all_at (λ y. same x y ≡ false) xs j d (any_none (same x) xs (not-true (list_any (same x) xs) parts.0)) (omega arith)
apart_at same (x ∷ xs) (suc i) (suc j) d none lt within = apart_at same xs i j d (and_parts (not (list_any (same x) xs)) (none_twice same xs) none).1 (omega arith) (omega arith)

-- a plan's ranges stand in order and apart
pub range_list : (p : ContactPlan) → IsPlan p → IsRangeList p.ranges
range_list p h = record {
  windows = λ k d lt. (all_at (λ r. IsWindow r.start r.end) p.ranges k d h.range_windows lt).0;
  rises = λ i j d lt within. sorted_keys p.ranges i j d h.ranges_rise lt within;
  apart = λ i j d lt within. apart_at overlap p.ranges i j d h.ranges_apart lt within;
}

-- ---- what a count tells

-- nothing is found where nothing passes
pub find_none : {X : Type 0} (p : X → Bool) (xs : List X) → ((k : ℕ) (d : X) → k < length xs → p (get_or xs k d) ≡ true → ⊥) → find p xs ≡ None
find_none p [] none = refl
find_none p (x ∷ xs) none =
    ap (λ b. cond b (Some x) (find p xs)) (false_from_ne_true (p x) (none zero x (omega arith)))
    ∙ find_none p xs (λ k d lt. none (suc k) d (omega arith))

-- where one place alone can pass, it decides what is found
pub find_only : {X : Type 0} (p : X → Bool) (xs : List X) (i : ℕ) (e : X) → i < length xs → ((k : ℕ) (d : X) → k < length xs → (k ≡ i → ⊥) → p (get_or xs k d) ≡ true → ⊥) → find p xs ≡ cond (p (get_or xs i e)) (Some (get_or xs i e)) None
find_only p [] i e lt none = absurd (omega arith)
find_only p (x ∷ xs) zero e lt none =
    ap (λ o. cond (p x) (Some x) o) (find_none p xs (λ k d within. none (suc k) d (omega arith) (λ q. omega (arith, q))))
find_only p (x ∷ xs) (suc i) e lt none =
    ap (λ b. cond b (Some x) (find p xs)) (false_from_ne_true (p x) (none zero x (omega arith) (λ q. omega (arith, q))))
    ∙ find_only p xs i e (omega arith) (λ k d within ne. none (suc k) d (omega arith) (λ q. ne (omega (arith, q))))

-- where no place passes, none passes
any_from_none : {X : Type 0} (p : X → Bool) (xs : List X) → ((k : ℕ) (d : X) → k < length xs → p (get_or xs k d) ≡ true → ⊥) → list_any p xs ≡ false
any_from_none p xs none = list_any_none p xs (λ k d lt. false_from_ne_true (p (get_or xs k d)) (none k d lt))

-- the test of a range that is in force
abbrev pub in_force : ℕ → ℕ → ℕ → Range → Bool
in_force one other t r = (eqb r.one one) && (eqb r.other other) && is_within r.start r.end t

-- what a range in force is
force_parts : (one other t : ℕ) (r : Range) → in_force one other t r ≡ true → (r.one ≡ one) × (r.other ≡ other) × (r.start ≤ t) × (t < r.end)
force_parts one other t r h = (grind (arith, nat_tests), grind (arith, nat_tests), grind (arith, nat_tests), grind (arith, nat_tests))

-- what overlapping ranges are
pub overlap_parts : (r s : Range) → overlap r s ≡ true → (r.one ≡ s.one) × (r.other ≡ s.other) × (r.start < s.end) × (s.start < r.end)
overlap_parts r s h = (grind (arith, nat_tests), grind (arith, nat_tests), grind (arith, nat_tests), grind (arith, nat_tests))

-- ranges that overlap, from the parts
overlap_from : (r s : Range) → r.one ≡ s.one → r.other ≡ s.other → r.start < s.end → s.start < r.end → overlap r s ≡ true
overlap_from r s one other a b = grind (arith, nat_tests)

-- a range of a pair comes by a second if it starts by then
comes_by : (r : Range) (one other t : ℕ) → r.one ≡ one → r.other ≡ other → r.start ≤ t → is_le (by_key (range_key r) (one, other, t)) ≡ true
comes_by r one other t a b c = is_le_by (range_key r) (one, other, t) (record { first = omega (arith, a); second = λ _. omega (arith, b); third = λ _ _. omega (arith, c) })

-- what comes by a key is in front
pub is_parted : (rs : List Range) (key : ℕ × ℕ × ℕ) → IsRangeList rs → IsPartitionedBy (λ r. is_le (by_key (range_key r) key)) rs
is_parted rs key h i j d le lt late =
    elim (cases_lt i j) [
      | inl less ↦
          let a = less_is (range_key (get_or rs i d)) (range_key (get_or rs j d)) (h.rises i j d less lt) in
          let b = le_is (range_key (get_or rs j d)) key late in
          is_le_by (range_key (get_or rs i d)) key (by_more a b)
      | inr more ↦ let same : i ≡ j = omega (arith, le, more) in rw same late
    ]

-- between two places of one pair all are of that pair
squeezed : (r s : Range) (t : ℕ) → by_range_key r s ≡ Less → is_le (by_key (range_key s) (r.one, r.other, t)) ≡ true → (r.one ≡ s.one) × (r.other ≡ s.other) × (r.start < s.start) × (s.start ≤ t)
squeezed r s t low high =
    let a = less_is (range_key r) (range_key s) low in
    let b = le_is (range_key s) (r.one, r.other, t) high in
    let one : r.one ≡ s.one = omega (arith, a.first, b.first) in
    let other : r.other ≡ s.other = omega (arith, a.second one, b.second (sym one)) in
    (one, other, omega (arith, a.third one other), omega (arith, b.third (sym one) (sym other)))

module _ (rs : List Range) (h : IsRangeList rs) where
  -- two of one pair, the earlier before the later
  earlier_ends : (k j : ℕ) (d : Range) → k < j → j < length rs → (get_or rs k d).one ≡ (get_or rs j d).one → (get_or rs k d).other ≡ (get_or rs j d).other → (get_or rs k d).start < (get_or rs j d).start → (get_or rs k d).end ≤ (get_or rs j d).start
  earlier_ends k j d lt within one other starts =
      let x = get_or rs k d in
      let y = get_or rs j d in
      let window = h.windows j d within in
      elim (cases_lt y.start x.end) [
        | inl less ↦ absurd (both_ways (overlap x y) (h.apart k j d lt within) (overlap_from x y one other (omega (arith, window, starts)) less))
        | inr le ↦ le
      ]

  -- a range in force is the only one of its pair then
  pub told_at : (one other t i : ℕ) (e : Range) (o : Option ℕ) → i < length rs → ((d : Range) → e ≡ get_or rs i d) → o ≡ cond (in_force one other t e) (Some e.light) None → IfSome o (λ l. light_of_pair rs one other t ≡ Some l)
  told_at one other t i e o lt at is = subst (λ (u : Option ℕ). IfSome u (λ l. light_of_pair rs one other t ≡ Some l)) (sym is) (by (in_force one other t e) refl)
    where
      by : (b : Bool) → in_force one other t e ≡ b → IfSome (cond b (Some e.light) None) (λ l. light_of_pair rs one other t ≡ Some l)
      by false _ = tt
      by true now =
          ap (option_map (λ (r : Range). r.light)) (find_only (in_force one other t) rs i e lt (λ k d within ne also.
          let x = get_or rs k d in
          let a = force_parts one other t x also in
          let b = force_parts one other t e now in
          elim (cases_order k i) [
            | inl same ↦ ne same
            | inr (inl less) ↦ both_ways (overlap x e) (rw (at d) (h.apart k i d less lt)) (overlap_from x e (a.0 ∙ sym b.0) (a.1 ∙ sym b.1) (omega (arith, a.2, b.3)) (omega (arith, b.2, a.3)))
            | inr (inr more) ↦ both_ways (overlap e x) (rw (at d) (h.apart i k d more within)) (overlap_from e x (b.0 ∙ sym a.0) (b.1 ∙ sym a.1) (omega (arith, b.2, a.3)) (omega (arith, a.2, b.3)))
          ]))
          ∙ ap (λ r. option_map (λ (r : Range). r.light) (cond (in_force one other t r) (Some r) None)) (sym (at e))
          ∙ ap (λ b. option_map (λ (r : Range). r.light) (cond b (Some e) None)) now

  -- if all are written from the lesser node, none is of a pair that begins with the greater
  pub none_back : (one other t : ℕ) → list_all holds_both_ways rs ≡ true → other ≤ one → light_of_pair rs one other t ≡ None
  none_back one other t rising back =
      ap (option_map (λ (r : Range). r.light)) (find_none (in_force one other t) rs (λ k d lt now.
      let parts = force_parts one other t (get_or rs k d) now in
      let here = list_all_at holds_both_ways rs k d lt (le-ltb _ _ (omega (arith, parts.0, parts.1, back))) in
      both_ways (list_all holds_both_ways rs) here rising))

  -- no range gives a light time where none comes by then
  pub light_none : (one other t count : ℕ) → IsCountUntil rs (one, other, t) count → count ≡ 0 → light_of_pair rs one other t ≡ None
  light_none one other t count c e =
      ap (option_map (λ (r : Range). r.light)) (find_none (in_force one other t) rs (λ k d lt now.
      let parts = force_parts one other t (get_or rs k d) now in
      both_ways _ (c.point.1 k d (omega (arith, e)) lt) (comes_by (get_or rs k d) one other t parts.0 parts.1 parts.2)))

  -- of those that come by then only the last can be in force
  pub light_told : (one other t count : ℕ) (e : Range) → IsCountUntil rs (one, other, t) count → (count ≡ 0 → ⊥) → light_of_pair rs one other t ≡ cond (in_force one other t (get_or rs (count - 1) e)) (Some (get_or rs (count - 1) e).light) None
  light_told one other t count e c ne =
      let most = c.within in
      ap (option_map (λ (r : Range). r.light)) (find_only (in_force one other t) rs (count - 1) e (omega (arith, most, ne)) (λ k d lt differs now.
      let x = get_or rs k d in
      let y = get_or rs (count - 1) d in
      let parts = force_parts one other t x now in
      elim (cases_lt k (count - 1)) [
        | inl less ↦
            let high = c.point.0 (count - 1) d (omega arith) (omega (arith, ne)) in
            let s = squeezed x y t (h.rises k (count - 1) d less (omega (arith, most, ne))) (rw (parts.0, parts.1) high) in
            let ends = earlier_ends k (count - 1) d less (omega (arith, most, ne)) s.0 s.1 s.2 in
            omega (arith, ends, parts.3, s.3)
        | inr le ↦ both_ways _ (c.point.1 k d (omega (arith, le, differs)) lt) (comes_by x one other t parts.0 parts.1 parts.2)
      ]))
      ∙ elim (in_force one other t (get_or rs (count - 1) e)) as (λ b. option_map (λ (r : Range). r.light) (cond b (Some (get_or rs (count - 1) e)) None) ≡ cond b (Some (get_or rs (count - 1) e).light) None) [ true ↦ refl | false ↦ refl ]

  starts_by : (r x : Range) → overlap r x ≡ true → is_le (by_key (range_key x) (r.one, r.other, r.end - 1)) ≡ true
  starts_by r x both = let parts = overlap_parts r x both in comes_by x r.one r.other (r.end - 1) (sym parts.0) (sym parts.1) (omega (arith, parts.3))

  -- no range overlaps where none begins before its end
  pub overlap_none : (r : Range) (count : ℕ) → IsCountUntil rs (r.one, r.other, r.end - 1) count → count ≡ 0 → list_any (overlap r) rs ≡ false
  overlap_none r count c e = any_from_none (overlap r) rs (λ k d lt both. both_ways _ (c.point.1 k d (omega (arith, e)) lt) (starts_by r (get_or rs k d) both))

  -- of those that begin before its end the last overlaps where any does
  pub overlap_told : (r : Range) (count : ℕ) (e : Range) → IsCountUntil rs (r.one, r.other, r.end - 1) count → (count ≡ 0 → ⊥) → list_any (overlap r) rs ≡ overlap r (get_or rs (count - 1) e)
  overlap_told r count e c ne = by (overlap r (get_or rs (count - 1) e)) refl
    where
      by : (b : Bool) → overlap r (get_or rs (count - 1) e) ≡ b → list_any (overlap r) rs ≡ overlap r (get_or rs (count - 1) e)
      by true here = list_any_at (overlap r) rs (count - 1) e (let w = c.within in omega (arith, w, ne)) here ∙ sym here
      by false not_here =
          any_from_none (overlap r) rs (λ k d lt both.
          let most = c.within in
          let x = get_or rs k d in
          let y = get_or rs (count - 1) d in
          let parts = overlap_parts r x both in
          let fails : overlap r y ≡ false = ap (overlap r) (get_or_default rs (count - 1) d e (omega (arith, most, ne))) ∙ not_here in
          elim (cases_order k (count - 1)) [
            | inl same ↦ both_ways (overlap r y) fails (ap (λ i. overlap r (get_or rs i d)) (sym same) ∙ both)
            | inr (inl less) ↦
                let high = c.point.0 (count - 1) d (omega arith) (omega (arith, ne)) in
                let s = squeezed x y (r.end - 1) (h.rises k (count - 1) d less (omega (arith, most, ne))) (rw (← parts.0, ← parts.1) high) in
                let ends = earlier_ends k (count - 1) d less (omega (arith, most, ne)) s.0 s.1 s.2 in
                let last = h.windows (count - 1) d (omega (arith, most, ne)) in
                both_ways (overlap r y) fails (overlap_from r y (parts.0 ∙ s.0) (parts.1 ∙ s.1) (omega (arith, parts.2, ends, last)) (omega (arith, s.3, parts.3)))
            | inr (inr more) ↦ both_ways _ (c.point.1 k d (omega (arith, more)) lt) (starts_by r x both)
          ])
          ∙ sym not_here

-- ---- light times

light_limit : (p : ContactPlan) (one other t : ℕ) → AllByRecursion (λ r. r.light ≤ 1000000) p.ranges → IfSome (light_of_pair p.ranges one other t) (λ l. l ≤ 1000000)
light_limit p one other t h =
    elim (find (in_force one other t) p.ranges) as (λ o. find (in_force one other t) p.ranges ≡ o → IfSome (option_map (λ (r : Range). r.light) o) (λ l. l ≤ 1000000)) [ None ↦ λ _. tt | Some r ↦ λ e. all_found (λ s. s.light ≤ 1000000) (in_force one other t) p.ranges r h e ] refl

-- the first of two values, each within the limit, is within it
or_else_limit : (o u : Option ℕ) → IfSome o (λ l. l ≤ 1000000) → IfSome u (λ l. l ≤ 1000000) → IfSome (or_else o u) (λ l. l ≤ 1000000)
or_else_limit None u a b = b
or_else_limit (Some x) u a b = a

-- a contact's light time is within the limit, as those of all ranges are
pub light_of_small : (p : ContactPlan) (c : Contact) → AllByRecursion (λ r. r.light ≤ 1000000) p.ranges → IfSome (light_of p c) (λ l. l ≤ 1000000)
light_of_small p c h =
    or_else_limit (light_of_pair p.ranges c.from c.to c.start) (cond (ltb c.to c.from) (light_of_pair p.ranges c.to c.from c.start) None)
    (light_limit p c.from c.to c.start h)
    (elim (ltb c.to c.from) as (λ b. IfSome (cond b (light_of_pair p.ranges c.to c.from c.start) None) (λ l. l ≤ 1000000)) [ true ↦ light_limit p c.to c.from c.start h | false ↦ tt ])

pub light_of_limit : (p : ContactPlan) (c : Contact) → IsPlan p → IfSome (light_of p c) (λ l. l ≤ 1000000)
light_of_limit p c h = light_of_small p c h.lights

-- ---- where a range goes

-- what comes no later, and doesn't tie, comes before; what doesn't comes after
turned_after : (o : Ordering) → is_le o ≡ true → (o ≡ Equal → ⊥) → ordering_reverse o ≡ Greater
turned_after o le apart = elim o as (λ o. is_le o ≡ true → (o ≡ Equal → ⊥) → ordering_reverse o ≡ Greater) [ Less ↦ λ _ _. refl | Equal ↦ λ _ no. absurd (no refl) | Greater ↦ λ e _. absurd cc ] le apart

turned_before : (o : Ordering) → is_le o ≡ false → ordering_reverse o ≡ Less
turned_before o late = elim o as (λ o. is_le o ≡ false → ordering_reverse o ≡ Less) [ Less ↦ λ e. absurd cc | Equal ↦ λ e. absurd cc | Greater ↦ λ _. refl ] late

-- after those that come by its pair and start
pub count_is_put : (p : ContactPlan) (r : Range) (i : ℕ) → IsPlan p → range_refusal p r ≡ None → IsCountUntil p.ranges (range_key r) i → insert p.ranges i r ≡ put_in by_range_key r p.ranges
count_is_put p r i h accept c =
    let rs = p.ranges in
    let a = accepted_range p r accept in
    let compared = λ (x : Range). by_key_total.antisymm (range_key r) (range_key x) in
    insert_is_put by_range_key r rs i c.within
    (λ k lt.
    let x = get_or rs k r in
    let within : k < length rs = let most = c.within in omega (arith, lt, most) in
    compared x ∙ turned_after (by_range_key x r) (c.point.0 k r (omega arith) lt)
    (λ e. both_ways (list_any (overlap r) rs) a.new
    (list_any_at (overlap r) rs k r within (same_key_overlaps r x a.window ((range_list p h).windows k r within) (compared x ∙ ap ordering_reverse e)))))
    (λ lt. compared (get_or rs i r) ∙ turned_before (by_range_key (get_or rs i r) r) (c.point.1 i r (omega arith) lt))
