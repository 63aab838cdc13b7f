-- A tree of ranges by their keys: what it holds after a change, and which of its ranges a range can overlap.
use Rattle.sabr_plan.proofs.Names.{◌≡◌, ℕ, ◌+◌, ◌<◌, ◌≤◌, Bool, true, false, not, List, [], ◌∷◌, ◌++◌, length, get_or, drop, map, filter, refl, sym, ap, subst, ◌∙◌, inl, inr, length-drop, arith, is_some, option_map, slice_get, list_any, AllByRecursion, length_permutation, BTreeMap, get, insert_entry, is_at, values, match_ordering, is_lt, Option, Some, None, cases_order, cases_Bool, both_ways, false_from_ne_true, nat_tests, same_Some, slice_get-map, slice_get-get_or, slice_get_within, length-map, drop_more, get_or-drop, get_or_default, list_any_at, or_from_places, Range, by_key, put_in, IsPlan, IsNode, last_time, overlap, range_key, begins, by_range_key, range_refusal, IsBy, by_key_total, less_is, not_less_is, not_both, range_list, accepted_range, IsPlan-range, IsPlan-fewer_ranges}
use Rattle.std.specs.List.Sorted.{IsStrictlySortedBy}
use Rattle.std.specs.Map.{lookup, remove_entry, keys_of, values_of}
use Rattle.std.specs.BTreeMap.Range.{IsRangeOf}
use Rattle.std.specs.declared.ops.Bound.TheVariants.{Excluded, Unbounded}
use Rattle.std.specs.declared.cmp.Ordering.TheVariants.{Less, Equal}
use Rattle.std.proofs.lemmas.Map.Entries.{lookup_head, lookup_tail, place_from_lookup, btree_map_get_place}
use Rattle.sabr_model.specs.plan.RangeOrder.{IsRangeList}
use Rattle.sabr_plan.specs.Gathering.{keyed, plan_of_ranges, IsRangeTree}
use Rattle.sabr_plan.proofs.SortedRanges.{no_range, no_tie, moved_by_put, all_from_places}

abbrev Key : Type 0
Key = ℕ × ℕ × ℕ

keyed_parts : (rs : List Range) → (values_of (map keyed rs) ≡ rs) × (keys_of (map keyed rs) ≡ map range_key rs)
keyed_parts [] = (refl, refl)
keyed_parts (r ∷ rs) = let h = keyed_parts rs in (ap (λ xs. r ∷ xs) h.0, ap (λ ks. range_key r ∷ ks) h.1)

-- ---- one more

insert_keyed : (r : Range) (rs : List Range) → AllByRecursion (λ s. by_range_key r s ≡ Equal → ⊥) rs → insert_entry by_key (map keyed rs) (range_key r) r ≡ map keyed (put_in by_range_key r rs)
insert_keyed r [] none = refl
insert_keyed r (s ∷ rs) none = grind (arith, nat_tests, none.0, insert_keyed r rs none.1)

-- ---- one less

module _ (one other start : ℕ) where
  abbrev p : Range → Bool
  p = begins one other start

  abbrev test : Key → Bool
  test = is_at (by_key (one, other, start))

  -- a range is found by what it begins with
  tied : (r : Range) → p r ≡ test (range_key r)
  tied r = grind (arith, nat_tests)

  parts : (r : Range) → p r ≡ true → (one ≡ r.one) × (other ≡ r.other) × (start ≡ r.start)
  parts r h = grind (arith, nat_tests)

  -- of two with different keys only one begins so
  apart : (r s : Range) → p r ≡ true → p s ≡ true → by_range_key r s ≡ Less → ⊥
  apart r s a b less = grind (arith, nat_tests)

  -- after one that begins so, none does
  none_after : (r : Range) (rs : List Range) → p r ≡ true → AllByRecursion (λ k. by_key (range_key r) k ≡ Less) (map range_key rs) → filter (λ s. not (p s)) rs ≡ rs
  none_after r [] here all = refl
  none_after r (s ∷ rs) here all = grind (arith, nat_tests, none_after r rs here all.1, apart r s)

  -- without the one that begins so none is left
  remove_keyed : (rs : List Range) → IsStrictlySortedBy by_key (map range_key rs) → remove_entry test (map keyed rs) ≡ map keyed (filter (λ s. not (p s)) rs)
  unfolding IsStrictlySortedBy
  remove_keyed [] sorted = refl
  remove_keyed (r ∷ rs) sorted = grind (arith, nat_tests, tied r, none_after r rs, remove_keyed rs)

  any_found : (rs : List Range) → list_any p rs ≡ is_some (lookup test (map keyed rs))
  any_found [] = refl
  any_found (r ∷ rs) = grind (arith, nat_tests, tied r, any_found rs, lookup_head test (keyed r) (map keyed rs), lookup_tail test (keyed r) (map keyed rs))

-- ---- the last that begins before an end

-- between a range that it overlaps and its end it overlaps each
squeezed : (r x s : Range) → overlap r x ≡ true → IsBy 0 (range_key x) (range_key s) → IsBy 1 (range_key s) (r.one, r.other, r.end) → s.start < s.end → overlap x s ≡ false → overlap r s ≡ true
squeezed r x s both up low window apart = grind (arith, nat_tests, up.first, up.second, up.third, low.first, low.second, low.third)

module _ (m : BTreeMap Key Range) (rs : List Range) (holds : m.entries ≡ map keyed rs) (sorted : IsStrictlySortedBy by_key (map range_key rs)) (h : IsRangeList rs) (r : Range) (span : List (Key × Range)) (lies : IsRangeOf by_key Unbounded (Excluded (r.one, r.other, r.end)) m span) where
  abbrev bound : Key
  bound = (r.one, r.other, r.end)

  -- each range is found by its key
  there : (k : ℕ) (d : Range) → k < length rs → get by_key m (range_key (get_or rs k d)) ≡ Some (get_or rs k d)
  there k d lt =
      let ordered = subst (IsStrictlySortedBy by_key) (sym (ap keys_of holds ∙ (keyed_parts rs).1)) sorted in
      btree_map_get_place by_key_total m k (range_key (get_or rs k d)) (get_or rs k d) ordered (ap (λ es. slice_get es k) holds ∙ slice_get-map keyed rs k ∙ ap (option_map keyed) (slice_get-get_or rs k d lt))

  -- what it overlaps begins before its end
  before_end : (x : Range) → overlap r x ≡ true → by_key (range_key x) bound ≡ Less
  before_end x both = grind (arith, nat_tests)

  -- where none begins before its end, it overlaps none
  pub overlaps_no_range : span ≡ [] → list_any (overlap r) rs ≡ false
  overlaps_no_range is =
      or_from_places (list_any (overlap r)) (overlap r) refl (λ x ys. refl) rs no_range (λ k lt.
      let x = get_or rs k no_range in
      grind (arith, nat_tests, before_end x, lies.5 is (range_key x), there k no_range lt))

  -- the others overlap only if the last of these does
  pub overlaps_last : (t : List (Key × Range)) (e : Key × Range) → span ≡ t ++ e ∷ [] → list_any (overlap r) rs ≡ overlap r e.1
  overlaps_last t e is =
      let own = lies.3 e t is in
      let found = place_from_lookup (is_at (by_key e.0)) (map keyed rs) e.1 (sym (ap (lookup (is_at (by_key e.0))) holds) ∙ own.1) in
      let i = found.0 in
      let lt : i < length rs = let low = slice_get_within (map keyed rs) i (found.1, e.1) found.2 in omega (arith, low, length-map rs keyed) in
      let same : keyed (get_or rs i no_range) ≡ (found.1, e.1) = same_Some _ _ (sym (slice_get-map keyed rs i ∙ ap (option_map keyed) (slice_get-get_or rs i no_range lt)) ∙ found.2) in
      let at : get_or rs i no_range ≡ e.1 = ap (λ x. x.1) same in
      let named : range_key e.1 ≡ found.1 = sym (ap range_key at) ∙ ap (λ x. x.0) same in
      let key = parts e.0.0 e.0.1 e.0.2 e.1 (tied e.0.0 e.0.1 e.0.2 e.1 ∙ ap (is_at (by_key e.0)) named ∙ found.3) in
      let key_is : e.0 ≡ range_key e.1 = λ j. (key.0 j, key.1 j, key.2 j) in
      let low = less_is (range_key e.1) bound (subst (λ x. by_key x bound ≡ Less) key_is own.0.1) in
      elim (cases_Bool (overlap r e.1)) [
        | inl meets ↦ list_any_at (overlap r) rs i no_range lt (ap (overlap r) at ∙ meets) ∙ sym meets
        | inr apart ↦
            or_from_places (list_any (overlap r)) (overlap r) refl (λ x ys. refl) rs no_range (λ k less.
            false_from_ne_true (overlap r (get_or rs k no_range)) (λ both.
            let x = get_or rs k no_range in
            let greatest = lies.4 e t is (range_key x) (tt, before_end x both) (ap is_some (there k no_range less)) in
            let up = not_less_is (range_key e.1) (range_key x) (subst (λ y. is_lt (by_key y (range_key x)) ≡ false) key_is greatest) in
            elim (cases_order k i) [
              | inl same ↦ both_ways (overlap r e.1) apart (sym (ap (overlap r) (ap (λ j. get_or rs j no_range) same ∙ at)) ∙ both)
              | inr (inl before) ↦
                  both_ways (overlap r e.1) apart (squeezed r x e.1 both up low
                  (subst (λ y. y.start < y.end) at (h.windows i no_range lt)) (subst (λ y. overlap x y ≡ false) at (h.apart k i no_range before lt)))
              | inr (inr after) ↦ not_both up (less_is (range_key e.1) (range_key x) (subst (λ y. by_range_key y x ≡ Less) at (h.rises i k no_range after less)))
            ]))
            ∙ sym apart
      ]

-- ---- trees

-- a tree of a plan's ranges
pub tree_of : (m : BTreeMap Key Range) (rs : List Range) → m.entries ≡ map keyed rs → IsPlan (plan_of_ranges rs) → IsRangeTree m × (values m ≡ rs)
tree_of m rs is plan =
    let same : values m ≡ rs = ap values_of is ∙ (keyed_parts rs).0 in
    ((is ∙ ap (map keyed) (sym same), subst (λ xs. IsPlan (plan_of_ranges xs)) (sym same) plan), same)

-- a range goes before those that come after it
insert_first : (r : Range) (ys : List Range) → AllByRecursion (λ s. by_range_key r s ≡ Less) ys → insert_entry by_key (map keyed ys) (range_key r) r ≡ map keyed (r ∷ ys)
insert_first r [] all = refl
insert_first r (s ∷ ys) all = ap (λ o. match_ordering o (keyed r ∷ keyed s ∷ map keyed ys) ((range_key s, r) ∷ map keyed ys) (keyed s ∷ insert_entry by_key (map keyed ys) (range_key r) r)) all.0

-- the ranges in order go in, the last one first
pub planted_more : (rs : List Range) (k : ℕ) (d : Range) (es : List (Key × Range)) → IsPlan (plan_of_ranges rs) → k < length rs → es ≡ map keyed (drop (k + 1) rs) → insert_entry by_key es (range_key (get_or rs k d)) (get_or rs k d) ≡ map keyed (drop k rs)
planted_more rs k d es plan lt is =
    let r = get_or rs k d in
    let h = range_list (plan_of_ranges rs) plan in
    let after = all_from_places (λ s. by_range_key r s ≡ Less) (drop (k + 1) rs) (λ i e less.
    let within : k + 1 + i < length rs = omega (arith, less, length-drop (k + 1) rs) in
    rw (get_or-drop (k + 1) rs i e, ← get_or_default rs k e d lt) (h.rises k (k + 1 + i) e (omega arith) within)) in
    ap (λ xs. insert_entry by_key xs (range_key r) r) is ∙ insert_first r (drop (k + 1) rs) after ∙ ap (map keyed) (sym (drop_more rs k d lt))

module _ (m n : BTreeMap Key Range) (h : IsRangeTree m) where
  abbrev rs : List Range
  rs = values m

  -- no change
  pub tree_stays : n.entries ≡ m.entries → IsRangeTree n
  tree_stays is = (tree_of n rs (is ∙ h.0) h.1).0

  -- one more
  pub tree_more : (r : Range) (ys : List Range) → rs ≡ ys → IsNode r.one → IsNode r.other → r.end ≤ last_time → r.light ≤ 1000000 → range_refusal (plan_of_ranges ys) r ≡ None
      → (key : Key) → key ≡ range_key r → n.entries ≡ insert_entry by_key m.entries key r → IsRangeTree n × (values n ≡ put_in by_range_key r ys) × (length (values n) ≡ length ys + 1)
  tree_more r ys same one other ends light accept key at is =
      let plan = subst (λ xs. IsPlan (plan_of_ranges xs)) same h.1 in
      let a = accepted_range (plan_of_ranges ys) r accept in
      let ties = no_tie r ys a.window plan.range_windows a.new in
      let entries = is ∙ ap (λ k. insert_entry by_key m.entries k r) at ∙ ap (λ es. insert_entry by_key es (range_key r) r) (h.0 ∙ ap (map keyed) same) ∙ insert_keyed r ys ties in
      let made = tree_of n (put_in by_range_key r ys) entries (IsPlan-range (plan_of_ranges ys) r plan one other ends light accept) in
      let longer = length_permutation (r ∷ ys) (put_in by_range_key r ys) (moved_by_put r ys ties) in
      (made.0, made.1, omega (arith, ap length made.1, longer))

  -- one less
  pub tree_less : (one other start : ℕ) → n.entries ≡ remove_entry (is_at (by_key (one, other, start))) m.entries → IsRangeTree n × (values n ≡ filter (λ r. not (begins one other start r)) rs)
  tree_less one other start is =
      let stays = λ (r : Range). not (begins one other start r) in
      tree_of n (filter stays rs)
      (is ∙ ap (remove_entry (is_at (by_key (one, other, start)))) h.0 ∙ remove_keyed one other start rs h.1.ranges_rise)
      (IsPlan-fewer_ranges (plan_of_ranges rs) stays h.1)

  -- what is found
  pub tree_has : (one other start : ℕ) (all : List Range) (o : Option Range) → rs ≡ all → o ≡ lookup (is_at (by_key (one, other, start))) m.entries → list_any (begins one other start) all ≡ is_some o
  tree_has one other start all o same is = grind (arith, any_found one other start rs, h.0)
