use Rattle.std.proofs.Common.{◌≡◌, ◌<◌, ◌-◌, ◌+◌, ◌++◌, ◌∷◌, [], ℕ, List, length, get_or, take, drop, refl, sym, ap, subst, ◌∙◌, arith, length-append, append_assoc, map, All}
use Rattle.std.specs.Prelude.{IsPermutation}
use borrow.Rule.Slice.PartMut.{put_mid}
use Rattle.std.proofs.lemmas.List.{get_or_default, length-map, map-append, take-map, drop-map}
use Rattle.std.proofs.lemmas.List.Edits.{get_or-between, length-between}
use Rattle.std.proofs.lemmas.List.Elements.{All-append, All-take, All-drop}
use Rattle.std.proofs.lemmas.List.Sorted.{IsPermutation-put_mid, IsPermutation-trans, length_permutation}
use Rattle.std.proofs.lemmas.Slice.{between-put_mid}
use Rattle.sabr_index.specs.declared.link.Link.{Link}
use Rattle.sabr_index.specs.declared.link.Pass.{Pass}
use Rattle.sabr_index.specs.Links.{AreInOrder, AreInRows, AreWithin, IsRow, passes_over}
use Rattle.sabr_index.specs.Linking.{IsBounded, contact_of}
use Rattle.sabr_index.proofs.LinkLemmas.{all_moved, rows_kept, rows_more}
use Rattle.sabr_index.proofs.building.link_rows.Goals as goal

-- the contacts are the same when those of a part were moved
part_moved : (xs row : List Pass) (first n : ℕ) → IsPermutation (map contact_of (take n (drop first xs))) (map contact_of row) → IsPermutation (map contact_of xs) (map contact_of (put_mid first n xs row))
part_moved xs row first n moved =
    rw (map-append contact_of (take first xs) (row ++ drop n (drop first xs)), map-append contact_of row (drop n (drop first xs)), ← take-map contact_of first xs, ← drop-map contact_of n (drop first xs), ← drop-map contact_of first xs)
    (IsPermutation-put_mid first n (map contact_of xs) (map contact_of row) (rw (drop-map contact_of first xs, take-map contact_of n (drop first xs)) moved))

pub loop-first-preserved : goal.loop-first-preserved
loop-first-preserved g c =
    let none : Pass = record { number = 0; receiver = 0; light = 0; start = 0; end = 0; latest_end = 0; least_light_before = 0; least_light_after = 0; least_number_after = 0; next_numbers = 0 } in
    let h = c.loop-first.invariant in
    let is = c.order_row-bounds.ensures in
    let xs = c.loop-first.passes in
    let first = c.loop-first.first in
    let end = c.end_of_row-end.result in
    let n = end - first in
    let part = take n (drop first xs) in
    let row = c.order_row-bounds.new.row in
    let ys = put_mid first n xs row in
    let l : Link = record { receiver = (get_or xs first none).receiver; first = first; end = end; bounds = c.order_row-bounds.result } in
    let moved = part_moved xs row first n is.moved in
    let many : length ys ≡ length xs = (let same = length_permutation (map contact_of xs) (map contact_of ys) moved in omega (arith, same, length-map xs contact_of, length-map ys contact_of)) in
    let of_part : length part ≡ n = length-between xs first end c.end_of_row-end.ensures.within in
    let of_row : length row ≡ n = (let same = length_permutation (map contact_of part) (map contact_of row) is.moved in omega (arith, same, length-map part contact_of, length-map row contact_of, of_part)) in
    let over : passes_over ys l ≡ row = between-put_mid first n xs row end h.within of_row in
    let alike = all_moved (λ x. x.receiver ≡ l.receiver) (λ x y same to. ap (λ (z : Pass). z.receiver) same ∙ to) part row is.moved (λ k d lt.
    let within : first + k < end = omega (arith, lt, of_part) in
    ap (λ (z : Pass). z.receiver) (get_or-between xs first end k d within)
    ∙ c.end_of_row-end.ensures.alike (first + k) d (omega arith) within
    ∙ ap (λ (z : Pass). z.receiver) (get_or_default xs first d none c.loop-first-test.true)) in
    let link : IsRow ys l = record {
      filled = c.end_of_row-end.ensures.filled;
      ends = omega (arith, many, c.end_of_row-end.ensures.within);
      alike = subst (All (λ x. x.receiver ≡ l.receiver)) (sym over) alike;
      kept = subst AreInOrder (sym over) is.ordered;
      in_rows = subst AreInRows (sym over) is.in_rows;
      within = subst (AreWithin l.bounds) (sym over) is.within;
    } in
    record {
      within = omega (arith, many, c.end_of_row-end.ensures.within);
      bounded = All-append IsBounded (take first xs) (row ++ drop n (drop first xs)) (All-take IsBounded first xs h.bounded) (All-append IsBounded row (drop n (drop first xs)) is.bounded (All-drop IsBounded n (drop first xs) (All-drop IsBounded first xs h.bounded)));
      moved = IsPermutation-trans _ _ _ h.moved moved;
      rows = (
        h.rows.0 ++ l ∷ [],
        (c.in_ok-push.ensures {u = tt}).items ∙ ap (λ (ls : List Link). ls ++ l ∷ []) h.rows.1 ∙ append_assoc _ h.rows.0 (l ∷ []),
        rows_more ys h.rows.0 l first (rows_kept xs row h.rows.0 first n h.within many h.rows.2) refl link,
        (let few = h.rows.3 in omega (arith, few, length-append h.rows.0 (l ∷ []), c.end_of_row-end.ensures.filled)),
      );
    }
