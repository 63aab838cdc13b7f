-- The parts of nodes in the lists of all links and passes.
use Rattle.std.proofs.Common.{◌≡◌, ℕ, ◌+◌, ◌-◌, ◌<◌, ◌≤◌, List, [], ◌∷◌, ◌++◌, get_or, length, length-take, take, drop, refl, sym, ap, ◌∙◌, arith, length-append, length-drop}
use Rattle.std.proofs.lemmas.List.{drop_at, drop-append-le, take-append-le, map-append, length-map, get_or-map, get_or_default, get_or-take, get_or-drop}
use Rattle.std.proofs.lemmas.List.Elements.{All-head, All-tail, All-push, All-weaker}
use Rattle.std.proofs.lemmas.Slice.{between_to_end}
use Rattle.sabr_model.specs.plan.Plan.{TabledPlan}
use Rattle.sabr_index.specs.declared.link.Link.{Link}
use Rattle.sabr_index.specs.declared.link.Pass.{Pass}
use Rattle.sabr_index.specs.declared.table.NodePart.{NodePart}
use Rattle.sabr_index.specs.Links.{NodeLinks}
use Rattle.sabr_index.specs.Incoming.{links_of, no_link}
use Rattle.sabr_index.specs.Linking.{part_of, parts_of, LiesIn, AreParts, IsPartMore}

module _ {X : Type 0} where
  -- a part is the same in a longer list
  same_part : (xs ys : List X) (first end : ℕ) → first ≤ end → end ≤ length xs → take (end - first) (drop first (xs ++ ys)) ≡ take (end - first) (drop first xs)
  same_part xs ys first end rise within =
      ap (take (end - first)) (drop-append-le first xs ys (omega (arith, rise, within))) ∙ take-append-le (end - first) (drop first xs) ys (omega (arith, length-drop first xs, within))

  -- what was added is a part
  own_part : (xs ys all : List X) (first end : ℕ) → all ≡ xs ++ ys → first ≡ length xs → end ≡ length all → take (end - first) (drop first all) ≡ ys
  own_part xs ys all first end are first_is end_is = between_to_end all first end (omega (arith, end_is)) ∙ ap (drop first) are ∙ drop_at xs ys first (sym first_is)

-- the parts are the same in longer lists
parts_same : (nodes : List NodePart) (links more : List Link) (passes others : List Pass) → AreParts nodes links passes → parts_of nodes (links ++ more) (passes ++ others) ≡ parts_of nodes links passes
parts_same [] links more passes others lie = refl
parts_same (n ∷ ns) links more passes others lie =
    let h = All-head (LiesIn (length links) (length passes)) n ns lie in
    rw (same_part links more n.first_link n.end_link h.links_rise h.links_end, same_part passes others n.first_pass n.end_pass h.passes_rise h.passes_end, parts_same ns links more passes others (All-tail (LiesIn (length links) (length passes)) n ns lie)) refl

-- a part more
pub part_more : (p : TabledPlan) (numbers : List ℕ) (nodes : List NodePart) (links new_links : List Link) (passes new_passes : List Pass) (n : NodePart) → AreParts nodes links passes → (h : IsPartMore p numbers links new_links passes new_passes n)
    → (parts_of (nodes ++ n ∷ []) new_links new_passes ≡ parts_of nodes links passes ++ h.own ∷ []) × AreParts (nodes ++ n ∷ []) new_links new_passes
part_more p numbers nodes links new_links passes new_passes n lie h =
    let many_links : length new_links ≡ length links + length h.own.links = ap (λ (ls : List Link). length ls) h.links_are ∙ length-append links h.own.links in
    let many_passes : length new_passes ≡ length passes + length h.own.passes = ap (λ (ps : List Pass). length ps) h.passes_are ∙ length-append passes h.own.passes in
    let old : parts_of nodes new_links new_passes ≡ parts_of nodes links passes =
    ap (λ (ls : List Link). parts_of nodes ls new_passes) h.links_are ∙ ap (parts_of nodes (links ++ h.own.links)) h.passes_are ∙ parts_same nodes links h.own.links passes h.own.passes lie in
    let own_links = own_part links h.own.links new_links n.first_link n.end_link h.links_are h.first_link h.end_link in
    let own_passes = own_part passes h.own.passes new_passes n.first_pass n.end_pass h.passes_are h.first_pass h.end_pass in (
      rw (map-append (part_of new_links new_passes) nodes (n ∷ []), old, own_links, own_passes) refl,
      All-push (LiesIn (length new_links) (length new_passes)) nodes n
          (All-weaker (LiesIn (length links) (length passes)) (LiesIn (length new_links) (length new_passes))
          (λ m l. record { links_rise = l.links_rise; links_end = omega (arith, l.links_end, many_links); passes_rise = l.passes_rise; passes_end = omega (arith, l.passes_end, many_passes) }) nodes lie)
          (record { links_rise = omega (arith, h.first_link, h.end_link, many_links); links_end = omega (arith, h.end_link); passes_rise = omega (arith, h.first_pass, h.end_pass, many_passes); passes_end = omega (arith, h.end_pass) }),
    )

-- the link at a place of a node's part
pub link_in_part : (nodes : List NodePart) (links : List Link) (passes : List Pass) (index place : ℕ) (n : NodePart) (l : Link) → index < length (parts_of nodes links passes) → place < length (links_of (parts_of nodes links passes) index) → n ≡ get_or nodes index n
    → l ≡ get_or links (n.first_link + place) l → l ≡ get_or (links_of (parts_of nodes links passes) index) place no_link
link_in_part nodes links passes index place n l inside there at_n at_l =
    let lt : index < length nodes = omega (arith, inside, length-map nodes (part_of links passes)) in
    let rest = drop n.first_link links in
    let count = n.end_link - n.first_link in
    let is : links_of (parts_of nodes links passes) index ≡ take count rest =
    ap (λ (s : NodeLinks). s.links) (get_or-map (part_of links passes) nodes index n (record { links = []; passes = [] }) lt) ∙ ap (λ (m : NodePart). take (m.end_link - m.first_link) (drop m.first_link links)) (sym at_n) in
    let many = ap (λ (ls : List Link). length ls) is in
    let within : place < count = omega (arith, there, many, length-take count rest) in
    let lies : n.first_link + place < length links = omega (arith, there, many, length-take count rest, length-drop n.first_link links) in
    at_l
    ∙ get_or_default links (n.first_link + place) l no_link lies
    ∙ sym (get_or-drop n.first_link links place no_link)
    ∙ sym (get_or-take count rest place no_link within)
    ∙ ap (λ (ls : List Link). get_or ls place no_link) (sym is)
