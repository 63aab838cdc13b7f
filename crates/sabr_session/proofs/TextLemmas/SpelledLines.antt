-- The lines of a session text, as they are spelled: the first six say what they were written of, the others the parts.
use Rattle.std.proofs.Common.{◌≡◌, ℕ, ◌<◌, ◌≤◌, ◌^◌, true, false, ◌&&◌, not, eqb, leb, List, [], ◌∷◌, ◌++◌, length, rules, refl, sym, ap, ◌∙◌, arith, append-nil, decimal, codes, Ok, ◌+◌, ◌*◌, append_assoc, length-append, map, subst, unwrap_or, Option}
use Rattle.std.specs.List.{AllByRecursion, concat}
use Rattle.std.proofs.lemmas.Bool.{and_parts, le-ltb, leb-true, ne_eqb, lt-ltb, eq-eqb}
use Rattle.std.specs.declared.option.Option.TheVariants.{Some, None}
use Rattle.hex.specs.Hex.{encode_lower}
use Rattle.sha2.specs.Sha256.{sha256}
use Rattle.sabr_model.specs.plan.Plan.{IsNode, last_time, rises_above, has, ContactPlan}
use Rattle.sabr_model.specs.routes.Arrival.{RouteRequest}
use Rattle.sabr_model.specs.routes.Asking.{most_hops, most_margin, request_refusal, limit_refusal, unlimited, IsRequest}
use Rattle.sabr_plan.specs.Times.{time_text_of}
use Rattle.sabr_plan.proofs.Spelling.{time_of-text}
use Rattle.sabr_session.specs.SessionText.{list_text, spaced_by, IsUnlimited}
use Rattle.sabr_session.specs.SessionWords.{words_of, nodes_of, contacts_of, most_number}
use Rattle.sabr_plan.specs.Numbers.{number_within}
use Rattle.sabr_session.specs.SessionLines.{digest_named, request_of, emitted_of, last_listed, count_of, after_label, carried_of, part_of}
use Rattle.sabr_session.specs.SessionRead.{asked, Said, rise_strictly, comes_after, may_carry, line_said, read_lines}
use Rattle.sabr_session.specs.declared.reading.first_lines.Version.TheVariants.{One, Two}
use Rattle.sabr_model.specs.declared.request_values.RequestValues.{RequestValues}
use Rattle.sabr_session.proofs.WordLemmas.SpacedWords.{label-front, three_lists}
use Rattle.sabr_plan.proofs.SpelledNumbers.{same_text, number_within-spelled_within}
use Rattle.sabr_session.proofs.WordLemmas.SpelledWords.{IsWord, AreWithin, list_words, words-apart, words-word, words-list, list-read, decimal_is_word, digest_is, other_number, before-list, after-list}
use Rattle.std.proofs.Math.Seq.{take-append_seam, drop-append_seam}
use Rattle.std.proofs.lemmas.Bool.Decides.{nat_tests}
use Rattle.std.proofs.lemmas.Fmt.{length-decimal-le_wide}
use Rattle.sabr_plan.specs.Words.{TextLines, is_one_line, lines_of}
use Rattle.sabr_plan.proofs.Outcomes.{lines_of-line}
use Rattle.sabr_plan.proofs.Held.{one_line-append}
use Rattle.std.specs.Option.{option_map_or}
use Rattle.std.specs.Ordering.{is_lt}
use Rattle.sabr_model.specs.Order.{by_numbers, numbers_before}
use Rattle.sabr_frontier.specs.listing.Rising.{Rises}
use Rattle.sabr_frontier.specs.listing.State.{PartState, pair_of}
use Rattle.sabr_frontier.specs.tree.Undo.{last_item, front}
use Rattle.sabr_frontier.proofs.TreeLemmas.ModifiedPlaces.{last_split}

-- lines, LF after each
abbrev pub joined : List (List ℕ) → List ℕ
joined [] = []
joined (line ∷ lines) = line ++ 10 ∷ joined lines

-- none of them holds a LF
abbrev pub AreLines : List (List ℕ) → Type 0
AreLines [] = Unit {0}
AreLines (line ∷ lines) = (is_one_line line ≡ true) × AreLines lines

-- they are the lines of the text that they make
pub lines_of-joined : (lines : List (List ℕ)) → AreLines lines → lines_of (joined lines) ≡ record { ended = lines; open_line = [] }
unfolding lines_of
lines_of-joined [] h = refl
lines_of-joined (line ∷ lines) h =
    lines_of-line line (joined lines) h.0
    ∙ ap (λ (t : TextLines). record { ended = line ∷ t.ended; open_line = t.open_line }) (lines_of-joined lines h.1)

-- pieces and LF, before a text
pub lf_after : (xs : List (List ℕ)) (u : List ℕ) → concat (xs ++ codes "\n" ∷ []) ++ u ≡ concat xs ++ 10 ∷ u
lf_after [] u = refl
lf_after (x ∷ xs) u =
    append_assoc x (concat (xs ++ codes "\n" ∷ [])) u ∙ ap (λ y. x ++ y) (lf_after xs u) ∙ sym (append_assoc x (concat xs) (10 ∷ u))

-- pieces without LF
pub concat_line : (xs : List (List ℕ)) → AreLines xs → is_one_line (concat xs) ≡ true
concat_line [] h = refl
concat_line (x ∷ xs) h = one_line-append x (concat xs) h.0 (concat_line xs h.1)

-- how long they are together
abbrev pub lengths : List (List ℕ) → ℕ
lengths [] = 0
lengths (x ∷ xs) = length x + lengths xs

pub length-concat : (xs : List (List ℕ)) → length (concat xs) ≡ lengths xs
length-concat [] = refl
length-concat (x ∷ xs) = let rest = length-concat xs in let both = length-append x (concat xs) in omega (arith, rest, both)

no_lf : (b : ℕ) → 32 < b → eqb b 10 ≡ false
no_lf b h = grind (arith, nat_tests)

pub word_line : (w : List ℕ) → IsWord w → is_one_line w ≡ true
word_line [] h = refl
word_line (b ∷ w) h = rw (no_lf b h.0) (word_line w h.1)

module _ (low high : ℕ) (short : high < 10 ^ 64) where
  spaced_line : (ns : List ℕ) → AreWithin low high ns → is_one_line (spaced_by decimal ns) ≡ true
  spaced_line [] h = refl
  spaced_line (n ∷ ns) h =
      one_line-append (decimal n) (spaced_by decimal ns) (word_line (decimal n) (decimal_is_word n (omega (arith, h.0.1)))) (spaced_line ns h.1)

  pub list_line : (ns : List ℕ) → AreWithin low high ns → is_one_line (list_text ns) ≡ true
  list_line [] h = refl
  list_line (n ∷ ns) h =
      one_line-append (decimal n) (spaced_by decimal ns) (word_line (decimal n) (decimal_is_word n (omega (arith, h.0.1)))) (spaced_line ns h.1)

-- lists of numbers of at most ten digits
module _ (low high : ℕ) (ten : high < 10000000000) where
  pub ten_digits : (n : ℕ) → n ≤ high → length (decimal n) ≤ 10
  ten_digits n h = length-decimal-le_wide 10 n (omega arith) (omega arith) (omega arith)

  spaced_length : (ns : List ℕ) → AreWithin low high ns → length (spaced_by decimal ns) ≤ 11 * length ns
  spaced_length [] h = omega arith
  spaced_length (n ∷ ns) h =
      let here = ten_digits n h.0.1 in
      let rest = spaced_length ns h.1 in
      let both = length-append (decimal n) (spaced_by decimal ns) in
      omega (arith, here, rest, both)

  pub list_length : (ns : List ℕ) → AreWithin low high ns → length ns ≤ 20000 → length (list_text ns) ≤ 219999
  list_length [] h l = omega arith
  list_length (n ∷ ns) h l =
      let here = ten_digits n h.0.1 in
      let rest = spaced_length ns h.1 in
      let both = length-append (decimal n) (spaced_by decimal ns) in
      omega (arith, here, rest, both, l)

-- lists of nodes
node_digits : (n : ℕ) → n ≤ 18446744073709551615 → length (decimal n) ≤ 20
node_digits n h = length-decimal-le_wide 20 n (omega arith) (omega arith) (omega arith)

spaced_nodes : (ns : List ℕ) → AreWithin 0 18446744073709551615 ns → length (spaced_by decimal ns) ≤ 21 * length ns
spaced_nodes [] h = omega arith
spaced_nodes (n ∷ ns) h =
    let here = node_digits n h.0.1 in
    let rest = spaced_nodes ns h.1 in
    let both = length-append (decimal n) (spaced_by decimal ns) in
    omega (arith, here, rest, both)

pub nodes_length : (ns : List ℕ) → AreWithin 0 18446744073709551615 ns → length ns ≤ 16 → length (list_text ns) ≤ 336
nodes_length [] h l = omega arith
nodes_length (n ∷ ns) h l =
    let here = node_digits n h.0.1 in
    let rest = spaced_nodes ns h.1 in
    let both = length-append (decimal n) (spaced_by decimal ns) in
    omega (arith, here, rest, both, l)

-- a list of contact numbers that a text can hold
pub record IsContactList (ns : List ℕ) : Type 0 where
  pub within : AreWithin 1 most_number ns
  pub few : length ns ≤ 20000

-- ---- words

-- a time's text is a word
pub time_word : (t : ℕ) → IsWord (time_text_of t)
unfolding time_text_of
time_word t = search rules

-- a word, a space and a text
pub word-apart : (w u : List ℕ) → IsWord w → words_of (w ++ 32 ∷ u) ≡ w ∷ words_of u
word-apart w u h = words-apart w u ∙ ap (λ ws. ws ++ words_of u) (words-word w h)

number-apart : (n : ℕ) (u : List ℕ) → n < 10 ^ 64 → words_of (decimal n ++ 32 ∷ u) ≡ decimal n ∷ words_of u
number-apart n u h = word-apart (decimal n) u (decimal_is_word n h)

-- what stands after a label
pub label-there : (label text : List ℕ) → after_label label (label ++ text) ≡ Some text
label-there label text = label-front label (label ++ text) label text true (sym (take-append_seam label text)) (sym (drop-append_seam label text)) (same_text label label refl)

-- ---- the lines of numbers and of the digest

pub digest_read : (m : List ℕ) → digest_named (codes "plan " ++ encode_lower (sha256 m)) ≡ Some (encode_lower (sha256 m))
unfolding digest_named
digest_read m = rw (label-there (codes "plan ") (encode_lower (sha256 m)), digest_is m) refl

pub emitted_read : (n : ℕ) → n ≤ 340282366920938463463374607431768211455 → emitted_of (codes "emitted " ++ decimal n) ≡ Some n
unfolding emitted_of
emitted_read n h = rw (label-there (codes "emitted ") (decimal n)) (number_within-spelled_within 0 340282366920938463463374607431768211455 (decimal n) n (omega arith) refl (omega arith) h)

pub count_read : (n : ℕ) → n ≤ 18446744073709551615 → count_of (codes "parts " ++ decimal n) ≡ Some n
unfolding count_of
count_read n h = rw (label-there (codes "parts ") (decimal n)) (number_within-spelled_within 0 18446744073709551615 (decimal n) n (omega arith) refl (omega arith) h)

-- the words of a list of contact numbers
pub contacts_words : (ns : List ℕ) → IsContactList ns → words_of (list_text ns) ≡ list_words ns
contacts_words ns h = words-list 1 most_number (omega arith) ns h.within

pub contacts_read : (ns : List ℕ) → IsContactList ns → contacts_of (list_words ns) ≡ Some ns
contacts_read ns h = list-read 1 most_number (omega arith) 20000 ns h.within h.few

pub last_read : (ns : List ℕ) → IsContactList ns → last_listed (codes "last " ++ list_text ns) ≡ Some ns
unfolding last_listed
last_read ns h = rw (label-there (codes "last ") (list_text ns), contacts_words ns h) (contacts_read ns h)

-- ---- the line of the request

-- the first four words, before a text
abbrev pub four_onto : RouteRequest → List ℕ → List ℕ
four_onto r u = decimal r.source ++ 32 ∷ (decimal r.destination ++ 32 ∷ (time_text_of r.at ++ 32 ∷ (decimal r.margin ++ u)))

-- what stands after the label, in version 2 and in version 1
abbrev pub request_text : RouteRequest → List ℕ
request_text r = four_onto r (32 ∷ (decimal r.max_hops ++ 32 ∷ (47 ∷ 32 ∷ list_text r.avoided)))

abbrev pub old_request_text : RouteRequest → List ℕ
old_request_text r = four_onto r []

-- its values
abbrev values : RouteRequest → ℕ → List ℕ → RequestValues
values r hops avoid = record { from = r.source; to = r.destination; at = r.at; margin_ppm = r.margin; max_hops = hops; avoid = avoid }

some : (a : ℕ) → 0 < a → a ≡ 0 → ⊥
some a h e = omega arith

nodes_within : (ns : List ℕ) → AllByRecursion IsNode ns → AreWithin 0 18446744073709551615 ns
nodes_within [] h = tt
nodes_within (n ∷ ns) h = ((omega arith, omega (arith, h.0.1)), nodes_within ns h.1)

-- the avoided nodes of an accepted request
pub accepted_nodes : (r : RouteRequest) → IsRequest r → AreWithin 0 18446744073709551615 r.avoided
accepted_nodes r h = nodes_within r.avoided h.nodes

pub accepted_few : (r : RouteRequest) → IsRequest r → length r.avoided ≤ 16
accepted_few r h =
    let some = leb (length r.avoided) 16 in
    let rises = rises_above 0 r.avoided in
    let source = not (has r.source r.avoided) in
    let destination = not (has r.destination r.avoided) in
    let a = and_parts (some && rises && source) destination h.avoids in
    let b = and_parts (some && rises) source a.0 in
    leb-true (length r.avoided) 16 (and_parts some rises b.0).0

module _ (r : RouteRequest) (h : IsRequest r) where
  source_short : r.source < 10 ^ 64
  source_short = let b = h.source.1 in omega arith

  destination_short : r.destination < 10 ^ 64
  destination_short = let b = h.destination.1 in omega arith

  margin_short : r.margin < 10 ^ 64
  margin_short = let b = h.margin in omega arith

  hops_short : r.max_hops < 10 ^ 64
  hops_short = let b = h.hops.1 in omega arith

  three_apart : (u : List ℕ) → words_of (four_onto r u) ≡ decimal r.source ∷ decimal r.destination ∷ time_text_of r.at ∷ words_of (decimal r.margin ++ u)
  three_apart u =
      number-apart r.source (decimal r.destination ++ 32 ∷ (time_text_of r.at ++ 32 ∷ (decimal r.margin ++ u))) source_short
      ∙ ap (λ ws. decimal r.source ∷ ws) (number-apart r.destination (time_text_of r.at ++ 32 ∷ (decimal r.margin ++ u)) destination_short)
      ∙ ap (λ ws. decimal r.source ∷ decimal r.destination ∷ ws) (word-apart (time_text_of r.at) (decimal r.margin ++ u) (time_word r.at))

  request_words : words_of (request_text r) ≡ decimal r.source ∷ decimal r.destination ∷ time_text_of r.at ∷ decimal r.margin ∷ decimal r.max_hops ∷ codes "/" ∷ list_words r.avoided
  request_words =
      three_apart (32 ∷ (decimal r.max_hops ++ 32 ∷ (47 ∷ 32 ∷ list_text r.avoided)))
      ∙ ap (λ ws. decimal r.source ∷ decimal r.destination ∷ time_text_of r.at ∷ ws) (
      number-apart r.margin (decimal r.max_hops ++ 32 ∷ (47 ∷ 32 ∷ list_text r.avoided)) margin_short
      ∙ ap (λ ws. decimal r.margin ∷ ws) (number-apart r.max_hops (47 ∷ 32 ∷ list_text r.avoided) hops_short)
      ∙ ap (λ ws. decimal r.margin ∷ decimal r.max_hops ∷ ws) (word-apart (codes "/") (list_text r.avoided) (omega arith, tt))
      ∙ ap (λ ws. decimal r.margin ∷ decimal r.max_hops ∷ codes "/" ∷ ws) (words-list 0 18446744073709551615 (omega arith) r.avoided (accepted_nodes r h))
      )

  old_request_words : words_of (old_request_text r) ≡ decimal r.source ∷ decimal r.destination ∷ time_text_of r.at ∷ decimal r.margin ∷ []
  old_request_words =
      three_apart [] ∙ ap (λ ws. decimal r.source ∷ decimal r.destination ∷ time_text_of r.at ∷ ws)
      (ap words_of (append-nil (decimal r.margin)) ∙ words-word (decimal r.margin) (decimal_is_word r.margin margin_short))

  source_read : number_within 0 18446744073709551615 (decimal r.source) ≡ Some r.source
  source_read = let b = h.source.1 in number_within-spelled_within 0 18446744073709551615 (decimal r.source) r.source source_short refl (omega arith) (omega arith)

  destination_read : number_within 0 18446744073709551615 (decimal r.destination) ≡ Some r.destination
  destination_read = let b = h.destination.1 in number_within-spelled_within 0 18446744073709551615 (decimal r.destination) r.destination destination_short refl (omega arith) (omega arith)

  margin_read : number_within 0 most_number (decimal r.margin) ≡ Some r.margin
  margin_read = let b = h.margin in number_within-spelled_within 0 most_number (decimal r.margin) r.margin margin_short refl (omega arith) (omega arith)

  hops_read : number_within 0 most_number (decimal r.max_hops) ≡ Some r.max_hops
  hops_read = let b = h.hops.1 in number_within-spelled_within 0 most_number (decimal r.max_hops) r.max_hops hops_short refl (omega arith) (omega arith)

  nodes_read : nodes_of (list_words r.avoided) ≡ Some r.avoided
  nodes_read = list-read 0 18446744073709551615 (omega arith) 16 r.avoided (accepted_nodes r h) (accepted_few r h)

  pub request_read : request_of Two (codes "request " ++ request_text r) ≡ Some (values r r.max_hops r.avoided)
  unfolding request_of
  request_read = rw (label-there (codes "request ") (request_text r), request_words, nodes_read, hops_read, source_read, destination_read, time_of-text r.at h.time, margin_read) refl

  pub old_request_read : request_of One (codes "request " ++ old_request_text r) ≡ Some (values r 20000 [])
  unfolding request_of
  old_request_read = rw (label-there (codes "request ") (old_request_text r), old_request_words, source_read, destination_read, time_of-text r.at h.time, margin_read) refl

  -- an accepted request is not refused
  unrefused : request_refusal r.source r.destination r.at r.margin ≡ None
  unrefused =
      let apart : eqb r.source r.destination ≡ false = ne_eqb r.source r.destination h.apart in
      let one : eqb r.source 0 ≡ false = ne_eqb r.source 0 (some r.source h.source.0) in
      let other : eqb r.destination 0 ≡ false = ne_eqb r.destination 0 (some r.destination h.destination.0) in
      rw (apart, one, other, le-ltb last_time r.at h.time, le-ltb most_margin r.margin h.margin) refl

  unlimited_unrefused : limit_refusal (unlimited r.source r.destination r.at r.margin) r.max_hops r.avoided ≡ None
  unlimited_unrefused =
      let hops : eqb r.max_hops 0 ≡ false = ne_eqb r.max_hops 0 (some r.max_hops h.hops.0) in
      rw (hops, le-ltb most_hops r.max_hops h.hops.1, h.avoids) refl

  pub asked_is : asked (values r r.max_hops r.avoided) ≡ Ok r
  asked_is = rw (unrefused, unlimited_unrefused) refl

  pub old_asked_is : IsUnlimited r → asked (values r 20000 []) ≡ Ok r
  old_asked_is free =
      ap (λ (q : RouteRequest). asked (values r q.max_hops q.avoided)) (sym free) ∙ asked_is

-- ---- the lines of parts, as they are spelled, say the parts in turn

-- what a text says of a part, whose route isn't empty
pub record PartIsTellable (t : PartState) : Type 0 where
  pub prefix : IsContactList t.prefix
  pub excluded : IsContactList t.excluded
  pub route : IsContactList (unwrap_or t.carried [])
  pub some_hop : t.carried ≡ Some [] → ⊥

-- the line of a part, without its LF
abbrev pub part_pieces : PartState → List (List ℕ)
part_pieces t = codes "part " ∷ list_text t.prefix ∷ codes " / " ∷ list_text t.excluded ∷ codes " / " ∷ list_text (unwrap_or t.carried []) ∷ []

abbrev pub spelled_part : PartState → List ℕ
spelled_part t = concat (part_pieces t)

-- three lists after the label
abbrev lists_text : List ℕ → List ℕ → List ℕ → List ℕ
lists_text p x r = list_text p ++ 32 ∷ (47 ∷ 32 ∷ (list_text x ++ 32 ∷ (47 ∷ 32 ∷ r)))

spelled_is : (t : PartState) → spelled_part t ≡ codes "part " ++ lists_text t.prefix t.excluded (list_text (unwrap_or t.carried []))
spelled_is t = ap (λ r. codes "part " ++ lists_text t.prefix t.excluded r) (append-nil (list_text (unwrap_or t.carried [])))

-- a list, `/`, and a text
list-apart : (ns u : List ℕ) → IsContactList ns → words_of (list_text ns ++ 32 ∷ (47 ∷ 32 ∷ u)) ≡ list_words ns ++ codes "/" ∷ words_of u
list-apart ns u h =
    words-apart (list_text ns) (47 ∷ 32 ∷ u)
    ∙ ap (λ ws. ws ++ words_of (47 ∷ 32 ∷ u)) (contacts_words ns h)
    ∙ ap (λ ws. list_words ns ++ ws) (word-apart (codes "/") u (omega arith, tt))

carried-back : (o : Option (List ℕ)) → (o ≡ Some [] → ⊥) → carried_of (unwrap_or o []) ≡ o
carried-back None h = refl
carried-back (Some []) h = absurd (h refl)
carried-back (Some (n ∷ ns)) h = refl

-- the line says the part
pub part_read : (t : PartState) → PartIsTellable t → part_of (spelled_part t) ≡ Some t
unfolding part_of
part_read t h =
    let route : List ℕ = unwrap_or t.carried [] in
    let after : List (List ℕ) = list_words t.excluded ++ codes "/" ∷ list_words route in
    let words : words_of (lists_text t.prefix t.excluded (list_text route)) ≡ list_words t.prefix ++ codes "/" ∷ after =
    list-apart t.prefix (list_text t.excluded ++ 32 ∷ (47 ∷ 32 ∷ list_text route)) h.prefix
    ∙ ap (λ ws. list_words t.prefix ++ codes "/" ∷ ws) (list-apart t.excluded (list_text route) h.excluded)
    ∙ ap (λ ws. list_words t.prefix ++ codes "/" ∷ (list_words t.excluded ++ codes "/" ∷ ws)) (contacts_words route h.route) in
    let lists = three_lists (list_words t.prefix ++ codes "/" ∷ after) after (list_words route) t.prefix t.excluded route
    (ap contacts_of (before-list 1 most_number (omega arith) t.prefix after h.prefix.within) ∙ contacts_read t.prefix h.prefix)
    (sym (after-list 1 most_number (omega arith) t.prefix after h.prefix.within))
    (ap contacts_of (before-list 1 most_number (omega arith) t.excluded (list_words route) h.excluded.within) ∙ contacts_read t.excluded h.excluded)
    (sym (after-list 1 most_number (omega arith) t.excluded (list_words route) h.excluded.within))
    (contacts_read route h.route) in
    rw (spelled_is t, label-there (codes "part ") (lists_text t.prefix t.excluded (list_text route)), words, lists, carried-back t.carried h.some_hop) refl

pub part_line_is : (t : PartState) → PartIsTellable t → is_one_line (spelled_part t) ≡ true
part_line_is t h =
    concat_line (part_pieces t)
    (refl, (one t.prefix h.prefix, (refl, (one t.excluded h.excluded, (refl, (one (unwrap_or t.carried []) h.route, tt))))))
  where
    one : (ns : List ℕ) → IsContactList ns → is_one_line (list_text ns) ≡ true
    one ns k = list_line 1 most_number (omega arith) ns k.within

pub part_length : (t : PartState) → PartIsTellable t → length (spelled_part t) ≤ 660008
part_length t h =
    let whole = length-concat (part_pieces t) in
    let p = short t.prefix h.prefix in
    let x = short t.excluded h.excluded in
    let r = short (unwrap_or t.carried []) h.route in
    omega (arith, whole, p, x, r)
  where
    short : (ns : List ℕ) → IsContactList ns → length (list_text ns) ≤ 219999
    short ns k = list_length 1 most_number (omega arith) ns k.within k.few

-- ---- parts in turn

-- the prefixes of parts
abbrev pub prefixes : List PartState → List (List ℕ)
prefixes parts = map (λ (e : List ℕ × List ℕ). e.0) (map pair_of parts)

prefixes-append : (xs ys : List PartState) → prefixes (xs ++ ys) ≡ prefixes xs ++ prefixes ys
prefixes-append [] ys = refl
prefixes-append (x ∷ xs) ys = ap (λ qs. x.prefix ∷ qs) (prefixes-append xs ys)

rises_back : (xs ys : List (List ℕ)) → Rises by_numbers (xs ++ ys) → Rises by_numbers ys
rises_back [] ys h = h
rises_back (x ∷ xs) ys h = rises_back xs ys h.1

-- where prefixes rise, each part comes after those before it
after-last : (before : List PartState) (t : PartState) (ts : List PartState) → Rises by_numbers (prefixes (before ++ t ∷ ts)) → comes_after before t.prefix ≡ true
after-last before t ts up = elim (last_item before) as (λ o. last_item before ≡ o → option_map_or (λ (u : PartState). numbers_before u.prefix t.prefix) o true ≡ true) [
  | None ↦ λ e. refl
  | Some u ↦ λ e.
      let parted : before ++ t ∷ ts ≡ front before ++ u ∷ t ∷ ts = ap (λ us. us ++ t ∷ ts) (last_split before u e) ∙ append_assoc (front before) (u ∷ []) (t ∷ ts) in
      let rising = subst (Rises by_numbers) (ap prefixes parted ∙ prefixes-append (front before) (u ∷ t ∷ ts)) up in
      ap is_lt (rises_back (prefixes (front before)) (prefixes (u ∷ t ∷ ts)) rising).0.0
] refl

-- a part of a text that is read
pub record IsPartOf (p : ContactPlan) (r : RouteRequest) (t : PartState) : Type 0 where
  pub told : PartIsTellable t
  pub rising : rise_strictly t.excluded ≡ true
  pub carries : may_carry p r t ≡ true

abbrev pub ArePartsOf : ContactPlan → RouteRequest → List PartState → Type 0
ArePartsOf p r [] = Unit {0}
ArePartsOf p r (t ∷ ts) = IsPartOf p r t × ArePartsOf p r ts

module _ (p : ContactPlan) (h : List ℕ) where
  -- a line that is read, and those after it
  pub read_on : (n : ℕ) (s s₁ : Said) (line : List ℕ) (lines : List (List ℕ)) → length line ≤ 660008 → line_said p h n s line ≡ Ok s₁
      → read_lines p h n s (line ∷ lines) ≡ read_lines p h (n + 1) s₁ lines
  unfolding read_lines
  read_on n s s₁ line lines short said = rw (le-ltb 660008 (length line) short, said) refl

  -- line n says a part
  part_taken : (n : ℕ) (s : Said) (t : PartState) → 6 < n → n < 7 + s.count → IsPartOf p s.request t → comes_after s.parts t.prefix ≡ true
      → line_said p h n s (spelled_part t) ≡ Ok (record s { parts = s.parts ++ t ∷ [] })
  unfolding line_said
  part_taken n s t low high is after =
      rw (
        other_number n 1 (omega arith),
        other_number n 2 (omega arith),
        other_number n 3 (omega arith),
        other_number n 4 (omega arith),
        other_number n 5 (omega arith),
        other_number n 6 (omega arith),
        lt-ltb n (7 + s.count) high,
        part_read t is.told,
        is.rising,
        after,
        is.carries,
      ) refl

  -- after the parts `end` stands
  end_taken : (n : ℕ) (s : Said) → n ≡ 7 + s.count → line_said p h n s (codes "end") ≡ Ok s
  unfolding line_said
  end_taken n s e =
      rw (
        other_number n 1 (omega arith),
        other_number n 2 (omega arith),
        other_number n 3 (omega arith),
        other_number n 4 (omega arith),
        other_number n 5 (omega arith),
        other_number n 6 (omega arith),
        le-ltb n (7 + s.count) (omega arith),
        eq-eqb n (7 + s.count) e,
      ) refl

  -- the lines from line n on: parts, and `end`
  pub parts_read : (n : ℕ) (s : Said) (ts : List PartState) → n ≡ 7 + length s.parts → s.count ≡ length s.parts + length ts → ArePartsOf p s.request ts
      → Rises by_numbers (prefixes (s.parts ++ ts)) → read_lines p h n s (map spelled_part ts ++ codes "end" ∷ []) ≡ Ok (record s { parts = s.parts ++ ts })
  unfolding read_lines
  parts_read n s [] at count are up =
      read_on n s s (codes "end") [] (omega arith) (end_taken n s (omega arith))
      ∙ ap (λ (ts : List PartState). Ok (record s { parts = ts })) (sym (append-nil s.parts))
  parts_read n s (t ∷ ts) at count are up =
      let s₁ : Said = record s { parts = s.parts ++ t ∷ [] } in
      let more : length (s.parts ++ t ∷ []) ≡ length s.parts + 1 = length-append s.parts (t ∷ []) in
      let joined : (s.parts ++ t ∷ []) ++ ts ≡ s.parts ++ t ∷ ts = append_assoc s.parts (t ∷ []) ts in
      read_on n s s₁ (spelled_part t) (map spelled_part ts ++ codes "end" ∷ []) (part_length t are.0.told)
      (part_taken n s t (omega arith) (omega arith) are.0 (after-last s.parts t ts up))
      ∙ parts_read (n + 1) s₁ ts (omega arith) (omega arith) are.1 (subst (λ us. Rises by_numbers (prefixes us)) (sym joined) up)
      ∙ ap (λ (us : List PartState). Ok (record s { parts = us })) joined
