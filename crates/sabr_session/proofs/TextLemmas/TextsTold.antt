-- A text that is read without a fault is the spelling of what it says, in one of the versions.
use Rattle.std.proofs.Common.{◌≡◌, ℕ, ◌+◌, ◌<◌, ◌≤◌, Bool, true, false, cond, ◌&&◌, not, eqb, ltb, ◌⊎◌, inl, inr, List, [], ◌∷◌, ◌++◌, length, flat_map, refl, sym, subst, ap, ◌∙◌, arith, append_assoc, append-nil, decimal, codes, Ok, Err}
use Rattle.std.proofs.lemmas.Bool.{le-ltb, lt-ltb}
use Rattle.sabr_session.proofs.WordLemmas.SpelledWords.{other_number}
use borrow.Author.Tests.{ltb-true, ltb-false, eqb-true}
use Rattle.hex.specs.Hex.{encode_lower}
use Rattle.sabr_model.specs.plan.Plan.{ContactPlan}
use Rattle.sabr_model.specs.routes.Arrival.{RouteRequest}
use Rattle.sabr_model.specs.routes.Asking.{unlimited, with_limits}
use Rattle.sabr_plan.specs.Steps.{and_then}
use Rattle.sabr_plan.specs.Words.{TextLines, has_bytes, before_lines, lines_of}
use Rattle.sabr_frontier.specs.listing.State.{PartState, State}
use Rattle.sabr_session.specs.SessionText.{list_text, part_line, text_of, old_text_of, HasText, IsUnlimited}
use Rattle.sabr_session.specs.SessionLines.{header_of, request_of, emitted_of, last_listed, count_of, part_of, is_end}
use Rattle.sabr_session.specs.SessionRead.{Said, nothing_said, misspelled, spelled_at, rise_strictly, comes_after, may_carry, placed, asked, part_said, end_said, line_said, read_line, read_lines, is_after, last_line, said_of, state_of}
use Rattle.sabr_session.specs.declared.reading.first_lines.Version.{Version}
use Rattle.sabr_session.specs.declared.reading.first_lines.Version.TheVariants.{One, Two}
use Rattle.sabr_model.specs.declared.request_values.RequestValues.{RequestValues}
use Rattle.sabr_session.specs.declared.session_fault.SessionFault.TheVariants as fault
use Rattle.sabr_session.proofs.ReadingLemmas.StepsTaken.{and_then_ok, given_as_ok, spelled_at_ok}
use Rattle.sabr_session.proofs.TextLemmas.SaidLines.{header_line, header_told, digest_told, values_text, IsOfVersion, request_told, asked_told, emitted_told, last_told, count_told, part_told, end_told}

-- ---- lines

-- lines, each with its LF
abbrev pub with_ends : List (List ℕ) → List ℕ
with_ends lines = flat_map (λ (line : List ℕ). line ++ 10 ∷ []) lines

-- all bytes of a text
abbrev bytes_of : TextLines → List ℕ
bytes_of t = with_ends t.ended ++ t.open_line

bytes-before : (b : ℕ) (ended : List (List ℕ)) (rest : List ℕ) → bytes_of (before_lines b (record { ended = ended; open_line = rest })) ≡ b ∷ bytes_of (record { ended = ended; open_line = rest })
bytes-before b [] rest = refl
bytes-before b (line ∷ lines) rest = refl

bytes_of-lines : (bytes : List ℕ) → bytes_of (lines_of bytes) ≡ bytes
unfolding lines_of
bytes_of-lines [] = refl
bytes_of-lines (b ∷ bytes) = by_end (eqb b 10) refl (bytes_of-lines bytes)
  where
    t : TextLines
    t = lines_of bytes

    by_end : (c : Bool) → eqb b 10 ≡ c → bytes_of t ≡ bytes → bytes_of (cond c (record { ended = [] ∷ t.ended; open_line = t.open_line }) (before_lines b t)) ≡ b ∷ bytes
    by_end true is same = let lf : b ≡ 10 = eqb-true b 10 is in ap (λ (s : List ℕ). 10 ∷ s) same ∙ ap (λ (x : ℕ). x ∷ bytes) (sym lf)
    by_end false is same = bytes-before b t.ended t.open_line ∙ ap (λ (s : List ℕ). b ∷ s) same

-- one more line
with_ends-on : (line text : List ℕ) (lines : List (List ℕ)) (rest : List ℕ) → line ≡ text → with_ends lines ≡ rest → with_ends (line ∷ lines) ≡ text ++ 10 ∷ rest
with_ends-on line text lines rest e f = rw (e, f) (append_assoc text (10 ∷ []) rest)

module _ (p : ContactPlan) (h : List ℕ) where
  -- a line that is read has at most 660008 bytes
  line_ok : (n : ℕ) (s t : Said) (line : List ℕ) → read_line p h n s line ≡ Ok t → line_said p h n s line ≡ Ok t
  line_ok n s t line e = by_length (ltb 660008 (length line)) e
    where
      by_length : (b : Bool) → cond b (Err (misspelled n)) (line_said p h n s line) ≡ Ok t → line_said p h n s line ≡ Ok t
      by_length true e = absurd cc
      by_length false e = e

  -- one line, and those after it
  record FirstRead (n : ℕ) (s t : Said) (lines : List (List ℕ)) : Type 0 where
    pub line : List ℕ
    pub rest : List (List ℕ)
    pub next : Said
    pub are : lines ≡ line ∷ rest
    pub said : line_said p h n s line ≡ Ok next
    pub after : read_lines p h (n + 1) next rest ≡ Ok t
    pub many : 7 + t.count < n + 1 + length rest

  -- the first of lines that are enough
  first_read : (n : ℕ) (s t : Said) (lines : List (List ℕ)) → n ≤ 6 → read_lines p h n s lines ≡ Ok t → 7 + t.count < n + length lines → FirstRead n s t lines
  unfolding read_lines
  first_read n s t [] low e many = absurd (omega arith)
  first_read n s t (line ∷ lines) low e many =
      let k = and_then_ok (λ (s₁ : Said). read_lines p h (n + 1) s₁ lines) (read_line p h n s line) t e in
      record { line = line; rest = lines; next = k.0; are = refl; said = line_ok n s k.0 line k.1; after = k.2; many = omega arith }

  -- ---- the parts and the last line

  record PartsTold (n : ℕ) (s t : Said) (lines : List (List ℕ)) : Type 0 where
    pub parts : List PartState
    pub spelled : with_ends lines ≡ flat_map part_line parts ++ codes "end\n"
    pub filled : n + length parts ≡ 7 + s.count
    pub all : t ≡ record s { parts = s.parts ++ parts }

  placed_told : (n : ℕ) (s t : Said) (u : PartState) → placed p n s u ≡ Ok t → t ≡ record s { parts = s.parts ++ u ∷ [] }
  placed_told n s t u e = by_tests (not (rise_strictly u.excluded && comes_after s.parts u.prefix)) (not (may_carry p s.request u)) e
    where
      by_tests : (a b : Bool) → cond a (Err (fault.BadLine n)) (cond b (Err (fault.BadRoute n)) (Ok (record s { parts = s.parts ++ u ∷ [] }))) ≡ Ok t → t ≡ record s { parts = s.parts ++ u ∷ [] }
      by_tests true b e = absurd cc
      by_tests false true e = absurd cc
      by_tests false false e = cc

  -- a part, after the first six lines
  part_line_told : (n : ℕ) (s t : Said) (line : List ℕ) → 6 < n → n < 7 + s.count → line_said p h n s line ≡ Ok t
      → (u : PartState) × (line ++ 10 ∷ [] ≡ part_line u) × (t ≡ record s { parts = s.parts ++ u ∷ [] })
  unfolding line_said
  part_line_told n s t line low more e =
      let said : part_said p n s line ≡ Ok t = rw (
        other_number n 1 (omega arith),
        other_number n 2 (omega arith),
        other_number n 3 (omega arith),
        other_number n 4 (omega arith),
        other_number n 5 (omega arith),
        other_number n 6 (omega arith),
        lt-ltb n (7 + s.count) more,
      ) at e in
      let k = and_then_ok (placed p n s) (spelled_at n (part_of line)) t said in
      (k.0, part_told line k.0 (spelled_at_ok n (part_of line) k.0 k.1), placed_told n s t k.0 k.2)

  -- the line after the parts
  end_line_told : (n : ℕ) (s t : Said) (line : List ℕ) → 6 < n → 7 + s.count ≤ n → line_said p h n s line ≡ Ok t
      → (n ≡ 7 + s.count) × (line ≡ codes "end") × (t ≡ s)
  unfolding line_said
  end_line_told n s t line low enough e =
      let said : end_said n s line ≡ Ok t = rw (
        other_number n 1 (omega arith),
        other_number n 2 (omega arith),
        other_number n 3 (omega arith),
        other_number n 4 (omega arith),
        other_number n 5 (omega arith),
        other_number n 6 (omega arith),
        le-ltb n (7 + s.count) enough,
      ) at e in
      by_tests (eqb n (7 + s.count)) refl (is_end line) refl said
    where
      by_tests : (a : Bool) → eqb n (7 + s.count) ≡ a → (b : Bool) → is_end line ≡ b → cond (a && b) (Ok s) (Err (fault.BadLine n)) ≡ Ok t
          → (n ≡ 7 + s.count) × (line ≡ codes "end") × (t ≡ s)
      by_tests true is true also e = let same : t ≡ s = cc in (eqb-true n (7 + s.count) is, end_told line also, same)
      by_tests true is false also e = absurd cc
      by_tests false is b also e = absurd cc

  -- a part, and those after it
  one_more : (s next t : Said) (u : PartState) (us : List PartState) → next ≡ record s { parts = s.parts ++ u ∷ [] } → t ≡ record next { parts = next.parts ++ us } → t ≡ record s { parts = s.parts ++ u ∷ us }
  one_more s next t u us e f =
      f ∙ ap (λ (x : Said). record x { parts = x.parts ++ us }) e ∙ ap (λ (ts : List PartState). record s { parts = ts }) (append_assoc s.parts (u ∷ []) us)

  -- no line is after it
  nothing_after : (n : ℕ) (s t : Said) (lines : List (List ℕ)) → 6 < n → 7 + s.count < n → read_lines p h n s lines ≡ Ok t → (lines ≡ []) × (t ≡ s)
  unfolding read_lines
  nothing_after n s t [] low over e = let same : t ≡ s = cc in (refl, same)
  nothing_after n s t (line ∷ lines) low over e =
      let k = and_then_ok (λ (s₁ : Said). read_lines p h (n + 1) s₁ lines) (read_line p h n s line) t e in
      let bad = (end_line_told n s k.0 line low (omega arith) (line_ok n s k.0 line k.1)).0 in
      absurd (omega arith)

  parts_told : (n : ℕ) (s t : Said) (lines : List (List ℕ)) → 6 < n → n ≤ 7 + s.count → read_lines p h n s lines ≡ Ok t → 7 + t.count < n + length lines → PartsTold n s t lines
  unfolding read_lines
  parts_told n s t [] low high e many = let same : s ≡ t = cc in absurd (omega (arith, ap (λ (x : Said). x.count) same))
  parts_told n s t (line ∷ lines) low high e many =
      let k = and_then_ok (λ (s₁ : Said). read_lines p h (n + 1) s₁ lines) (read_line p h n s line) t e in
      by_number (ltb n (7 + s.count)) refl k.0 (line_ok n s k.0 line k.1) k.2 (λ next below. parts_told (n + 1) next t lines (omega arith) below)
    where
      by_number : (b : Bool) → ltb n (7 + s.count) ≡ b → (next : Said) → line_said p h n s line ≡ Ok next → read_lines p h (n + 1) next lines ≡ Ok t
          → ((next : Said) → n + 1 ≤ 7 + next.count → read_lines p h (n + 1) next lines ≡ Ok t → 7 + t.count < n + 1 + length lines → PartsTold (n + 1) next t lines)
          → PartsTold n s t (line ∷ lines)
      by_number true is next said after more =
          let less = ltb-true n (7 + s.count) is in
          let u = part_line_told n s next line low less said in
          let same : next.count ≡ s.count = ap (λ (x : Said). x.count) u.2 in
          let rest = more next (omega arith) after (omega arith) in
          record {
            parts = u.0 ∷ rest.parts;
            spelled = rw (u.1, rest.spelled) (sym (append_assoc (part_line u.0) (flat_map part_line rest.parts) (codes "end\n")));
            filled = (let f = rest.filled in omega (arith, same));
            all = one_more s next t u.0 rest.parts u.2 rest.all;
          }
      by_number false is next said after more =
          let enough = ltb-false n (7 + s.count) is in
          let last = end_line_told n s next line low enough said in
          let same : next.count ≡ s.count = ap (λ (x : Said). x.count) last.2 in
          let none = nothing_after (n + 1) next t lines (omega arith) (let l = last.0 in omega arith) after in
          record {
            parts = [];
            spelled = rw (last.1, none.0) refl;
            filled = (let f = last.0 in omega arith);
            all = none.1 ∙ last.2 ∙ ap (λ (ts : List PartState). record s { parts = ts }) (sym (append-nil s.parts));
          }

  -- ---- the first six lines

  header_line_told : (s t : Said) (line : List ℕ) → line_said p h 1 s line ≡ Ok t → (v : Version) × (line ≡ header_line v) × (t ≡ record s { version = v })
  unfolding line_said
  header_line_told s t line e =
      let k = given_as_ok (λ (v : Version). record s { version = v }) (spelled_at 1 (header_of line)) t e in
      (k.0, header_told line k.0 (spelled_at_ok 1 (header_of line) k.0 k.1), sym k.2)

  digest_line_told : (s t : Said) (line : List ℕ) → line_said p h 2 s line ≡ Ok t → (line ≡ codes "plan " ++ encode_lower h) × (t ≡ s)
  unfolding line_said
  digest_line_told s t line e = digest_told h s t line e

  -- the request of these values
  abbrev request_with : RequestValues → RouteRequest
  request_with v = with_limits (unlimited v.from v.to v.at v.margin_ppm) v.max_hops v.avoid

  request_line_told : (s t : Said) (line : List ℕ) → line_said p h 3 s line ≡ Ok t
      → (v : RequestValues) × (line ≡ codes "request " ++ values_text s.version v) × IsOfVersion s.version v × (t ≡ record s { request = request_with v })
  unfolding line_said
  request_line_told s t line e =
      let k = given_as_ok (λ (r : RouteRequest). record s { request = r }) (and_then (spelled_at 3 (request_of s.version line)) asked) t e in
      let v = and_then_ok asked (spelled_at 3 (request_of s.version line)) k.0 k.1 in
      let told = request_told s.version line v.0 (spelled_at_ok 3 (request_of s.version line) v.0 v.1) in
      (v.0, told.0, told.1, sym (ap (λ (r : RouteRequest). record s { request = r }) (asked_told v.0 k.0 v.2) ∙ k.2))

  emitted_line_told : (s t : Said) (line : List ℕ) → line_said p h 4 s line ≡ Ok t → (n : ℕ) × (line ≡ codes "emitted " ++ decimal n) × (t ≡ record s { emitted = n })
  unfolding line_said
  emitted_line_told s t line e =
      let k = given_as_ok (λ (n : ℕ). record s { emitted = n }) (spelled_at 4 (emitted_of line)) t e in
      (k.0, emitted_told line k.0 (spelled_at_ok 4 (emitted_of line) k.0 k.1), sym k.2)

  last_line_told : (s t : Said) (line : List ℕ) → line_said p h 5 s line ≡ Ok t → (ns : List ℕ) × (line ≡ codes "last " ++ list_text ns) × (t ≡ record s { last_route = ns })
  unfolding line_said
  last_line_told s t line e =
      let k = given_as_ok (λ (ns : List ℕ). record s { last_route = ns }) (spelled_at 5 (last_listed line)) t e in
      (k.0, last_told line k.0 (spelled_at_ok 5 (last_listed line) k.0 k.1), sym k.2)

  count_line_told : (s t : Said) (line : List ℕ) → line_said p h 6 s line ≡ Ok t
      → (n : ℕ) × (line ≡ codes "parts " ++ decimal n) × (n ≤ 18446744073709551615) × (t ≡ record s { count = n })
  unfolding line_said
  count_line_told s t line e =
      let k = given_as_ok (λ (n : ℕ). record s { count = n }) (spelled_at 6 (count_of line)) t e in
      let told = count_told line k.0 (spelled_at_ok 6 (count_of line) k.0 k.1) in
      (k.0, told.0, told.1, sym k.2)

  -- ---- the whole text

  -- the lines of these values
  abbrev lines_text : Version → RequestValues → ℕ → List ℕ → ℕ → List PartState → List ℕ
  lines_text version v emitted last count parts =
      header_line version ++ 10 ∷ ((codes "plan " ++ encode_lower h) ++ 10 ∷ ((codes "request " ++ values_text version v) ++ 10 ∷ ((codes "emitted " ++ decimal emitted)
      ++ 10 ∷ ((codes "last " ++ list_text last) ++ 10 ∷ ((codes "parts " ++ decimal count) ++ 10 ∷ (flat_map part_line parts ++ codes "end\n"))))))

  abbrev state_with : ℕ → List ℕ → List PartState → State
  state_with emitted last parts = record { emitted = emitted; last = last; parts = parts }

  spelled_two : (v : RequestValues) (emitted : ℕ) (last : List ℕ) (parts : List PartState)
      → lines_text Two v emitted last (length parts) parts ≡ text_of h (request_with v) (state_with emitted last parts)
  unfolding text_of
  spelled_two v emitted last parts = simp append_assoc

  spelled_one : (v : RequestValues) (emitted : ℕ) (last : List ℕ) (parts : List PartState)
      → lines_text One v emitted last (length parts) parts ≡ old_text_of h (request_with v) (state_with emitted last parts)
  unfolding old_text_of
  spelled_one v emitted last parts = simp append_assoc

  -- a request and a state whose text these bytes are, in one of the versions
  abbrev pub IsTextOf : List ℕ → RouteRequest → State → Type 0
  IsTextOf bytes r s = (bytes ≡ text_of h r s) ⊎ (IsUnlimited r × (bytes ≡ old_text_of h r s))

  text_with : (version : Version) (v : RequestValues) (emitted : ℕ) (last : List ℕ) (parts : List PartState) → IsOfVersion version v
      → IsTextOf (lines_text version v emitted last (length parts) parts) (request_with v) (state_with emitted last parts)
  text_with Two v emitted last parts is = inl (spelled_two v emitted last parts)
  text_with One v emitted last parts is =
      inr (rw (is.0, is.1) refl, spelled_one v emitted last parts)

  said_text : (bytes : List ℕ) (t : Said) (version : Version) (v : RequestValues) (emitted : ℕ) (last : List ℕ) (count : ℕ) (parts : List PartState) → IsOfVersion version v
      → count ≡ length parts → count ≤ 18446744073709551615
      → t ≡ record { version = version; request = request_with v; emitted = emitted; last_route = last; count = count; parts = parts }
      → bytes ≡ lines_text version v emitted last count parts → HasText (state_of t) × IsTextOf bytes t.request (state_of t)
  said_text bytes t version v emitted last count parts is filled few e whole =
      let all : bytes ≡ lines_text version v emitted last (length parts) parts = whole ∙ ap (λ (m : ℕ). lines_text version v emitted last m parts) filled in
      let spelled : IsTextOf bytes (request_with v) (state_with emitted last parts) = subst (λ (b : List ℕ). IsTextOf b (request_with v) (state_with emitted last parts)) (sym all) (text_with version v emitted last parts is) in
      let there : HasText (state_with emitted last parts) = omega arith in
      subst (λ (x : Said). HasText (state_of x) × IsTextOf bytes x.request (state_of x)) (sym e) (there, spelled)

  -- after the last LF there is nothing
  open_told : (n : ℕ) (line : List ℕ) (s t : Said) → last_line true n line s ≡ Ok t → (7 + s.count < n) × (line ≡ []) × (t ≡ s)
  open_told n line s t e = by_tests (is_after n s) refl (has_bytes line) refl e
    where
      empty : (line : List ℕ) → has_bytes line ≡ false → line ≡ []
      empty [] e = refl
      empty (b ∷ line) e = let none = ltb-false 0 (length (b ∷ line)) e in absurd (omega arith)

      by_tests : (a : Bool) → is_after n s ≡ a → (b : Bool) → has_bytes line ≡ b
          → cond (a && not b) (Ok s) (Err (misspelled n)) ≡ Ok t → (7 + s.count < n) × (line ≡ []) × (t ≡ s)
      by_tests true is false none e = let same : t ≡ s = cc in (ltb-true (7 + s.count) n is, empty line none, same)
      by_tests true is true some e = absurd cc
      by_tests false is b any e = absurd cc

  -- what a text says that is read without a fault
  pub text_told : (bytes : List ℕ) (t : Said) → said_of p h bytes true ≡ Ok t → HasText (state_of t) × IsTextOf bytes t.request (state_of t)
  unfolding said_of
  text_told bytes t e =
      let lines = (lines_of bytes).ended in
      let rest = (lines_of bytes).open_line in
      let k = and_then_ok (last_line true (length lines + 1) rest) (read_lines p h 1 nothing_said lines) t e in
      let over = open_told (length lines + 1) rest k.0 t k.2 in
      let whole : with_ends lines ≡ bytes = sym (append-nil (with_ends lines)) ∙ ap (λ (r : List ℕ). with_ends lines ++ r) (sym over.1) ∙ bytes_of-lines bytes in
      let enough : 7 + k.0.count < 1 + length lines = (let o = over.0 in omega arith) in
      all_told bytes lines k.0 t whole over.2 k.1 enough
    where
      all_told : (bytes : List ℕ) (lines : List (List ℕ)) (s t : Said) → with_ends lines ≡ bytes → t ≡ s → read_lines p h 1 nothing_said lines ≡ Ok s → 7 + s.count < 1 + length lines
          → HasText (state_of t) × IsTextOf bytes t.request (state_of t)
      all_told bytes lines s t whole same e many =
          let f1 = first_read 1 nothing_said s lines (omega arith) e many in
          let l1 = header_line_told nothing_said f1.next f1.line f1.said in
          let f2 = first_read 2 f1.next s f1.rest (omega arith) f1.after f1.many in
          let l2 = digest_line_told f1.next f2.next f2.line f2.said in
          let f3 = first_read 3 f2.next s f2.rest (omega arith) f2.after f2.many in
          let l3 = request_line_told f2.next f3.next f3.line f3.said in
          let f4 = first_read 4 f3.next s f3.rest (omega arith) f3.after f3.many in
          let l4 = emitted_line_told f3.next f4.next f4.line f4.said in
          let f5 = first_read 5 f4.next s f4.rest (omega arith) f4.after f4.many in
          let l5 = last_line_told f4.next f5.next f5.line f5.said in
          let f6 = first_read 6 f5.next s f5.rest (omega arith) f5.after f5.many in
          let l6 = count_line_told f5.next f6.next f6.line f6.said in
          let version : f2.next.version ≡ l1.0 = ap (λ (x : Said). x.version) (l2.1 ∙ l1.2) in
          let said : f6.next ≡ record { version = l1.0; request = request_with l3.0; emitted = l4.0; last_route = l5.0; count = l6.0; parts = [] }
          = l6.3 ∙ ap (λ (x : Said). record x { count = l6.0 }) (l5.2 ∙ ap (λ (x : Said). record x { last_route = l5.0 }) (l4.2 ∙ ap (λ (x : Said). record x { emitted = l4.0 })
          (l3.3 ∙ ap (λ (x : Said). record x { request = request_with l3.0 }) (l2.1 ∙ l1.2)))) in
          let count : f6.next.count ≡ l6.0 = ap (λ (x : Said). x.count) said in
          let parts = parts_told 7 f6.next s f6.rest (omega arith) (omega arith) f6.after f6.many in
          let filled : l6.0 ≡ length parts.parts = (let f = parts.filled in omega arith) in
          let final : t ≡ record { version = l1.0; request = request_with l3.0; emitted = l4.0; last_route = l5.0; count = l6.0; parts = parts.parts }
          = same ∙ parts.all ∙ ap (λ (x : Said). record x { parts = x.parts ++ parts.parts }) said in
          let text : with_ends lines ≡ lines_text l1.0 l3.0 l4.0 l5.0 l6.0 parts.parts =
          ap with_ends f1.are
          ∙ with_ends-on f1.line (header_line l1.0) f1.rest _ l1.1 (ap with_ends f2.are
          ∙ with_ends-on f2.line (codes "plan " ++ encode_lower h) f2.rest _ l2.0 (ap with_ends f3.are
          ∙ with_ends-on f3.line (codes "request " ++ values_text l1.0 l3.0) f3.rest _ (l3.1 ∙ ap (λ (v : Version). codes "request " ++ values_text v l3.0) version) (ap with_ends f4.are
          ∙ with_ends-on f4.line (codes "emitted " ++ decimal l4.0) f4.rest _ l4.1 (ap with_ends f5.are
          ∙ with_ends-on f5.line (codes "last " ++ list_text l5.0) f5.rest _ l5.1 (ap with_ends f6.are
          ∙ with_ends-on f6.line (codes "parts " ++ decimal l6.0) f6.rest _ l6.1 parts.spelled))))) in
          said_text bytes t l1.0 l3.0 l4.0 l5.0 l6.0 parts.parts (subst (λ (v : Version). IsOfVersion v l3.0) version l3.2) filled l6.2 final (sym whole ∙ text)
