-- A text of a request and a state is read to exactly that request and state, piece by piece, and to nothing else.
use Rattle.std.proofs.Common.{◌≡◌, ℕ, ◌+◌, ◌≤◌, true, ltb, List, [], ◌∷◌, ◌++◌, map, length, refl, sym, ap, subst, ◌∙◌, arith, append-nil, append_assoc, length-append, decimal, codes, Ok, ◌≢◌, Bool, false, ◌⊎◌, inl, inr, Result, Err, IfOk, eqb}
use Rattle.std.proofs.lemmas.Bool.{lt-ltb}
use Rattle.std.specs.List.{concat, flat_map}
use Rattle.std.proofs.lemmas.Fmt.{length-decimal-le_wide}
use Rattle.std.proofs.lemmas.List.{length-map, append_cancel_left}
use Rattle.hex.specs.Hex.{encode_lower}
use Rattle.sabr_model.specs.plan.Plan.{ContactPlan, TabledPlan, IsPlan}
use Rattle.sabr_model.specs.routes.Arrival.{RouteRequest}
use Rattle.sabr_model.specs.routes.Asking.{IsRequest}
use Rattle.sabr_plan.specs.Canonical.{canonical_text, digest_of}
use Rattle.sabr_plan.specs.Steps.{and_then}
use Rattle.sabr_plan.specs.TextReading.{AreRefused, ContinuesAs}
use Rattle.sabr_plan.specs.Times.{time_text_of}
use Rattle.sabr_plan.specs.Words.{TextLines, is_one_line, lines_of, before_lines}
use Rattle.sabr_frontier.specs.listing.State.{PartState, State}
use Rattle.sabr_frontier.specs.listing.Listing.{IsState}
use Rattle.sabr_session.specs.SessionText.{list_text, part_line, plan_line, request_line, old_request_line, state_lines, text_of, old_text_of, HasText, IsUnlimited}
use Rattle.sabr_session.specs.SessionRead.{Said, nothing_said, line_said, read_lines, last_line, said_of, ComesTo, IsSessionOf, Judges}
use Rattle.sabr_session.specs.declared.reading.first_lines.Version.{Version}
use Rattle.sabr_session.specs.declared.reading.first_lines.Version.TheVariants.{One, Two}
use Rattle.sabr_plan.proofs.SpelledNumbers.{same_text}
use Rattle.sabr_plan.proofs.TextReading.{continued_end, continued_on}
use Rattle.sabr_session.proofs.WordLemmas.SpelledWords.{decimal_is_word, digest_length, digest_word}
use Rattle.sabr_session.proofs.TextLemmas.SpelledLines.{joined, AreLines, lines_of-joined, lf_after, concat_line, length-concat, word_line, list_line, list_length, nodes_length, accepted_nodes, accepted_few, time_word, digest_read, emitted_read, count_read, last_read, request_text, old_request_text, request_read, old_request_read, asked_is, old_asked_is, part_pieces, spelled_part, part_line_is, ArePartsOf, read_on, parts_read}
use Rattle.sabr_session.proofs.ReadingLemmas.ShortStates.{StateIsTellable, state_is_tellable}
use Rattle.sabr_plan.proofs.Held.{one_line-append}
use Rattle.sabr_session.specs.SessionWords.{most_number}
use Rattle.sabr_frontier.specs.session.Session.{Seen}
use Rattle.sabr_session.specs.SessionFed.{OpenText, opened_over, outcome_of, IsFed, IsFinished, IsRefusedPiece, IsSessionFrom}
use Rattle.sabr_session.specs.SessionGiven.{said_over}
use Rattle.sabr_session.specs.TextLaws.{AreFed, bytes_of, IsAnswerSoFar, PiecesAreOneText, CanBeTold, IsReadBack, AreApart}
use Rattle.sabr_session.specs.declared.session_fault.SessionFault.{SessionFault}
use Rattle.sabr_session.proofs.ReadingLemmas.SessionOutcomes.{said_of-outcome}
use Rattle.sabr_session.specs.declared.session_fault.SessionFault.TheVariants as fault

-- ---- the lines of a text

-- those after the request
abbrev state_words : State → List (List ℕ)
state_words s =
    (codes "emitted " ++ decimal s.emitted) ∷ (codes "last " ++ list_text s.last) ∷ (codes "parts " ++ decimal (length s.parts))
    ∷ map spelled_part s.parts ++ codes "end" ∷ []

-- all, with these first and third ones
abbrev text_words : List ℕ → List ℕ → List ℕ → State → List (List ℕ)
text_words header h request s = header ∷ (codes "plan " ++ encode_lower h) ∷ (codes "request " ++ request) ∷ state_words s

parts_joined : (ts : List PartState) → flat_map part_line ts ++ codes "end\n" ≡ joined (map spelled_part ts ++ codes "end" ∷ [])
parts_joined [] = refl
parts_joined (t ∷ ts) =
    append_assoc (part_line t) (flat_map part_line ts) (codes "end\n")
    ∙ ap (λ u. part_line t ++ u) (parts_joined ts)
    ∙ lf_after (part_pieces t) (joined (map spelled_part ts ++ codes "end" ∷ []))

state_joined : (s : State) → state_lines s ≡ joined (state_words s)
state_joined s = ap (λ u. codes "emitted " ++ (decimal s.emitted ++ (codes "\nlast " ++ (list_text s.last ++ (codes "\nparts " ++ (decimal (length s.parts) ++ (codes "\n" ++ u))))))) (parts_joined s.parts)

plan_joined : (h u : List ℕ) → plan_line h ++ u ≡ (codes "plan " ++ encode_lower h) ++ 10 ∷ u
plan_joined h u = lf_after (codes "plan " ∷ encode_lower h ∷ []) u ∙ ap (λ d. (codes "plan " ++ d) ++ 10 ∷ u) (append-nil (encode_lower h))

-- the pieces of a request's line
abbrev request_pieces : RouteRequest → List (List ℕ)
request_pieces r =
    codes "request " ∷ decimal r.source ∷ codes " " ∷ decimal r.destination ∷ codes " " ∷ time_text_of r.at ∷ codes " " ∷ decimal r.margin
    ∷ codes " " ∷ decimal r.max_hops ∷ codes " / " ∷ list_text r.avoided ∷ []

abbrev old_request_pieces : RouteRequest → List (List ℕ)
old_request_pieces r = codes "request " ∷ decimal r.source ∷ codes " " ∷ decimal r.destination ∷ codes " " ∷ time_text_of r.at ∷ codes " " ∷ decimal r.margin ∷ []

request_spelled : (r : RouteRequest) → concat (request_pieces r) ≡ codes "request " ++ request_text r
request_spelled r = ap (λ u. codes "request " ++ (decimal r.source ++ 32 ∷ (decimal r.destination ++ 32 ∷ (time_text_of r.at ++ 32 ∷ (decimal r.margin ++ 32 ∷ (decimal r.max_hops ++ 32 ∷ (47 ∷ 32 ∷ u))))))) (append-nil (list_text r.avoided))

request_joined : (r : RouteRequest) (u : List ℕ) → request_line r ++ u ≡ (codes "request " ++ request_text r) ++ 10 ∷ u
request_joined r u = lf_after (request_pieces r) u ∙ ap (λ line. line ++ 10 ∷ u) (request_spelled r)

old_request_joined : (r : RouteRequest) (u : List ℕ) → old_request_line r ++ u ≡ (codes "request " ++ old_request_text r) ++ 10 ∷ u
old_request_joined r u = lf_after (old_request_pieces r) u

text_joined : (h : List ℕ) (r : RouteRequest) (s : State) → text_of h r s ≡ joined (text_words (codes "cgr-session 2") h (request_text r) s)
unfolding text_of
text_joined h r s =
    ap (λ u. codes "cgr-session 2\n" ++ (plan_line h ++ u)) (ap (λ u. request_line r ++ u) (state_joined s) ∙ request_joined r (joined (state_words s)))
    ∙ ap (λ u. codes "cgr-session 2\n" ++ u) (plan_joined h ((codes "request " ++ request_text r) ++ 10 ∷ joined (state_words s)))

old_text_joined : (h : List ℕ) (r : RouteRequest) (s : State) → old_text_of h r s ≡ joined (text_words (codes "cgr-session 1") h (old_request_text r) s)
unfolding old_text_of
old_text_joined h r s =
    ap (λ u. codes "cgr-session 1\n" ++ (plan_line h ++ u)) (ap (λ u. old_request_line r ++ u) (state_joined s) ∙ old_request_joined r (joined (state_words s)))
    ∙ ap (λ u. codes "cgr-session 1\n" ++ u) (plan_joined h ((codes "request " ++ old_request_text r) ++ 10 ∷ joined (state_words s)))

-- ---- they are lines, and short

number_line : (n : ℕ) → n ≤ 340282366920938463463374607431768211455 → is_one_line (decimal n) ≡ true
number_line n h = word_line (decimal n) (decimal_is_word n (omega arith))

number_length : (n : ℕ) → n ≤ 340282366920938463463374607431768211455 → length (decimal n) ≤ 39
number_length n h = length-decimal-le_wide 39 n (omega arith) (omega arith) (omega arith)

parts_lines : (p : ContactPlan) (r : RouteRequest) (ts : List PartState) → ArePartsOf p r ts → AreLines (map spelled_part ts ++ codes "end" ∷ [])
parts_lines p r [] h = (refl, tt)
parts_lines p r (t ∷ ts) h = (part_line_is t h.0.told, parts_lines p r ts h.1)

module _ (r : RouteRequest) (told : IsRequest r) where
  source_within : r.source ≤ 340282366920938463463374607431768211455
  source_within = let b = told.source.1 in omega arith

  destination_within : r.destination ≤ 340282366920938463463374607431768211455
  destination_within = let b = told.destination.1 in omega arith

  margin_within : r.margin ≤ 340282366920938463463374607431768211455
  margin_within = let b = told.margin in omega arith

  hops_within : r.max_hops ≤ 340282366920938463463374607431768211455
  hops_within = let b = told.hops.1 in omega arith

  time_length : length (time_text_of r.at) ≡ 19
  unfolding time_text_of
  time_length = refl

  old_request_is_line : is_one_line (codes "request " ++ old_request_text r) ≡ true
  old_request_is_line =
      concat_line (old_request_pieces r)
      (refl, (number_line r.source source_within, (refl, (number_line r.destination destination_within, (refl, (word_line (time_text_of r.at) (time_word r.at), (refl, (number_line r.margin margin_within, tt))))))))

  request_is_line : is_one_line (codes "request " ++ request_text r) ≡ true
  request_is_line =
      ap is_one_line (sym (request_spelled r))
      ∙ concat_line (request_pieces r)
      (refl, (number_line r.source source_within, (refl, (number_line r.destination destination_within, (refl, (word_line (time_text_of r.at) (time_word r.at), (refl, (number_line r.margin margin_within, (refl, (number_line r.max_hops hops_within, (refl, (list_line 0 18446744073709551615 (omega arith) r.avoided (accepted_nodes r told), tt))))))))))))

  old_request_length : length (codes "request " ++ old_request_text r) ≤ 660008
  old_request_length =
      let whole = length-concat (old_request_pieces r) in
      let a = number_length r.source source_within in
      let b = number_length r.destination destination_within in
      let c = number_length r.margin margin_within in
      let d = time_length in
      omega (arith, whole, a, b, c, d)

  request_length : length (codes "request " ++ request_text r) ≤ 660008
  request_length =
      let same = ap (length {A = ℕ}) (request_spelled r) in
      let whole = length-concat (request_pieces r) in
      let a = number_length r.source source_within in
      let b = number_length r.destination destination_within in
      let c = number_length r.margin margin_within in
      let d = time_length in
      let e = number_length r.max_hops hops_within in
      let f = nodes_length r.avoided (accepted_nodes r told) (accepted_few r told) in
      omega (arith, same, whole, a, b, c, d, e, f)

-- ---- the text is read

module _ (p : ContactPlan) (r : RouteRequest) (s : State) (told : IsRequest r) (state : StateIsTellable p r s) (text : HasText s) (is : IsState p r s) where
  -- what the first three lines say, and what all say
  asked_so : Version → Said
  asked_so v = record { version = v; request = r; emitted = 0; last_route = []; count = 0; parts = [] }

  all_said : Version → Said
  all_said v = record { version = v; request = r; emitted = s.emitted; last_route = s.last; count = length s.parts; parts = s.parts }

  list_short : length (list_text s.last) ≤ 219999
  list_short = list_length 1 most_number (omega arith) s.last state.latest.within state.latest.few

  -- the lines after the request
  state_read : (v : Version) → read_lines p (digest_of p) 4 (asked_so v) (state_words s) ≡ Ok (all_said v)
  unfolding line_said asked_so all_said
  state_read v =
      let s₄ : Said = record { version = v; request = r; emitted = s.emitted; last_route = []; count = 0; parts = [] } in
      let s₅ : Said = record { version = v; request = r; emitted = s.emitted; last_route = s.last; count = 0; parts = [] } in
      let s₆ : Said = record { version = v; request = r; emitted = s.emitted; last_route = s.last; count = length s.parts; parts = [] } in
      let after : List (List ℕ) = map spelled_part s.parts ++ codes "end" ∷ [] in
      let number = number_length s.emitted state.given in
      let count = number_length (length s.parts) (omega (arith, text)) in
      read_on p (digest_of p) 4 (asked_so v) s₄ (codes "emitted " ++ decimal s.emitted) ((codes "last " ++ list_text s.last) ∷ (codes "parts " ++ decimal (length s.parts)) ∷ after)
      (omega (arith, number)) (rw (emitted_read s.emitted state.given) refl)
      ∙ read_on p (digest_of p) 5 s₄ s₅ (codes "last " ++ list_text s.last) ((codes "parts " ++ decimal (length s.parts)) ∷ after)
      (omega (arith, list_short)) (rw (last_read s.last state.latest) refl)
      ∙ read_on p (digest_of p) 6 s₅ s₆ (codes "parts " ++ decimal (length s.parts)) after
      (omega (arith, count)) (rw (count_read (length s.parts) text) refl)
      ∙ parts_read p (digest_of p) 7 s₆ s.parts refl (omega arith) state.each is.order.by_prefix

  state_lines_are : AreLines (state_words s)
  state_lines_are = (
    one_line-append (codes "emitted ") (decimal s.emitted) refl (number_line s.emitted state.given),
    (
      one_line-append (codes "last ") (list_text s.last) refl (list_line 1 most_number (omega arith) s.last state.latest.within),
      (
        one_line-append (codes "parts ") (decimal (length s.parts)) refl (number_line (length s.parts) (omega (arith, text))),
        parts_lines p r s.parts state.each,
      ),
    ),
  )

  plan_is_line : is_one_line (codes "plan " ++ encode_lower (digest_of p)) ≡ true
  plan_is_line = one_line-append (codes "plan ") (encode_lower (digest_of p)) refl (word_line (encode_lower (digest_of p)) (digest_word (canonical_text p)))

  plan_short : length (codes "plan " ++ encode_lower (digest_of p)) ≤ 660008
  plan_short = let digits = digest_length (canonical_text p) in omega (arith, digits)

  -- line 2
  plan_read : (said : Said) → line_said p (digest_of p) 2 said (codes "plan " ++ encode_lower (digest_of p)) ≡ Ok said
  unfolding line_said
  plan_read said = rw (digest_read (canonical_text p), same_text (encode_lower (digest_of p)) (encode_lower (digest_of p)) refl) refl

  -- a text that is these lines, of which all are read
  comes_of : (v : Version) (bytes header request : List ℕ) → bytes ≡ joined (text_words header (digest_of p) request s) → AreLines (text_words header (digest_of p) request s)
      → read_lines p (digest_of p) 1 nothing_said (text_words header (digest_of p) request s) ≡ Ok (all_said v) → IsSessionOf p (digest_of p) bytes true (Ok (r, s))
  unfolding said_of all_said
  comes_of v bytes header request e are read =
      let lines : List (List ℕ) = text_words header (digest_of p) request s in
      let parted : lines_of bytes ≡ record { ended = lines; open_line = [] } = ap lines_of e ∙ lines_of-joined lines are in
      let count = length-append (map spelled_part s.parts) (codes "end" ∷ []) in
      let same = length-map s.parts spelled_part in
      let after : ltb (7 + length s.parts) (length lines + 1) ≡ true = lt-ltb (7 + length s.parts) (length lines + 1) (omega (arith, count, same)) in
      let said : said_of p (digest_of p) bytes true ≡ Ok (all_said v) =
      ap (λ (t : TextLines). and_then (read_lines p (digest_of p) 1 nothing_said t.ended) (last_line true (length t.ended + 1) t.open_line)) parted
      ∙ ap (λ said. and_then said (last_line true (length lines + 1) [])) read
      ∙ rw after refl in
      subst (λ said. ComesTo p said (Ok (r, s))) (sym said) (refl, is)

  pub text_read : IsSessionOf p (digest_of p) (text_of (digest_of p) r s) true (Ok (r, s))
  unfolding line_said asked_so
  text_read =
      let plan : List ℕ = codes "plan " ++ encode_lower (digest_of p) in
      let request : List ℕ = codes "request " ++ request_text r in
      comes_of Two (text_of (digest_of p) r s) (codes "cgr-session 2") (request_text r) (text_joined (digest_of p) r s)
      (refl, (plan_is_line, (request_is_line r told, state_lines_are)))
      (
      read_on p (digest_of p) 1 nothing_said nothing_said (codes "cgr-session 2") (plan ∷ request ∷ state_words s) (omega arith) refl
      ∙ read_on p (digest_of p) 2 nothing_said nothing_said plan (request ∷ state_words s) plan_short (plan_read nothing_said)
      ∙ read_on p (digest_of p) 3 nothing_said (asked_so Two) request (state_words s) (request_length r told) (rw (request_read r told, asked_is r told) refl)
      ∙ state_read Two
      )

  pub old_text_read : IsUnlimited r → IsSessionOf p (digest_of p) (old_text_of (digest_of p) r s) true (Ok (r, s))
  unfolding line_said asked_so
  old_text_read free =
      let plan : List ℕ = codes "plan " ++ encode_lower (digest_of p) in
      let request : List ℕ = codes "request " ++ old_request_text r in
      let s₁ : Said = record nothing_said { version = One } in
      comes_of One (old_text_of (digest_of p) r s) (codes "cgr-session 1") (old_request_text r) (old_text_joined (digest_of p) r s)
      (refl, (plan_is_line, (old_request_is_line r told, state_lines_are)))
      (
      read_on p (digest_of p) 1 nothing_said s₁ (codes "cgr-session 1") (plan ∷ request ∷ state_words s) (omega arith) refl
      ∙ read_on p (digest_of p) 2 s₁ s₁ plan (request ∷ state_words s) plan_short (plan_read s₁)
      ∙ read_on p (digest_of p) 3 s₁ (asked_so One) request (state_words s) (old_request_length r told) (rw (old_request_read r told, old_asked_is r told free) refl)
      ∙ state_read One
      )

-- ---- what pieces of a session text come to, fed one after the other, and the lines of bytes that others follow

-- the lines of a text, and those that begin with its open line
abbrev followed_by : TextLines → TextLines → TextLines
followed_by t u = record { ended = t.ended ++ u.ended; open_line = u.open_line }

byte_before : (b : ℕ) → eqb b 10 ≡ false → (ended : List (List ℕ)) (rest more : List ℕ)
    → before_lines b (followed_by (record { ended = ended; open_line = rest }) (lines_of (rest ++ more)))
    ≡ followed_by (before_lines b (record { ended = ended; open_line = rest })) (lines_of ((before_lines b (record { ended = ended; open_line = rest })).open_line ++ more))
unfolding lines_of
byte_before b other [] rest more = rw other refl
byte_before b other (line ∷ lines) rest more = refl

byte_more : (b : ℕ) (bytes more : List ℕ) (lf : Bool) → eqb b 10 ≡ lf → lines_of (bytes ++ more) ≡ followed_by (lines_of bytes) (lines_of ((lines_of bytes).open_line ++ more))
    → lines_of ((b ∷ bytes) ++ more) ≡ followed_by (lines_of (b ∷ bytes)) (lines_of ((lines_of (b ∷ bytes)).open_line ++ more))
unfolding lines_of
byte_more b bytes more true is so = rw (is, so) refl
byte_more b bytes more false is so = rw (is, so) (byte_before b is (lines_of bytes).ended (lines_of bytes).open_line more)

lines_of-append : (bytes more : List ℕ) → lines_of (bytes ++ more) ≡ followed_by (lines_of bytes) (lines_of ((lines_of bytes).open_line ++ more))
unfolding lines_of
lines_of-append [] more = refl
lines_of-append (b ∷ bytes) more = byte_more b bytes more (eqb b 10) refl (lines_of-append bytes more)

-- what follows goes on with the open line
pub open_line-append : (bytes more : List ℕ) → (lines_of (bytes ++ more)).open_line ≡ (lines_of ((lines_of bytes).open_line ++ more)).open_line
open_line-append bytes more = ap (λ (t : TextLines). t.open_line) (lines_of-append bytes more)

-- after these bytes, what was fed comes to what they come to
abbrev SoFar : TabledPlan → List ℕ → Result OpenText SessionFault → Type 0
SoFar plan bytes (Ok t) = (t.plan ≡ plan) × ContinuesAs (said_over plan) bytes (outcome_of t) × (t.fed.held ≡ (lines_of bytes).open_line)
SoFar plan bytes (Err f) = (f ≡ fault.NoMemory) ⊎ ((f ≢ fault.Read) × AreRefused (said_over plan) bytes f)

module _ (plan : TabledPlan) where
  -- one more piece
  piece_fed : (bytes piece : List ℕ) (old new : Result OpenText SessionFault) (answer : Result (Unit {0}) SessionFault) → SoFar plan bytes old → IsFed old piece answer new → SoFar plan (bytes ++ piece) new
  piece_fed bytes piece (Ok t) (Ok s) (Ok u) so fed =
      let held : s.fed.held ≡ (lines_of (bytes ++ piece)).open_line = fed.held ∙ ap (λ b. (lines_of (b ++ piece)).open_line) so.2 ∙ sym (open_line-append bytes piece) in
      (fed.plan ∙ so.0, continued_on (said_over plan) (outcome_of t) (outcome_of s) bytes piece so.1 fed.same, held)
  piece_fed bytes piece (Ok t) (Err g) (Ok u) so fed = absurd fed
  piece_fed bytes piece (Ok t) new (Err f) so fed = subst (SoFar plan (bytes ++ piece)) (sym fed.0) (by_refusal fed.1)
    where
      by_refusal : IsRefusedPiece t piece f → SoFar plan (bytes ++ piece) (Err f)
      by_refusal (inl memory) = inl memory
      by_refusal (inr (other, all)) = inr (other, continued_on (said_over plan) (outcome_of t) (λ _ _. Err f) bytes piece so.1 all)
  piece_fed bytes piece (Err g) new (Ok u) so fed = absurd fed
  piece_fed bytes piece (Err g) new (Err f) so fed = subst (SoFar plan (bytes ++ piece)) (sym fed.1) (by_refusal so)
    where
      by_refusal : SoFar plan bytes (Err g) → SoFar plan (bytes ++ piece) (Err g)
      by_refusal (inl memory) = inl memory
      by_refusal (inr (other, all)) = inr (other, continued_on (said_over plan) (λ _ _. Err g) (λ _ _. Err g) bytes piece all (λ more ended. refl))

  -- its result
  fault_so : (bytes : List ℕ) (f : SessionFault) → SoFar plan bytes (Err f) → IsAnswerSoFar plan bytes (Err f)
  fault_so bytes f (inl memory) = inl memory
  fault_so bytes f (inr (other, all)) = inr (other, continued_end (said_over plan) (λ _ _. Err f) bytes false all)

  answer_so : (bytes piece : List ℕ) (old new : Result OpenText SessionFault) (answer : Result (Unit {0}) SessionFault) → IsFed old piece answer new → SoFar plan bytes new → IsAnswerSoFar plan bytes answer
  answer_so bytes piece (Ok t) (Ok s) (Ok u) fed so = continued_end (said_over plan) (outcome_of s) bytes false so.1 ∙ fed.fine
  answer_so bytes piece (Ok t) (Err g) (Ok u) fed so = absurd fed
  answer_so bytes piece (Ok t) new (Err f) fed so = fault_so bytes f (subst (SoFar plan bytes) fed.0 so)
  answer_so bytes piece (Err g) new (Ok u) fed so = absurd fed
  answer_so bytes piece (Err g) new (Err f) fed so = fault_so bytes f (subst (SoFar plan bytes) (fed.1 ∙ ap Err (sym fed.0)) so)

  -- one piece after the other
  all_fed : (bytes : List ℕ) (fed : List (List ℕ × Result (Unit {0}) SessionFault)) (old new : Result OpenText SessionFault) → SoFar plan bytes old → AreFed old fed new → SoFar plan (bytes ++ bytes_of fed) new
  all_fed bytes [] old new so are = rw (append-nil bytes, are) so
  all_fed bytes (f ∷ fed) old new so (mid, first, rest) =
      rw (← append_assoc bytes f.0 (bytes_of fed)) (all_fed (bytes ++ f.0) fed mid new (piece_fed bytes f.0 old mid f.1 so first) rest)

  -- what is held
  held_so : (bytes : List ℕ) (old : Result OpenText SessionFault) → SoFar plan bytes old → IfOk old (λ t. t.fed.held ≡ (lines_of bytes).open_line)
  held_so bytes (Ok t) so = so.2
  held_so bytes (Err f) so = tt

  -- the end
  ended_so : (bytes : List ℕ) (old : Result OpenText SessionFault) (answer : Result Seen SessionFault) → SoFar plan bytes old → IsFinished old answer → IsSessionFrom plan (said_over plan bytes true) answer
  ended_so bytes (Ok t) answer so finished = rw (continued_end (said_over plan) (outcome_of t) bytes true so.1, ← so.0) finished
  ended_so bytes (Err f) answer (inl memory) finished = rw finished (inl memory)
  ended_so bytes (Err f) answer (inr (other, all)) finished = rw (finished, continued_end (said_over plan) (λ _ _. Err f) bytes true all) (inr refl)

nothing_held : [] ≡ (lines_of []).open_line
unfolding lines_of
nothing_held = refl

-- pieces are one text
pub pieces_joined : PiecesAreOneText
pieces_joined plan calls fed old are =
    let start : SoFar plan [] (Ok (opened_over plan calls)) = (refl, (λ more ended. said_of-outcome plan.plan (digest_of plan.plan) more ended), nothing_held) in
    let so : SoFar plan (bytes_of fed) old = all_fed plan [] fed (Ok (opened_over plan calls)) old start are in
    record {
      piece = λ piece answer new is. answer_so plan (bytes_of fed ++ piece) piece old new answer is (piece_fed plan (bytes_of fed) piece old new answer so is);
      held = held_so plan (bytes_of fed) old so;
      end = λ answer finished. ended_so plan (bytes_of fed) old answer so finished;
    }

-- ---- a text comes to one answer; so texts that are alike are of one request and one state

-- lines without a fault come to one answer
judged_once : (p : ContactPlan) (s : Said) (a b : Result (RouteRequest × State) SessionFault) → Judges p s a → Judges p s b → a ≡ b
judged_once p s (Ok x) (Ok y) h k = ap Ok (h.0 ∙ sym k.0)
judged_once p s (Ok x) (Err g) h (inl k) = absurd (k.1 h.1.closed)
judged_once p s (Ok x) (Err g) h (inr k) = absurd (k.2 h.1)
judged_once p s (Err f) (Ok y) (inl h) k = absurd (h.1 k.1.closed)
judged_once p s (Err f) (Ok y) (inr h) k = absurd (h.2 k.1)
judged_once p s (Err f) (Err g) (inl h) (inl k) = ap Err (h.0 ∙ sym k.0)
judged_once p s (Err f) (Err g) (inl h) (inr k) = absurd (h.1 k.1)
judged_once p s (Err f) (Err g) (inr h) (inl k) = absurd (k.1 h.1)
judged_once p s (Err f) (Err g) (inr h) (inr k) = ap Err (h.0 ∙ sym k.0)

comes_once : (p : ContactPlan) (said : Result Said SessionFault) (a b : Result (RouteRequest × State) SessionFault) → ComesTo p said a → ComesTo p said b → a ≡ b
comes_once p (Ok s) a b h k = judged_once p s a b h k
comes_once p (Err f) a b h k = h ∙ sym k

-- a text comes to one answer
pub answers_once : (p : ContactPlan) (h bytes : List ℕ) (ended : Bool) (a b : Result (RouteRequest × State) SessionFault)
    → IsSessionOf p h bytes ended a → IsSessionOf p h bytes ended b → a ≡ b
answers_once p h bytes ended a b x y = comes_once p (said_of p h bytes ended) a b x y

-- the texts of two digests are alike together
other_digest : (h k : List ℕ) (r q : RouteRequest) (s t : State) → text_of h r s ≡ text_of h q t → text_of k r s ≡ text_of k q t
unfolding text_of
other_digest h k r q s t e =
    ap (λ u. codes "cgr-session 2\n" ++ (plan_line k ++ u)) (append_cancel_left (plan_line h) _ _ (append_cancel_left (codes "cgr-session 2\n") _ _ e))

old_other_digest : (h k : List ℕ) (r q : RouteRequest) (s t : State) → old_text_of h r s ≡ old_text_of h q t → old_text_of k r s ≡ old_text_of k q t
unfolding old_text_of
old_other_digest h k r q s t e =
    ap (λ u. codes "cgr-session 1\n" ++ (plan_line k ++ u)) (append_cancel_left (plan_line h) _ _ (append_cancel_left (codes "cgr-session 1\n") _ _ e))

module _ (p : ContactPlan) (good : IsPlan p) where
  -- a text is read to what it was written of
  pub is_read_back : (r : RouteRequest) (s : State) → CanBeTold p r s → IsReadBack p r s
  is_read_back r s h =
      let state = state_is_tellable p r good h.accepted s h.formed h.there in
      record {
        text = text_read p r s h.accepted state h.there h.formed;
        old = old_text_read p r s h.accepted state h.there h.formed;
      }

  same : (bytes other : List ℕ) (r q : RouteRequest) (s t : State) → bytes ≡ other → IsSessionOf p (digest_of p) bytes true (Ok (r, s)) → IsSessionOf p (digest_of p) other true (Ok (q, t)) → (r ≡ q) × (s ≡ t)
  same bytes other r q s t e h k =
      let one = answers_once p (digest_of p) other true (Ok (r, s)) (Ok (q, t)) (subst (λ u. IsSessionOf p (digest_of p) u true (Ok (r, s))) e h) k in
      let pair : ◌≡◌ {A = RouteRequest × State} (r, s) (q, t) = cc in
      (ap (λ (x : RouteRequest × State). x.0) pair, ap (λ (x : RouteRequest × State). x.1) pair)

  -- texts that are alike are of one request and one state
  pub are_apart : (h : List ℕ) (r q : RouteRequest) (s t : State) → CanBeTold p r s → CanBeTold p q t → AreApart h r q s t
  are_apart h r q s t one two = record {
    text = λ e. same (text_of (digest_of p) r s) (text_of (digest_of p) q t) r q s t (other_digest h (digest_of p) r q s t e) (is_read_back r s one).text (is_read_back q t two).text;
    old = λ free gratis e. same (old_text_of (digest_of p) r s) (old_text_of (digest_of p) q t) r q s t (old_other_digest h (digest_of p) r q s t e) ((is_read_back r s one).old free) ((is_read_back q t two).old gratis);
  }
