-- Texts that are put into a buffer in turn, and handed to its writer at the end: slices, the lines of a session's text, and those of a report.
use Rattle.std.proofs.Common.{◌≡◌, ℕ, List, [], ◌++◌, Result, Ok, Err, ap, ◌∙◌, sym, append_assoc, append-nil, refl, ◌+◌, ◌<◌, ◌∷◌, map, length, get_or, take, drop, add-one, drop-cons, codes, Option, Some, None, suc, length-take-le, arith}
use Rattle.std.specs.Borrow.{MutBor}
use Rattle.std.specs.Result.{IsErrAnd}
use Rattle.sabr_model.specs.Devices.{Output, WritesText}
use Rattle.sabr_model.proofs.ListLemmas.WrittenTexts.{Written-nil, Written-append, WrittenInPart-after, WrittenInPart-more}
use Rattle.sabr_session.specs.declared.writing.text_buffer.TextBuffer.{TextBuffer}
use Rattle.sabr_session.specs.Gathering.{IsEmptyBefore, HasPut, StopsIn, Puts, Sends}
use Rattle.std.specs.List.{concat, flat_map}
use Rattle.std.proofs.lemmas.List.{take_more, take-append-drop, map-append}
use Rattle.sabr_plan.proofs.SpelledPlans.{flat_map-parted}
use Rattle.std.specs.Option.{option_map}
use Rattle.std.proofs.lemmas.List.Folds.{concat-append}
use Rattle.std.proofs.lemmas.List.Concat.{flat_map-append}
use Rattle.sabr_model.specs.plan.Plan.{ContactPlan}
use Rattle.sabr_model.specs.routes.Arrival.{RouteRequest}
use Rattle.sabr_model.specs.routes.Record.{record_of, RouteRecord}
use Rattle.sabr_frontier.specs.listing.State.{PartState, State}
use Rattle.sabr_frontier.specs.session.Session.{PartSeen, seen_part}
use Rattle.sabr_frontier.specs.tree.Shape.{numbers_of}
use Rattle.sabr_session.specs.SessionText.{part_line, state_lines, counts_pieces, part_shown, seen_line}
use Rattle.std.proofs.Math.Seq.{take-suc}
use Rattle.sabr_session.specs.ReportText.{report_line, report_lines}

-- the bytes held, and two texts: separated after the first text's part that was written
split_at : (h i sent xs ys : List ℕ) → h ++ xs ≡ sent ++ i → h ++ (xs ++ ys) ≡ sent ++ (i ++ ys)
split_at h i sent xs ys e = sym (append_assoc h xs ys) ∙ ap (λ zs. zs ++ ys) e ∙ append_assoc sent i ys

module _ {W : Type 0} {output : W → Output} where
  -- no text changes nothing
  pub HasPut-nil : (a : TextBuffer W) → HasPut output a [] a
  HasPut-nil a = record { same_writer = refl; sent = []; left = append-nil a.held.items; written = Written-nil (output a.writer.now) }

  -- two texts put in turn are the joined text put
  pub HasPut-append : {a b c : TextBuffer W} (xs ys : List ℕ) → HasPut output a xs b → HasPut output b ys c → HasPut output a (xs ++ ys) c
  HasPut-append {a} {b} {c} xs ys p q =
      record {
        same_writer = q.same_writer ∙ p.same_writer;
        sent = p.sent ++ q.sent;
        left = split_at a.held.items b.held.items p.sent xs ys p.left ∙ ap (λ zs. p.sent ++ zs) q.left ∙ sym (append_assoc p.sent q.sent c.held.items);
        written = Written-append (output a.writer.now) (output b.writer.now) (output c.writer.now) p.sent q.sent p.written q.written;
      }

  -- the writer failed, after a text was put
  pub StopsIn-after : {a b c : TextBuffer W} (xs ys : List ℕ)
      → HasPut output a xs b → StopsIn output b (b.held.items ++ ys) c → StopsIn output a (a.held.items ++ (xs ++ ys)) c
  StopsIn-after {a} {b} {c} xs ys p q =
      record {
        same_writer = q.same_writer ∙ p.same_writer;
        stopped = rw (split_at a.held.items b.held.items p.sent xs ys p.left) (WrittenInPart-after (output a.writer.now) (output b.writer.now) (output c.writer.now) p.sent (b.held.items ++ ys) p.written q.stopped);
      }

  -- the writer failed, with more to come
  StopsIn-more : {a c : TextBuffer W} (bytes more : List ℕ) → StopsIn output a bytes c → StopsIn output a (bytes ++ more) c
  StopsIn-more {a} {c} bytes more p = record { same_writer = p.same_writer; stopped = WrittenInPart-more (output a.writer.now) (output c.writer.now) bytes more p.stopped }

  -- the writer failed, with another text to come
  pub StopsIn-before : {a c : TextBuffer W} (xs ys : List ℕ) → StopsIn output a (a.held.items ++ xs) c → StopsIn output a (a.held.items ++ (xs ++ ys)) c
  StopsIn-before {a} xs ys p = rw (← append_assoc a.held.items xs ys) (StopsIn-more (a.held.items ++ xs) ys p)

  -- the first text was put, and then the second is, or the writer fails
  pub Puts-after : {A E : Type 0} {a b : TextBuffer W} (c : TextBuffer W) (xs ys : List ℕ) (r : Result A E)
      → HasPut output a xs b → Puts output b ys r c → Puts output a (xs ++ ys) r c
  Puts-after c xs ys (Ok _) p q = HasPut-append xs ys p q
  Puts-after c xs ys (Err _) p q = StopsIn-after xs ys p q

  -- the writer failed in the first text
  pub Puts-stopped : {A E : Type 0} (P : E → Type 0) {a c : TextBuffer W} (xs ys : List ℕ) (r : Result A E)
      → IsErrAnd r P → StopsIn output a (a.held.items ++ xs) c → Puts output a (xs ++ ys) r c
  Puts-stopped P xs ys (Ok _) bad p = absurd bad
  Puts-stopped P xs ys (Err _) is p = StopsIn-before xs ys p

  -- the writer failed in the bytes held before
  pub Puts-unheld : {A E : Type 0} (P : E → Type 0) {a c : TextBuffer W} (xs : List ℕ) (r : Result A E)
      → IsErrAnd r P → StopsIn output a a.held.items c → Puts output a xs r c
  Puts-unheld P xs (Ok _) bad p = absurd bad
  Puts-unheld P {a} xs (Err _) is p = StopsIn-more a.held.items xs p

  -- the bytes held are written, and then the text goes straight to the writer
  pub Puts-through : {A E : Type 0} {a b : TextBuffer W} (c : TextBuffer W) (xs : List ℕ) (r : Result A E)
      → HasPut output a [] b → b.held.items ≡ [] → c.writer.ghost_name ≡ b.writer.ghost_name → c.held.items ≡ []
      → WritesText (output b.writer.now) xs r (output c.writer.now)
      → Puts output a xs r c
  Puts-through {b = b} c xs (Ok _) p empty same still q =
      HasPut-append {b = b} {c = c} [] xs p (record { same_writer = same; sent = xs; left = ap (λ zs. zs ++ xs) empty ∙ sym (append-nil xs) ∙ ap (λ zs. xs ++ zs) (sym still); written = q })
  Puts-through {b = b} c xs (Err _) p empty same still q = StopsIn-after {b = b} {c = c} [] xs p (record { same_writer = same; stopped = rw empty q })

  -- a text is put into an empty buffer, and the writer failed in it; x is what the writer ends as
  pub WritesText-stopped : {A E : Type 0} (P : E → Type 0) {w : MutBor W} {a c : TextBuffer W} (x : W) (xs : List ℕ) (r : Result A E)
      → IsEmptyBefore w a → (w.ghost_name ≡ c.writer.ghost_name → x ≡ c.writer.now)
      → IsErrAnd r P → StopsIn output a (a.held.items ++ xs) c
      → WritesText (output w.now) xs r (output x)
  WritesText-stopped P x xs (Ok _) new ends bad p = absurd bad
  WritesText-stopped P x xs (Err _) new ends is p =
      rw (ends (sym (p.same_writer ∙ new.same_writer))) (rw (new.empty, new.unchanged) at p.stopped)

  -- a text was put into an empty buffer, and is handed over
  pub WritesText-sent : {A E : Type 0} {w : MutBor W} {a b : TextBuffer W} (c : TextBuffer W) (x : W) (xs : List ℕ) (r : Result A E)
      → IsEmptyBefore w a → (w.ghost_name ≡ c.writer.ghost_name → x ≡ c.writer.now)
      → HasPut output a xs b → Sends output b r c
      → WritesText (output w.now) xs r (output x)
  WritesText-sent {a = a} c x xs (Ok _) new ends p q =
      let t = HasPut-append {c = c} xs [] p q.0 in
      let all : t.sent ≡ xs = sym (append-nil t.sent) ∙ ap (λ zs. t.sent ++ zs) (sym q.1) ∙ sym t.left ∙ ap (λ zs. zs ++ (xs ++ [])) new.empty ∙ append-nil xs in
      rw (ends (sym (t.same_writer ∙ new.same_writer))) (rw (all, new.unchanged) at t.written)
  WritesText-sent {b = b} c x xs (Err _) new ends p q =
      let t = StopsIn-after {b = b} {c = c} xs [] p (rw (append-nil b.held.items) q) in
      rw (ends (sym (t.same_writer ∙ new.same_writer))) (rw (new.empty, append-nil xs, new.unchanged) at t.stopped)

-- ---- pieces and lines that are put into a text one after the other

module _ {X : Type 0} (text : X → List ℕ) where
  -- all of them, joined
  abbrev pub joined : List X → List ℕ
  joined pieces = concat (map text pieces)

  joined-append : (xs ys : List X) → joined (xs ++ ys) ≡ joined xs ++ joined ys
  joined-append [] ys = refl
  joined-append (x ∷ xs) ys = ap (λ zs. text x ++ zs) (joined-append xs ys) ∙ sym (append_assoc (text x) (joined xs) (joined ys))

  -- one more of them
  pub joined-more : (xs : List X) (i : ℕ) (d : X) → i < length xs → joined (take (i + 1) xs) ≡ joined (take i xs) ++ text (get_or xs i d)
  joined-more xs i d h =
      ap joined (take_more xs i d h) ∙ joined-append (take i xs) (get_or xs i d ∷ []) ∙ ap (λ z. joined (take i xs) ++ z) (append-nil (text (get_or xs i d)))

  -- those before one of them, that one, and those after it
  pub joined-at : (xs : List X) (i : ℕ) (d : X) → i < length xs → joined xs ≡ joined (take i xs) ++ (text (get_or xs i d) ++ joined (drop (i + 1) xs))
  joined-at xs i d h =
      ap joined (sym (take-append-drop i xs)) ∙ joined-append (take i xs) (drop i xs)
      ∙ ap (λ z. joined (take i xs) ++ joined z) (drop-cons xs i d h ∙ ap (λ k. get_or xs i d ∷ drop k xs) (sym (add-one i)))

-- the lines of the first n records, which are ys, that of the next, which is x, and those after it
pub lines-at : {X : Type 0} (line : X → List ℕ) (all ys : List X) (n : ℕ) (x : X) → ys ≡ take n all → (n < length all) × (x ≡ get_or all n x)
    → flat_map line all ≡ flat_map line ys ++ (line x ++ flat_map line (drop (n + 1) all))
lines-at line all ys n x e h =
    let rest : List ℕ = flat_map line (drop (n + 1) all) in
    flat_map-parted line all n x h.0
    ∙ append_assoc (flat_map line (take n all)) (line (get_or all n x)) rest
    ∙ ap (λ zs. flat_map line zs ++ (line (get_or all n x) ++ rest)) (sym e)
    ∙ ap (λ y. flat_map line ys ++ (line y ++ rest)) (sym h.1)

module _ {W : Type 0} {output : W → Output} where
  -- one more piece is put
  pub HasPut-piece : {X : Type 0} (text : X → List ℕ) {a b c : TextBuffer W} (xs : List X) (place : ℕ) (d : X) → place < length xs
      → HasPut output a (joined text (take place xs)) b → HasPut output b (text (get_or xs place d)) c → HasPut output a (joined text (take (place + 1) xs)) c
  HasPut-piece text xs place d l p q = rw (joined-more text xs place d l) (HasPut-append (joined text (take place xs)) (text (get_or xs place d)) p q)

  -- the writer failed in one of the pieces
  pub Puts-in_piece : {X A E : Type 0} (text : X → List ℕ) (P : E → Type 0) {a b c : TextBuffer W} (xs : List X) (place : ℕ) (d : X) (r : Result A E) → place < length xs
      → IsErrAnd r P → HasPut output a (joined text (take place xs)) b → StopsIn output b (b.held.items ++ text (get_or xs place d)) c → Puts output a (joined text xs) r c
  Puts-in_piece text P {c = c} xs place d r l is p q =
      rw (joined-at text xs place d l)
      (Puts-after c (joined text (take place xs)) (text (get_or xs place d) ++ joined text (drop (place + 1) xs)) r p
      (Puts-stopped P (text (get_or xs place d)) (joined text (drop (place + 1) xs)) r is q))

-- ---- the lines of a session's text, made of their pieces

-- the lines of a state
pub state_in_pieces : (s : State) → state_lines s ≡ concat (counts_pieces s) ++ (flat_map part_line s.parts ++ codes "end\n")
state_in_pieces s = concat-append (counts_pieces s) (flat_map part_line s.parts ∷ codes "end\n" ∷ [])

-- the numbers of the record of a route
numbers_of_record : (p : ContactPlan) (r : RouteRequest) (o : Option (List ℕ)) → option_map numbers_of (option_map (record_of p r) o) ≡ o
numbers_of_record p r None = refl
numbers_of_record p r (Some s) = refl

-- what a session shows of a part is the part
part_seen : (p : ContactPlan) (r : RouteRequest) (t : PartState) → part_shown (seen_part p r t) ≡ t
part_seen p r t =
    let same : ◌≡◌ {A = PartState} (record { prefix = t.prefix; excluded = t.excluded; carried = option_map numbers_of (option_map (record_of p r) t.carried) }) (record { prefix = t.prefix; excluded = t.excluded; carried = t.carried }) = rw (numbers_of_record p r t.carried) refl in
    same

-- the lines of what a session shows are the lines of the parts
lines_seen : (p : ContactPlan) (r : RouteRequest) (ts : List PartState) → flat_map seen_line (map (seen_part p r) ts) ≡ flat_map part_line ts
lines_seen p r [] = refl
lines_seen p r (t ∷ ts) = ap (λ u. part_line u ++ flat_map seen_line (map (seen_part p r) ts)) (part_seen p r t) ∙ ap (λ zs. part_line t ++ zs) (lines_seen p r ts)

pub lines_of_seen : (p : ContactPlan) (r : RouteRequest) (seen : List PartSeen) (ts : List PartState) → seen ≡ map (seen_part p r) ts → flat_map seen_line seen ≡ flat_map part_line ts
lines_of_seen p r seen ts e = ap (flat_map seen_line) e ∙ lines_seen p r ts

-- one more line
pub lines-more : {X : Type 0} (view : X → PartSeen) (xs : List X) (x : X) → flat_map seen_line (map view (xs ++ x ∷ [])) ≡ flat_map seen_line (map view xs) ++ seen_line (view x)
lines-more view xs x =
    ap (flat_map seen_line) (map-append view xs (x ∷ [])) ∙ flat_map-append seen_line (map view xs) (view x ∷ [])
    ∙ ap (λ zs. flat_map seen_line (map view xs) ++ zs) (append-nil (seen_line (view x)))

-- ---- the lines of a report, route by route

-- two lists of routes in turn
pub report_lines-append : (rank : ℕ) (xs ys : List RouteRecord) → report_lines rank (xs ++ ys) ≡ report_lines rank xs ++ report_lines (rank + length xs) ys
report_lines-append rank [] ys = ap (λ k. report_lines k ys) (omega arith)
report_lines-append rank (x ∷ xs) ys =
    let same : rank + 1 + length xs ≡ rank + length (x ∷ xs) = omega arith in
    ap (λ zs. report_line rank x ++ zs) (report_lines-append (rank + 1) xs ys ∙ ap (λ k. report_lines (rank + 1) xs ++ report_lines k ys) same)
    ∙ sym (append_assoc (report_line rank x) (report_lines (rank + 1) xs) (report_lines (rank + length (x ∷ xs)) ys))

-- the same, where the first list is a beginning of that length
from_place : (rank : ℕ) (xs : List RouteRecord) (i : ℕ) (ys : List RouteRecord) → i < length xs → report_lines (rank + length (take i xs)) ys ≡ report_lines (rank + i) ys
from_place rank xs i ys h = ap (λ k. report_lines (rank + k) ys) (length-take-le i xs (omega (arith, h)))

-- the route at a place, with those before it and those after it
pub report_lines-at : (rank : ℕ) (xs : List RouteRecord) (i : ℕ) (d : RouteRecord) → i < length xs
    → report_lines rank xs ≡ report_lines rank (take i xs) ++ (report_line (rank + i) (get_or xs i d) ++ report_lines (rank + i + 1) (drop (suc i) xs))
report_lines-at rank xs i d h =
    ap (report_lines rank) (sym (take-append-drop i xs)) ∙ report_lines-append rank (take i xs) (drop i xs)
    ∙ ap (λ zs. report_lines rank (take i xs) ++ zs) (from_place rank xs i (drop i xs) h ∙ ap (report_lines (rank + i)) (drop-cons xs i d h))

-- one more route
pub report_lines-take : (rank : ℕ) (xs : List RouteRecord) (i : ℕ) (d : RouteRecord) → i < length xs
    → report_lines rank (take (suc i) xs) ≡ report_lines rank (take i xs) ++ report_line (rank + i) (get_or xs i d)
report_lines-take rank xs i d h =
    ap (report_lines rank) (take-suc xs i d h) ∙ report_lines-append rank (take i xs) (get_or xs i d ∷ [])
    ∙ ap (λ zs. report_lines rank (take i xs) ++ zs) (from_place rank xs i (get_or xs i d ∷ []) h ∙ append-nil (report_line (rank + i) (get_or xs i d)))
