-- The words of a line of requests or of lists, lists of at most 16 numbers, and what the command line is to clap.
use Rattle.std.proofs.Common.{◌≡◌, ℕ, ◌+◌, ◌<◌, Bool, drop, drop-drop, List, [], ◌∷◌, length, true, false, refl, sym, ap, ◌∙◌, arith, Bor, Result, Ok, Err, ◌≤◌, cond, ◌++◌, map, length-append, ◌≢◌, ap₂, inl, inr}
use Rattle.std.specs.Prelude.{is_some, option_and_then, nat_le, if◌then◌else◌}
use Rattle.std.specs.Option.{option_copied}
use Rattle.commands.specs.words.Values.{first_of, TextsGiven, numbers_within}
use Rattle.sabr_plan.specs.Pieces.{pieces_of, pieces_after}
use Rattle.sabr_plan.proofs.TextPieces.{some_piece}
use Rattle.std.specs.Result.{result_err}
use Rattle.commands.specs.words.Lines.{texts_of, after_contacts, after_listed, fault_of, list_in, list_texts_in, list_where_given, or_kind, request_by}
use Rattle.std.specs.declared.option.Option.{Option}
use Rattle.std.specs.declared.option.Option.TheVariants.{Some, None}
use Rattle.sabr_model.specs.routes.Arrival.{RouteRequest}
use Rattle.sabr_session.specs.SessionWords.{most_number, all_of}
use Rattle.commands.specs.declared.words.lines.LineKind.{LineKind}
use Rattle.commands.specs.declared.words.lines.LineKind.TheVariants.{BadContacts, BadLine}
use Rattle.std.proofs.lemmas.Bool.{le-leb, lt-leb}
use Rattle.sabr_session.proofs.WordLemmas.ReadLists.{with_front, with_front-on}
use Rattle.clap.specs.Words.{HasKind, IsAmong, Kinds, is_simple, is_simple_and_free, kind_of}
use Rattle.clap.specs.declared.error.Error.{Error}
use Rattle.clap.specs.declared.error.kind.ErrorKind.{ErrorKind}
use Rattle.clap.proofs.OnLiterals.{clap_on_literals}
use Rattle.commands.specs.words.CommandLine.{program_app}
use Rattle.clap.specs.declared.error.kind.ErrorKind.TheVariants as kind

-- a word and what stands after it, of what stood after the word before
pub record Turns (ws : List (List ℕ)) (a b c d e f : Option (List ℕ)) (w₁ w₂ w₃ w₄ w₅ w₆ : List (List ℕ)) : Type 0 where
  pub first : (a, w₁) ≡ first_of ws
  pub second : (b, w₂) ≡ first_of w₁
  pub third : (c, w₃) ≡ first_of w₂
  pub fourth : (d, w₄) ≡ first_of w₃
  pub fifth : (e, w₅) ≡ first_of w₄
  pub sixth : (f, w₆) ≡ first_of w₅

-- the word at this place, from 0, if there is one
abbrev word_at : ℕ → List (List ℕ) → Option (List ℕ)
word_at place ws = (first_of (drop place ws)).0

-- three to six words as texts, by their places
by_places : (ws : List (List ℕ))
    → (if is_some (word_at 6 ws) then None else (if is_some (word_at 2 ws) then Some (record { from = word_at 0 ws; to = word_at 1 ws; at = word_at 2 ws; margin = word_at 3 ws; hops = word_at 4 ws; avoid = word_at 5 ws }) else None)) ≡ texts_of ws
by_places [] = refl
by_places (a ∷ []) = refl
by_places (a ∷ b ∷ []) = refl
by_places (a ∷ b ∷ c ∷ []) = refl
by_places (a ∷ b ∷ c ∷ d ∷ []) = refl
by_places (a ∷ b ∷ c ∷ d ∷ x ∷ []) = refl
by_places (a ∷ b ∷ c ∷ d ∷ x ∷ y ∷ []) = refl
by_places (a ∷ b ∷ c ∷ d ∷ x ∷ y ∷ z ∷ ws) = refl

others : (ws : List (List ℕ)) → (first_of ws).1 ≡ drop 1 ws
others [] = refl
others (a ∷ ws) = refl

-- a word and what stands after it, of what stands from a place on
from_place : (ws : List (List ℕ)) (place : ℕ) (a : Option (List ℕ)) (w v : List (List ℕ)) → w ≡ drop place ws → (a, v) ≡ first_of w → (a ≡ word_at place ws) × (v ≡ drop (place + 1) ws)
from_place ws place a w v from is = (
  ap (λ (z : Option (List ℕ) × List (List ℕ)). z.0) is ∙ ap (λ (ps : List (List ℕ)). (first_of ps).0) from,
  ap (λ (z : Option (List ℕ) × List (List ℕ)). z.1) is ∙ others w ∙ ap (λ (ps : List (List ℕ)). drop 1 ps) from ∙ drop-drop 1 place ws,
)

-- a borrowed text is there if it is there
pub copied_some : (o : Option (Bor (List ℕ))) → is_some (option_copied o) ≡ is_some o
copied_some None = refl
copied_some (Some text) = refl

has_first : (ps : List (List ℕ)) → 0 < length ps → is_some (first_of ps).0 ≡ true
has_first [] some = absurd (omega arith)
has_first (p ∷ ps) some = refl

some_after : (o : Option (List ℕ)) → is_some o ≡ is_some (first_of (pieces_after 32 o)).0
some_after None = refl
some_after (Some text) = sym (has_first (pieces_of 32 text) (some_piece 32 text))

either_same : (t : Bool) (x : Option TextsGiven) → (if t then x else x) ≡ x
either_same true x = refl
either_same false x = refl

module _ (ws : List (List ℕ)) (a b c d e f : Option (List ℕ)) (w₁ w₂ w₃ w₄ w₅ : List (List ℕ)) (o : Option (List ℕ)) (h : Turns ws a b c d e f w₁ w₂ w₃ w₄ w₅ (pieces_after 32 o)) where
  abbrev texts : TextsGiven
  texts = record { from = a; to = b; at = c; margin = d; hops = e; avoid = f }

  in_turn : (if is_some o then None else (if is_some c then Some texts else None)) ≡ texts_of ws
  in_turn =
      let one = from_place ws 0 a ws w₁ refl h.first in
      let two = from_place ws 1 b w₁ w₂ one.1 h.second in
      let three = from_place ws 2 c w₂ w₃ two.1 h.third in
      let four = from_place ws 3 d w₃ w₄ three.1 h.fourth in
      let five = from_place ws 4 e w₄ w₅ four.1 h.fifth in
      let six = from_place ws 5 f w₅ (pieces_after 32 o) five.1 h.sixth in
      let more : is_some o ≡ is_some (word_at 6 ws) = some_after o ∙ ap (λ (ps : List (List ℕ)). is_some (first_of ps).0) six.1 in
      (λ i. if more i then None else (if is_some (three.0 i) then Some (record { from = one.0 i; to = two.0 i; at = three.0 i; margin = four.0 i; hops = five.0 i; avoid = six.0 i }) else None)) ∙ by_places ws

  -- fewer than three words are no texts
  pub too_few : is_some c ≡ false → None ≡ texts_of ws
  too_few none = sym (either_same (is_some o) None) ∙ ap (λ (t : Bool). if is_some o then None else (if t then Some texts else None)) (sym none) ∙ in_turn

  -- more than six words aren't either
  pub too_many : is_some o ≡ true → None ≡ texts_of ws
  too_many more = ap (λ (t : Bool). if t then None else (if is_some c then Some texts else None)) (sym more) ∙ in_turn

  -- three to six are
  pub they_fit : is_some c ≡ true → is_some o ≡ false → Some (record { from = a; to = b; at = c; margin = d; hops = e; avoid = f }) ≡ texts_of ws
  they_fit some none =
      ap (λ (t : Bool). if t then Some texts else None) (sym some)
      ∙ ap (λ (t : Bool). if t then None else (if is_some c then Some texts else None)) (sym none)
      ∙ in_turn

-- ---- the lines of lists

none_there : (o : Option (List ℕ)) → is_some o ≡ false → o ≡ None
none_there None e = refl
none_there (Some contacts) e = absurd cc

some_there : (o : Option (List ℕ)) → is_some o ≡ true → (contacts : List ℕ) × (o ≡ Some contacts)
some_there None e = absurd cc
some_there (Some contacts) e = (contacts, refl)

-- a line with a fault asks nothing
module _ (line : List ℕ) where
  -- a line that is too long, or has too few words or too many
  pub not_texts : None ≡ list_texts_in line → list_in line ≡ Err BadLine
  unfolding list_in
  not_texts is = ap list_where_given (sym is)

  module _ (numbers : List ℕ) (texts : TextsGiven) (is : Some (numbers, texts) ≡ list_texts_in line) where
    by_numbers : list_in line ≡ after_listed (numbers_within 1 most_number numbers) (or_kind (request_by texts))
    unfolding list_in
    by_numbers = ap list_where_given (sym is)

    -- bad contacts
    pub not_contacts : is_some (numbers_within 1 most_number numbers) ≡ false → list_in line ≡ Err BadContacts
    not_contacts none = by_numbers ∙ ap (λ o. after_listed o (or_kind (request_by texts))) (none_there (numbers_within 1 most_number numbers) none)

    -- contacts, and then a request or what is bad in it
    with_contacts : is_some (numbers_within 1 most_number numbers) ≡ true → (r : Result RouteRequest LineKind) → or_kind (request_by texts) ≡ r
        → (contacts : List ℕ) × (numbers_within 1 most_number numbers ≡ Some contacts) × (list_in line ≡ after_contacts contacts r)
    with_contacts some r is =
        let (contacts, there) = some_there (numbers_within 1 most_number numbers) some in
        (contacts, there, by_numbers ∙ ap (λ o. after_listed o (or_kind (request_by texts))) there ∙ ap (after_contacts contacts) is)

    -- what the line asks, from what was found of both
    pub asked_by : (found : Option (List ℕ)) → numbers_within 1 most_number numbers ≡ found → (r : Result RouteRequest LineKind) → or_kind (request_by texts) ≡ r → list_in line ≡ after_listed found r
    asked_by found is r same = by_numbers ∙ ap₂ after_listed is same

    -- contacts, and then what is bad is what is bad in the request
    pub fault_listed : is_some (numbers_within 1 most_number numbers) ≡ true → (r : Result RouteRequest LineKind) → or_kind (request_by texts) ≡ r → fault_of (list_in line) ≡ result_err r
    fault_listed some (Ok q) is = ap fault_of (with_contacts some (Ok q) is).2
    fault_listed some (Err kind) is = ap fault_of (with_contacts some (Err kind) is).2

-- ---- at most 16 numbers

abbrev pub few : Option (List ℕ) → Option (List ℕ)
few found = option_and_then (λ ns. if nat_le (length ns) 16 then Some ns else None) found

pub few-kept : (found : Option (List ℕ)) (ns : List ℕ) → found ≡ Some ns → length ns ≤ 16 → few found ≡ Some ns
few-kept found ns e h = ap few e ∙ ap (λ t. cond t (Some ns) None) (le-leb (length ns) 16 h)

full : (so_far : List ℕ) (n : ℕ) (rest : Option (List ℕ)) → length so_far ≡ 16 → few (with_front (so_far ++ n ∷ []) rest) ≡ None
full so_far n None h = refl
full so_far n (Some ns) h =
    let more : 16 < length ((so_far ++ n ∷ []) ++ ns) = omega (arith, length-append (so_far ++ n ∷ []) ns, length-append so_far (n ∷ []), h) in
    ap (λ t. cond t (Some ((so_far ++ n ∷ []) ++ ns)) None) (lt-leb (length ((so_far ++ n ∷ []) ++ ns)) 16 more)

-- one more after 16
pub few-full : (f : List ℕ → Option ℕ) (so_far : List ℕ) (whole : Option (List ℕ)) (ps qs : List (List ℕ)) (p : List ℕ) (n : ℕ)
    → whole ≡ with_front so_far (all_of (map f ps)) → ps ≡ p ∷ qs → f p ≡ Some n → length so_far ≡ 16 → few whole ≡ None
few-full f so_far whole ps qs p n w e is h = ap few (with_front-on f so_far whole ps qs p n w e is) ∙ full so_far n (all_of (map f qs)) h

-- ---- the command line

-- a list that has a kind isn't empty
among_some : (k : ErrorKind) (kinds : Kinds) → IsAmong k kinds → kinds ≢ []
among_some k [] h = absurd h
among_some k (x ∷ xs) h = λ e. absurd cc

-- an error that isn't refused memory has one of the kinds
pub has_fault : (e : Error) (kinds : Kinds) → HasKind kinds e → kind_of e ≢ kind.OutOfMemory → kinds ≢ []
has_fault e kinds (inl memory) other = absurd (other memory)
has_fault e kinds (inr among) other = among_some (kind_of e) kinds among

pub is_simple_program : is_simple program_app ≡ true
unfolding clap_on_literals
is_simple_program = refl

pub is_free_program : is_simple_and_free program_app ≡ true
unfolding clap_on_literals
is_free_program = refl
