-- What a text of requests or of lists says: one a line, each word read as strictly as the option of its name.
use Rattle.std.specs.Prelude.{◌≡◌, ℕ, ◌+◌, ◌-◌, ◌≤◌, nat_lt, true, false, ◌&&◌, ◌||◌, Bool, List, [], ◌∷◌, ◌++◌, length, drop, option_map, Result, Ok, Err, if◌then◌else◌}
use Rattle.sabr_model.specs.Devices.{Input}
use Rattle.std.specs.Result.{result_err}
use Rattle.std.specs.declared.option.Option.{Option}
use Rattle.std.specs.declared.option.Option.TheVariants.{Some, None}
use Rattle.sabr_model.specs.routes.Arrival.{RouteRequest}
use Rattle.commands.specs.declared.words.value_fault.ValueName.TheVariants as name
use Rattle.commands.specs.declared.words.value_fault.ValueFault.{ValueFault}
use Rattle.commands.specs.declared.words.value_fault.ValueFault.TheVariants as value
use Rattle.commands.specs.declared.words.lines.LineKind.{LineKind}
use Rattle.commands.specs.declared.words.lines.LineKind.TheVariants.{BadContacts, BadFrom, BadTo, BadAt, BadMargin, BadHops, BadAvoid, SameNode, BadLine}
use Rattle.commands.specs.declared.words.lines.LinesFault.{LinesFault}
use Rattle.commands.specs.declared.words.lines.LinesFault.TheVariants.{Line, Read, NoMemory}
use Rattle.commands.specs.declared.words.lines.LineForm.{LineForm}
use Rattle.commands.specs.declared.words.lines.LineForm.TheVariants.{Requests, Lists}
use Rattle.commands.specs.declared.words.lines.Judged.{Judged}
use Rattle.commands.specs.declared.words.request_line.Listed.{Listed}
use Rattle.sabr_plan.specs.Words.{is_one_line}
use Rattle.sabr_plan.specs.Pieces.{pieces_of}
use Rattle.sabr_plan.specs.TextReading.{EndsText, ReadsBytes, RefusesText}
use Rattle.sabr_session.specs.SessionWords.{most_number}
use Rattle.commands.specs.words.Values.{numbers_within, TextsGiven, and_then, request_words, request_of}

-- what is bad in a line, by the fault of its values; a value that no line has would be no part of a line
abbrev pub kind_of : ValueFault → LineKind
kind_of (value.Bad name.From) = BadFrom
kind_of (value.Bad name.To) = BadTo
kind_of (value.Bad name.At) = BadAt
kind_of (value.Bad name.MarginPpm) = BadMargin
kind_of (value.Bad name.MaxHops) = BadHops
kind_of (value.Bad name.Avoid) = BadAvoid
kind_of (value.Bad name.Contacts) = BadContacts
kind_of value.BadAvoid = BadAvoid
kind_of value.SameNode = SameNode
kind_of _ = BadLine

-- the request of the texts that are given for it
abbrev pub request_by : TextsGiven → Result RouteRequest ValueFault
request_by texts = and_then (request_words texts) request_of

-- three to six words as the texts of a request, in their order
abbrev pub texts_of : List (List ℕ) → Option TextsGiven
texts_of (from ∷ to ∷ at ∷ []) = Some (record { from = Some from; to = Some to; at = Some at; margin = None; hops = None; avoid = None })
texts_of (from ∷ to ∷ at ∷ margin ∷ []) = Some (record { from = Some from; to = Some to; at = Some at; margin = Some margin; hops = None; avoid = None })
texts_of (from ∷ to ∷ at ∷ margin ∷ hops ∷ []) = Some (record { from = Some from; to = Some to; at = Some at; margin = Some margin; hops = Some hops; avoid = None })
texts_of (from ∷ to ∷ at ∷ margin ∷ hops ∷ avoid ∷ []) = Some (record { from = Some from; to = Some to; at = Some at; margin = Some margin; hops = Some hops; avoid = Some avoid })
texts_of _ = None

-- the space, which separates words, and LF, which ends lines
abbrev pub space : ℕ
space = 32

abbrev pub line_feed : ℕ
line_feed = 10

-- the most bytes of a line; no line of a request is longer
abbrev pub most_line_bytes : ℕ
most_line_bytes = 411

-- the most lines of a text
abbrev pub most_lines : ℕ
most_lines = 1000000

-- a value, or the kind of its fault
abbrev pub or_kind : {A : Type 0} → Result A ValueFault → Result A LineKind
or_kind (Ok a) = Ok a
or_kind (Err fault) = Err (kind_of fault)

-- the request of these texts, if there are any
abbrev pub request_where_given : Option TextsGiven → Result RouteRequest LineKind
request_where_given None = Err BadLine
request_where_given (Some texts) = or_kind (request_by texts)

-- the request of a line, or what is bad in it
unfoldable pub request_in : List ℕ → Result RouteRequest LineKind
request_in line = if nat_lt most_line_bytes (length line) then Err BadLine else request_where_given (texts_of (pieces_of space line))

-- what a line asks: a request, and the contacts before it; none if its form has none
pub record Asked : Type 0 where
  pub contacts : List ℕ
  pub request : RouteRequest

-- these contacts and then a request
abbrev pub after_contacts : List ℕ → Result RouteRequest LineKind → Result Asked LineKind
after_contacts contacts (Ok r) = Ok (record { contacts = contacts; request = r })
after_contacts contacts (Err kind) = Err kind

-- the contacts that a text lists, and then a request
abbrev pub after_listed : Option (List ℕ) → Result RouteRequest LineKind → Result Asked LineKind
after_listed None request = Err BadContacts
after_listed (Some contacts) request = after_contacts contacts request

-- the first of four to seven words as the text of contacts, and the others as those of a request
abbrev pub list_texts_of : List (List ℕ) → Option (List ℕ × TextsGiven)
list_texts_of [] = None
list_texts_of (contacts ∷ words) = option_map (λ texts. (contacts, texts)) (texts_of words)

-- the contacts and the request of these texts, if there are any
abbrev pub list_where_given : Option (List ℕ × TextsGiven) → Result Asked LineKind
list_where_given None = Err BadLine
list_where_given (Some (contacts, texts)) = after_listed (numbers_within 1 most_number contacts) (or_kind (request_by texts))

-- the most bytes of a line of lists: 20000 numbers of ten digits, each with a byte after it, and a request
abbrev pub most_list_bytes : ℕ
most_list_bytes = 220411

-- the texts of a line of lists that isn't too long
abbrev pub list_texts_in : List ℕ → Option (List ℕ × TextsGiven)
list_texts_in line = if nat_lt most_list_bytes (length line) then None else list_texts_of (pieces_of space line)

-- the contacts and the request of a line of lists, or what is bad in it
unfoldable pub list_in : List ℕ → Result Asked LineKind
list_in line = list_where_given (list_texts_in line)

-- what was read of a line of lists, without the memory that holds it
abbrev pub seen_list : {A : Type 0} → Listed A → Asked
seen_list listed = record { contacts = listed.contacts; request = listed.request }

-- what a line of this form asks, or what is bad in it
abbrev pub asked_in : LineForm → List ℕ → Result Asked LineKind
asked_in Requests line = after_contacts [] (request_in line)
asked_in Lists line = list_in line

-- a line and what it asks
pub record AskedLine : Type 0 where
  pub line : List ℕ
  pub asked : Asked

-- without an empty piece at the end: what stands after the last LF is a line only if it has a byte
abbrev pub without_last_empty : List (List ℕ) → List (List ℕ)
without_last_empty [] = []
without_last_empty ([] ∷ []) = []
without_last_empty (line ∷ lines) = line ∷ without_last_empty lines

-- the lines of a text
unfoldable pub lines_in : List ℕ → List (List ℕ)
lines_in text = without_last_empty (pieces_of line_feed text)

-- what the line of this number asks; one after the last line that a text may have is bad
abbrev pub asked_at : LineForm → ℕ → List ℕ → Result Asked LineKind
asked_at form n line = if nat_lt most_lines n then Err BadLine else asked_in form line

-- a line before others, unless one of them is refused, the first of them first
abbrev pub put_first : ℕ → List ℕ → Result Asked LineKind → Result (List AskedLine) LinesFault → Result (List AskedLine) LinesFault
put_first n line (Err kind) rest = Err (Line n kind)
put_first n line (Ok a) (Err fault) = Err fault
put_first n line (Ok a) (Ok xs) = Ok (record { line = line; asked = a } ∷ xs)

-- what lines ask, of which the first has this number, or the first bad line
abbrev pub asked_from : LineForm → ℕ → List (List ℕ) → Result (List AskedLine) LinesFault
asked_from form n [] = Ok []
asked_from form n (line ∷ lines) = put_first n line (asked_at form n line) (asked_from form (n + 1) lines)

-- what the lines of a text ask, or its first bad line
abbrev pub asked_by : LineForm → List ℕ → Result (List AskedLine) LinesFault
asked_by form text = asked_from form 1 (lines_in text)

-- the most bytes of a line of this form
abbrev pub most_bytes : LineForm → ℕ
most_bytes Requests = most_line_bytes
most_bytes Lists = most_list_bytes

-- the fault of what was refused
abbrev pub fault_of : {A E : Type 0} → Result A E → Option E
fault_of r = result_err r

-- the first bad line of a text whose first line has this number
abbrev pub fault_in : LineForm → ℕ → List ℕ → Option LinesFault
fault_in form n text = fault_of (asked_from form n (lines_in text))

-- the lines before this place are good: with any bytes after the text, its first bad line is found from there on
pub record IsJudged (form : LineForm) (text : List ℕ) (j : Judged) : Type 0 where
  pub few : j.number ≤ most_lines + 1
  pub within : j.bytes ≤ length text
  pub same : (more : List ℕ) → fault_in form 1 (text ++ more) ≡ fault_in form j.number (drop j.bytes text ++ more)

-- whether a line of this number is bad once this number of its bytes is read, with any bytes after them
abbrev pub is_bad_rest : LineForm → ℕ → ℕ → Bool
is_bad_rest form n bytes = nat_lt (most_bytes form) bytes || (nat_lt 0 bytes && nat_lt most_lines n)

-- no line of a text is bad so far: those that LF ended are good, and the one after them is neither too long nor too many
pub record IsGoodSoFar (form : LineForm) (text : List ℕ) (j : Judged) : Type 0 where
  pub judged : IsJudged form text j
  pub rest : is_one_line (drop j.bytes text) ≡ true
  pub fits : is_bad_rest form j.number (length text - j.bytes) ≡ false

-- this is the first bad line of a text, with any bytes after it
abbrev pub IsRefused : LineForm → List ℕ → LinesFault → Type 0
IsRefused form text fault = (more : List ℕ) → fault_in form 1 (text ++ more) ≡ Some fault

-- the reader failed after these bytes, of which no line is bad
abbrev pub BreaksLines : LineForm → Input → List ℕ → Result (List AskedLine) LinesFault → Input → Type 0
BreaksLines form old given answer new = (answer ≡ Err Read) × (new.failures ≡ old.failures + 1) × ((j : Judged) × IsGoodSoFar form given j)

-- reading a text of such lines to its end, or up to its first bad line, a fault of its reader or a failed allocation
abbrev pub ReadsLines : LineForm → Input → Result (List AskedLine) LinesFault → Input → Type 0
ReadsLines form =
    let text : List ℕ → Bool → Result (List AskedLine) LinesFault = λ bytes ended. asked_by form bytes in
    ReadsBytes (EndsText text (λ asked answer. asked ≡ answer)) (BreaksLines form) (RefusesText text (λ f. f ≡ Read) (λ f. f ≡ NoMemory))

-- the lines of a text ask this, and none is bad
abbrev pub HasLines : LineForm → List ℕ → Result (List AskedLine) LinesFault → Type 0
HasLines form text requested = (asked_by form text ≡ requested) × (fault_of requested ≡ None)
