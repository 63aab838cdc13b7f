-- The request and the state of a session text over a plan, or its first fault.
use Rattle.std.specs.Prelude.{◌≡◌, ℕ, ◌+◌, ◌==◌, true, nat_lt, not, ◌&&◌, ◌||◌, ◌⊎◌, Bool, is_some, List, [], ◌∷◌, ◌++◌, length, map, Result, Ok, Err, if◌then◌else◌}
use Rattle.std.specs.Option.{option_map_or}
use Rattle.std.specs.Str.{bytes_eq}
use Rattle.std.specs.declared.option.Option.{Option}
use Rattle.std.specs.declared.option.Option.TheVariants.{Some, None}
use Rattle.hex.specs.Hex.{encode_lower}
use Rattle.sabr_model.specs.plan.Plan.{ContactPlan, rises_above}
use Rattle.sabr_model.specs.Order.{numbers_before}
use Rattle.sabr_model.specs.routes.Parts.{in_part}
use Rattle.sabr_model.specs.routes.Arrival.{RouteRequest}
use Rattle.sabr_model.specs.routes.Asking.{request_refusal, limit_refusal, unlimited, with_limits}
use Rattle.sabr_model.specs.routes.Route.{is_path, is_prefix, is_route}
use Rattle.sabr_plan.specs.Steps.{and_then, given_as}
use Rattle.sabr_plan.specs.Words.{has_bytes, lines_of}
use Rattle.sabr_frontier.specs.listing.State.{PartState, State, pair_of}
use Rattle.sabr_frontier.specs.listing.Formed.{IsClosed}
use Rattle.sabr_frontier.specs.listing.Listing.{IsState}
use Rattle.sabr_frontier.specs.tree.Undo.{last_item}
use Rattle.sabr_session.specs.SessionLines.{header_of, digest_named, request_of, emitted_of, last_listed, count_of, part_of, is_end}
use Rattle.sabr_session.specs.declared.reading.first_lines.Version.{Version}
use Rattle.sabr_session.specs.declared.reading.first_lines.Version.TheVariants.{Two}
use Rattle.sabr_model.specs.declared.request_values.RequestValues.{RequestValues}
use Rattle.sabr_session.specs.declared.session_fault.SessionFault.{SessionFault}
use Rattle.sabr_session.specs.declared.session_fault.SessionFault.TheVariants.{BadHeader, BadLine, OtherPlan, BadRequest, NotClosed, BadRoute, BadCount, Read}

-- what the lines so far say; what none of them has said is 0 or empty
pub record Said : Type 0 where
  pub version : Version
  pub request : RouteRequest
  pub emitted : ℕ
  pub last_route : List ℕ
  pub count : ℕ
  pub parts : List PartState

-- before the first line
abbrev pub nothing_said : Said
nothing_said = record { version = Two; request = unlimited 0 0 0 0; emitted = 0; last_route = []; count = 0; parts = [] }

-- line n is malformed
abbrev pub misspelled : ℕ → SessionFault
misspelled n = if n == 1 then BadHeader else BadLine n

-- the value of line n, or its fault if it is malformed
abbrev pub spelled_at : {A : Type 0} → ℕ → Option A → Result A SessionFault
spelled_at n None = Err (misspelled n)
spelled_at n (Some x) = Ok x

-- the digits are those of the plan's digest h
abbrev pub same_plan : List ℕ → Said → List ℕ → Result Said SessionFault
same_plan h s digits = if bytes_eq digits (encode_lower h) then Ok s else Err OtherPlan

-- the request of these values
abbrev pub asked : RequestValues → Result RouteRequest SessionFault
asked v =
    let r = unlimited v.from v.to v.at v.margin_ppm in
    if is_some (request_refusal v.from v.to v.at v.margin_ppm) || is_some (limit_refusal r v.max_hops v.avoid) then Err BadRequest
    else Ok (with_limits r v.max_hops v.avoid)

-- each number is above the one before it
abbrev pub rise_strictly : List ℕ → Bool
rise_strictly [] = true
rise_strictly (x ∷ xs) = rises_above x xs

-- the prefix comes after that of the last part
abbrev pub comes_after : List PartState → List ℕ → Bool
comes_after parts q = option_map_or (λ t. numbers_before t.prefix q) (last_item parts) true

-- what the part carries, if anything, is a route of the part
abbrev pub may_carry : ContactPlan → RouteRequest → PartState → Bool
may_carry p r t = option_map_or (in_part p r t.prefix t.excluded) t.carried true

-- a part, on line n, after the others: its excluded numbers ascend, its prefix is above the one before, and what it
-- carries is a route of it
abbrev pub placed : ContactPlan → ℕ → Said → PartState → Result Said SessionFault
placed p n s t =
    if not (rise_strictly t.excluded && comes_after s.parts t.prefix) then Err (BadLine n)
    else if not (may_carry p s.request t) then Err (BadRoute n)
    else Ok (record s { parts = s.parts ++ t ∷ [] })

-- what each of the first six lines says
abbrev pub header_said : Said → List ℕ → Result Said SessionFault
header_said s line = given_as (λ v. record s { version = v }) (spelled_at 1 (header_of line))

abbrev pub digest_said : List ℕ → Said → List ℕ → Result Said SessionFault
digest_said h s line = and_then (spelled_at 2 (digest_named line)) (same_plan h s)

abbrev pub request_said : Said → List ℕ → Result Said SessionFault
request_said s line = given_as (λ r. record s { request = r }) (and_then (spelled_at 3 (request_of s.version line)) asked)

abbrev pub emitted_said : Said → List ℕ → Result Said SessionFault
emitted_said s line = given_as (λ n. record s { emitted = n }) (spelled_at 4 (emitted_of line))

abbrev pub last_said : Said → List ℕ → Result Said SessionFault
last_said s line = given_as (λ ns. record s { last_route = ns }) (spelled_at 5 (last_listed line))

abbrev pub count_said : Said → List ℕ → Result Said SessionFault
count_said s line = given_as (λ n. record s { count = n }) (spelled_at 6 (count_of line))

-- a part, on line n
abbrev pub part_said : ContactPlan → ℕ → Said → List ℕ → Result Said SessionFault
part_said p n s line = and_then (spelled_at n (part_of line)) (placed p n s)

-- line n after the parts: the first of these is `end`, and there is no other
abbrev pub end_said : ℕ → Said → List ℕ → Result Said SessionFault
end_said n s line = if n == 7 + s.count && is_end line then Ok s else Err (BadLine n)

-- line n after the first six
abbrev pub other_said : ContactPlan → ℕ → Said → List ℕ → Result Said SessionFault
other_said p n s line = if nat_lt n (7 + s.count) then part_said p n s line else end_said n s line

-- line n, over a plan p of digest h
unfoldable pub line_said : ContactPlan → List ℕ → ℕ → Said → List ℕ → Result Said SessionFault
line_said p h n s line =
    if n == 1 then header_said s line
    else if n == 2 then digest_said h s line
    else if n == 3 then request_said s line
    else if n == 4 then emitted_said s line
    else if n == 5 then last_said s line
    else if n == 6 then count_said s line
    else other_said p n s line

-- the most bytes of a line without its LF
abbrev pub most_bytes : ℕ
most_bytes = 660008

-- line n, which has at most the largest number of bytes
abbrev pub read_line : ContactPlan → List ℕ → ℕ → Said → List ℕ → Result Said SessionFault
read_line p h n s line = if nat_lt most_bytes (length line) then Err (misspelled n) else line_said p h n s line

-- the lines from number n on
unfoldable pub read_lines : ContactPlan → List ℕ → ℕ → Said → List (List ℕ) → Result Said SessionFault
read_lines p h n s [] = Ok s
read_lines p h n s (line ∷ lines) = and_then (read_line p h n s line) (λ s₁. read_lines p h (n + 1) s₁ lines)

-- line n is after `end`
abbrev pub is_after : ℕ → Said → Bool
is_after n s = nat_lt (7 + s.count) n

-- after the last LF these are the bytes of line n: the text may end, or its reader fail, after the LF of `end` alone;
-- any byte there is a fault, and so is an unfinished line if the text ends or the line is too long
abbrev pub last_line : Bool → ℕ → List ℕ → Said → Result Said SessionFault
last_line ended n line s =
    if is_after n s && not (has_bytes line) then (if ended then Ok s else Err Read)
    else if ended || is_after n s || nat_lt most_bytes (length line) then Err (misspelled n)
    else Err Read

-- what all lines say, or the first fault in them; `ended` says whether the reader ended after these bytes, or failed
unfoldable pub said_of : ContactPlan → List ℕ → List ℕ → Bool → Result Said SessionFault
said_of p h bytes ended =
    let text = lines_of bytes in
    and_then (read_lines p h 1 nothing_said text.ended) (last_line ended (length text.ended + 1) text.open_line)

-- the state of the lines
abbrev pub state_of : Said → State
state_of s = record { emitted = s.emitted; last = s.last_route; parts = s.parts }

-- its pairs are closed
abbrev pub IsClosedSaid : ContactPlan → Said → Type 0
IsClosedSaid p s = IsClosed (is_route p s.request) (is_path p s.request) (is_prefix p s.request) (map pair_of s.parts)

-- what comes of lines without a fault: their request and their state if that is well formed; NotClosed if its
-- parts aren't closed; and BadCount if they are, and the count or the last route is wrong
abbrev pub Judges : ContactPlan → Said → Result (RouteRequest × State) SessionFault → Type 0
Judges p s (Ok x) = (x ≡ (s.request, state_of s)) × IsState p s.request (state_of s)
Judges p s (Err f) =
    ((f ≡ NotClosed) × (IsClosedSaid p s → ⊥))
    ⊎ ((f ≡ BadCount) × IsClosedSaid p s × (IsState p s.request (state_of s) → ⊥))

-- what comes of what the lines say, or of their fault
abbrev pub ComesTo : ContactPlan → Result Said SessionFault → Result (RouteRequest × State) SessionFault → Type 0
ComesTo p (Ok s) answer = Judges p s answer
ComesTo p (Err f) answer = answer ≡ Err f

-- the result of a text over a plan of digest h: its request and its state, or its first fault
abbrev pub IsSessionOf : ContactPlan → List ℕ → List ℕ → Bool → Result (RouteRequest × State) SessionFault → Type 0
IsSessionOf p h bytes ended answer = ComesTo p (said_of p h bytes ended) answer
