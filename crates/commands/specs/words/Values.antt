-- The words of a command, and the strict reading of their texts. The order in which bad ones are reported is this
-- project's own.
use Rattle.std.specs.Prelude.{ℕ, ◌<◌, ◌≤◌, Bool, true, false, not, ◌==◌, List, [], Result, Ok, Err, codes, ok_or, option_and_then, unwrap_or, if◌then◌else◌, nat_le, ◌∷◌, find, length, map}
use Rattle.std.specs.Str.{bytes_eq}
use Rattle.std.specs.Option.{option_copied, option_map_or}
use Rattle.std.specs.declared.option.Option.{Option}
use Rattle.std.specs.declared.option.Option.TheVariants.{Some, None}
use Rattle.clap.specs.declared.parser.matches.Found.{Found}
use Rattle.clap.specs.Matches.{first_value}
use Rattle.sabr_model.specs.plan.Plan.{IsNode, last_time}
use Rattle.sabr_model.specs.routes.Arrival.{RouteRequest}
use Rattle.sabr_model.specs.routes.Asking.{may_avoid, unlimited, with_limits, most_margin, most_hops}
use Rattle.sabr_plan.specs.Times.{time_of}
use Rattle.sabr_frontier.specs.listing.Listing.{most_routes}
use Rattle.commands.specs.declared.words.value_fault.ValueName.{ValueName}
use Rattle.commands.specs.declared.words.value_fault.ValueName.TheVariants.{From, To, At, MarginPpm, MaxHops, Avoid, Count, Contacts}
use Rattle.commands.specs.declared.command.CommandName.{CommandName}
use Rattle.commands.specs.declared.words.values.Values.{Values}
use Rattle.commands.specs.declared.words.request_words.RequestTexts.{RequestTexts}
use Rattle.commands.specs.declared.words.values.ValueTexts.{ValueTexts}
use Rattle.commands.specs.declared.words.value_fault.ValueFault.{ValueFault}
use Rattle.commands.specs.declared.words.value_fault.ValueFault.TheVariants.{Bad, SameNode, BadAvoid}
use Rattle.sabr_model.specs.declared.request_values.RequestValues.{RequestValues}
use Rattle.sabr_plan.specs.Numbers.{number_within}
use Rattle.sabr_plan.specs.Pieces.{pieces_of}
use Rattle.sabr_session.specs.SessionWords.{most_number, all_of, most_avoided}
use Rattle.commands.specs.declared.command.CommandName.TheVariants as command

-- ---- the pieces of texts, and what the lists of the command line spell

-- the first piece, if there is one, and the others
abbrev pub first_of : List (List ℕ) → Option (List ℕ) × List (List ℕ)
first_of [] = (None, [])
first_of (piece ∷ pieces) = (Some piece, pieces)

-- the comma, which separates the numbers of a list
abbrev pub comma : ℕ
comma = 44

-- the numbers that a text lists, separated by single commas, each within these bounds
unfoldable pub numbers_within : ℕ → ℕ → List ℕ → Option (List ℕ)
numbers_within low high text = all_of (map (number_within low high) (pieces_of comma text))

-- the nodes that a text lists, at most as many as a request avoids
unfoldable pub nodes_listed : List ℕ → Option (List ℕ)
nodes_listed text =
    option_and_then (λ nodes. if nat_le (length nodes) most_avoided then Some nodes else None) (numbers_within 1 18446744073709551615 text)

-- ---- the words of a command

-- the word of the command line that gives a value, without its two dashes
abbrev pub name_text : ValueName → List ℕ
name_text From = codes "from"
name_text To = codes "to"
name_text At = codes "at"
name_text MarginPpm = codes "margin-ppm"
name_text MaxHops = codes "max-hops"
name_text Avoid = codes "avoid"
name_text Count = codes "count"
name_text Contacts = codes "contacts"

-- the text that was given under a name of the command line
abbrev pub text_under : Found → ValueName → Option (List ℕ)
text_under found name = first_value found (name_text name)

-- the word for the plan, without its two dashes
abbrev pub plan_word : List ℕ
plan_word = codes "plan"

-- that for the old session
abbrev pub session_word : List ℕ
session_word = codes "session"

-- that for the file of requests
abbrev pub requests_word : List ℕ
requests_word = codes "requests"

-- that for the file of lists
abbrev pub lists_word : List ℕ
lists_word = codes "lists"

-- that for the new session
abbrev pub session_out_word : List ℕ
session_out_word = codes "session-out"

-- the path that was given under a word, or an empty one
abbrev pub path_under : Found → List ℕ → List ℕ
path_under found word = unwrap_or (first_value found word) []

-- goes on if nothing was refused
abbrev pub and_then : {A B : Type 0} → Result A ValueFault → (A → Result B ValueFault) → Result B ValueFault
and_then (Ok a) k = k a
and_then (Err e) k = Err e

-- what a required text says, or the name of the value as a bad one
abbrev pub value_of : {A : Type 0} → (List ℕ → Option A) → ValueName → Option (List ℕ) → Result A ValueFault
value_of reads name text = ok_or (option_and_then reads text) (Bad name)

-- what an optional text says, or the default
abbrev pub value_or : {A : Type 0} → A → (List ℕ → Option A) → ValueName → Option (List ℕ) → Result A ValueFault
value_or otherwise reads name text = ok_or (option_map_or reads text (Some otherwise)) (Bad name)

-- the texts that are given for a request
pub record TextsGiven : Type 0 where
  pub from : Option (List ℕ)
  pub to : Option (List ℕ)
  pub at : Option (List ℕ)
  pub margin : Option (List ℕ)
  pub hops : Option (List ℕ)
  pub avoid : Option (List ℕ)

-- the same, without their places in memory
abbrev pub texts_given : RequestTexts → TextsGiven
texts_given t =
    record { from = option_copied t.from; to = option_copied t.to; at = option_copied t.at; margin = option_copied t.margin_ppm; hops = option_copied t.max_hops; avoid = option_copied t.avoid }

-- those of a command line
abbrev pub texts_under : Found → TextsGiven
texts_under found =
    record { from = text_under found From; to = text_under found To; at = text_under found At; margin = text_under found MarginPpm; hops = text_under found MaxHops; avoid = text_under found Avoid }

-- the texts that are given for the values of a command
pub record ValuesGiven : Type 0 where
  pub request : TextsGiven
  pub count : Option (List ℕ)
  pub contacts : Option (List ℕ)

-- the same, without their places in memory
abbrev pub values_given : ValueTexts → ValuesGiven
values_given t = record { request = texts_given t.request; count = option_copied t.count; contacts = option_copied t.contacts }

-- those of a command line
abbrev pub values_under : Found → ValuesGiven
values_under found = record { request = texts_under found; count = text_under found Count; contacts = text_under found Contacts }

-- a node
abbrev pub node_of : List ℕ → Option ℕ
node_of text = number_within 1 18446744073709551615 text

-- the limits and avoided nodes, after the values of a request without limits
unfoldable pub limits_of : ℕ → ℕ → ℕ → ℕ → TextsGiven → Result RequestValues ValueFault
limits_of from to at margin texts =
    and_then (value_or most_hops (number_within 1 most_hops) MaxHops texts.hops) (λ hops.
    and_then (value_or [] nodes_listed Avoid texts.avoid) (λ avoid.
    Ok (record { from = from; to = to; at = at; margin_ppm = margin; max_hops = hops; avoid = avoid })))

-- the values of a request, word by word; the first bad word in this order is reported
unfoldable pub request_words : TextsGiven → Result RequestValues ValueFault
request_words texts =
    and_then (value_of node_of From texts.from) (λ from.
    and_then (value_of node_of To texts.to) (λ to.
    and_then (value_of time_of At texts.at) (λ at.
    and_then (value_or 0 (number_within 0 most_margin) MarginPpm texts.margin) (λ margin.
    limits_of from to at margin texts))))

-- these words lie in the ranges of a request's values
pub record IsInRange (w : RequestValues) : Type 0 where
  pub from : IsNode w.from
  pub to : IsNode w.to
  pub at : w.at ≤ last_time
  pub margin : w.margin_ppm ≤ most_margin
  pub hops : (0 < w.max_hops) × (w.max_hops ≤ most_hops)

-- the request of these words: different nodes first, then nodes that may be avoided
unfoldable pub request_of : RequestValues → Result RouteRequest ValueFault
request_of w =
    if w.from == w.to then Err SameNode
    else if not (may_avoid w.from w.to w.avoid) then Err BadAvoid
    else Ok (with_limits (unlimited w.from w.to w.at w.margin_ppm) w.max_hops w.avoid)

-- the commands, in the order in which help lists them
abbrev pub commands : List CommandName
commands = command.First ∷ command.Next ∷ command.Verify ∷ command.Check ∷ command.Explain ∷ command.Many ∷ command.Follow ∷ []

-- the name of a command
abbrev pub command_text : CommandName → List ℕ
command_text command.First = codes "first"
command_text command.Next = codes "next"
command_text command.Verify = codes "verify"
command_text command.Check = codes "check"
command_text command.Explain = codes "explain"
command_text command.Many = codes "many"
command_text command.Follow = codes "follow"

-- the command of a name on the command line, if it is one
abbrev pub command_named : List ℕ → Option CommandName
command_named name = find (λ c. bytes_eq name (command_text c)) commands

-- commands with a request
abbrev pub has_request : CommandName → Bool
has_request command.First = true
has_request command.Explain = true
has_request _ = false

-- commands with a count of routes
abbrev pub has_count : CommandName → Bool
has_count command.First = true
has_count command.Next = true
has_count command.Many = true
has_count _ = false

-- commands with contacts
abbrev pub has_contacts : CommandName → Bool
has_contacts command.Explain = true
has_contacts _ = false

-- commands with an old session
abbrev pub has_session : CommandName → Bool
has_session command.Next = true
has_session command.Verify = true
has_session _ = false

-- the values of a command; what it doesn't have is none or empty
pub record ValuesRead : Type 0 where
  pub request : Option RouteRequest
  pub count : Option ℕ
  pub contacts : List ℕ

-- the values of a command, without the memory that holds them
abbrev pub seen_values : {A : Type 0} → Values A → ValuesRead
seen_values v = record { request = v.request; count = v.count; contacts = v.contacts }

-- something that a command has, or nothing
abbrev pub where_asked : {A : Type 0} → Bool → Result A ValueFault → Result (Option A) ValueFault
where_asked asked value = if asked then and_then value (λ a. Ok (Some a)) else Ok None

-- the words of a request, if the command has one
abbrev pub words_where_asked : CommandName → TextsGiven → Result (Option RequestValues) ValueFault
words_where_asked name texts = where_asked (has_request name) (request_words texts)

-- a number of routes that a page may have
abbrev pub IsCount : ℕ → Type 0
IsCount n = (1 ≤ n) × (n ≤ most_routes)

-- the count of routes, if the command has one
abbrev pub count_where_asked : CommandName → Option (List ℕ) → Result (Option ℕ) ValueFault
count_where_asked name text = where_asked (has_count name) (value_of (number_within 1 most_routes) Count text)

-- the contacts, if the command has them
abbrev pub contacts_where_asked : CommandName → Option (List ℕ) → Result (List ℕ) ValueFault
contacts_where_asked name text = if has_contacts name then value_of (numbers_within 1 most_number) Contacts text else Ok []

-- the request of words that are there
abbrev pub request_where_asked : Option RequestValues → Result (Option RouteRequest) ValueFault
request_where_asked None = Ok None
request_where_asked (Some words) = and_then (request_of words) (λ request. Ok (Some request))

-- the strict reading of the texts that are given to a command
unfoldable pub values_in : CommandName → ValuesGiven → Result ValuesRead ValueFault
values_in name given =
    and_then (words_where_asked name given.request) (λ words.
    and_then (count_where_asked name given.count) (λ count.
    and_then (contacts_where_asked name given.contacts) (λ contacts.
    and_then (request_where_asked words) (λ request.
    Ok (record { request = request; count = count; contacts = contacts })))))

-- that of a command line
abbrev pub values_of : CommandName → Found → Result ValuesRead ValueFault
values_of name found = values_in name (values_under found)
