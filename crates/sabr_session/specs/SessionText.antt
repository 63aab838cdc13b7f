-- Session text: the one text of a plan's digest, of a request and of a state of its listing, in each version, and the slices that make it up.
use Rattle.std.specs.Prelude.{◌≡◌, ℕ, ◌≤◌, List, [], ◌∷◌, ◌++◌, length, decimal, codes, flat_map, unwrap_or}
use Rattle.std.specs.List.{concat}
use Rattle.hex.specs.Hex.{encode_lower}
use Rattle.sabr_model.specs.plan.Plan.{ContactPlan}
use Rattle.sabr_model.specs.routes.Arrival.{RouteRequest}
use Rattle.sabr_model.specs.routes.Asking.{unlimited}
use Rattle.sabr_plan.specs.Times.{time_text_of}
use Rattle.sabr_plan.specs.Canonical.{digest_of}
use Rattle.sabr_frontier.specs.listing.State.{PartState, State}
use Rattle.sabr_frontier.specs.session.Session.{Seen, PartSeen}
use Rattle.sabr_frontier.specs.listing.Listing.{state_at}
use Rattle.std.specs.Option.{option_map}
use Rattle.sabr_frontier.specs.tree.Shape.{numbers_of}

-- each number after a space, in decimal digits
abbrev pub spaced_by : {N : Type 0} → (N → List ℕ) → List N → List ℕ
spaced_by spelled [] = []
spaced_by spelled (n ∷ ns) = (32 ∷ spelled n) ++ spaced_by spelled ns

-- the same with no space before the first, and `-` where there is none
abbrev pub listed_by : {N : Type 0} → (N → List ℕ) → List N → List ℕ
listed_by spelled [] = codes "-"
listed_by spelled (n ∷ ns) = spelled n ++ spaced_by spelled ns

-- the numbers in decimal digits, separated by single spaces, and `-` where there is none
abbrev pub list_text : List ℕ → List ℕ
list_text ns = listed_by decimal ns

-- `plan H`, H having two digits `0` to `9` and `a` to `f` for each number of the digest
abbrev pub plan_line : List ℕ → List ℕ
plan_line h = concat (codes "plan " ∷ encode_lower h ∷ codes "\n" ∷ [])

-- `request FROM TO AT PPM HOPS / NODES`
abbrev pub request_line : RouteRequest → List ℕ
request_line r = concat (
    codes "request " ∷ decimal r.source
    ∷ codes " " ∷ decimal r.destination
    ∷ codes " " ∷ time_text_of r.at
    ∷ codes " " ∷ decimal r.margin
    ∷ codes " " ∷ decimal r.max_hops
    ∷ codes " / " ∷ list_text r.avoided ∷ codes "\n" ∷ []
    )

-- `request FROM TO AT PPM`, the line of a request without limits in version 1
abbrev pub old_request_line : RouteRequest → List ℕ
old_request_line r = concat (
    codes "request " ∷ decimal r.source
    ∷ codes " " ∷ decimal r.destination
    ∷ codes " " ∷ time_text_of r.at
    ∷ codes " " ∷ decimal r.margin ∷ codes "\n" ∷ []
    )

-- `part PREFIX / EXCLUDED / ROUTE`
abbrev pub part_line : PartState → List ℕ
part_line t = concat (
    codes "part " ∷ list_text t.prefix
    ∷ codes " / " ∷ list_text t.excluded
    ∷ codes " / " ∷ list_text (unwrap_or t.carried []) ∷ codes "\n" ∷ []
    )

-- `emitted N`, `last LIST`, `parts M`, the lines of the parts, and `end`
abbrev pub state_lines : State → List ℕ
state_lines s = concat (
    codes "emitted " ∷ decimal s.emitted
    ∷ codes "\nlast " ∷ list_text s.last
    ∷ codes "\nparts " ∷ decimal (length s.parts)
    ∷ codes "\n" ∷ flat_map part_line s.parts ∷ codes "end\n" ∷ []
    )

-- the text of a digest, a request and a state, in version 2
unfoldable pub text_of : List ℕ → RouteRequest → State → List ℕ
text_of h r s = codes "cgr-session 2\n" ++ (plan_line h ++ (request_line r ++ state_lines s))

-- the same in version 1, for a request without limits
unfoldable pub old_text_of : List ℕ → RouteRequest → State → List ℕ
old_text_of h r s = codes "cgr-session 1\n" ++ (plan_line h ++ (old_request_line r ++ state_lines s))

-- the text of a session, over its plan
abbrev pub text_of_session : Seen → List ℕ
text_of_session s = text_of (digest_of s.plan.plan) s.request s.state

-- a state has a text if its number of parts is at most the largest that a text can have
abbrev pub HasText : State → Type 0
HasText s = length s.parts ≤ 18446744073709551615

-- a request without limits
abbrev pub IsUnlimited : RouteRequest → Type 0
IsUnlimited r = r ≡ unlimited r.source r.destination r.at r.margin

-- the text after i routes of the list of all routes
abbrev pub session_text : ContactPlan → RouteRequest → ℕ → List ℕ
session_text p r i = text_of (digest_of p) r (state_at p r i)

-- the same in version 1
abbrev pub old_session_text : ContactPlan → RouteRequest → ℕ → List ℕ
old_session_text p r i = old_text_of (digest_of p) r (state_at p r i)

-- ---- the slices that make up a session's text

-- `emitted N`, `last LIST` and `parts M`
abbrev pub counts_pieces : State → List (List ℕ)
counts_pieces s = codes "emitted " ∷ decimal s.emitted ∷ codes "\nlast " ∷ list_text s.last ∷ codes "\nparts " ∷ decimal (length s.parts) ∷ codes "\n" ∷ []

-- the part of a state that a session shows
abbrev pub part_shown : PartSeen → PartState
part_shown t = record { prefix = t.prefix; excluded = t.excluded; carried = option_map numbers_of t.route }

-- its line
abbrev pub seen_line : PartSeen → List ℕ
seen_line t = part_line (part_shown t)
