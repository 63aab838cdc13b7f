-- The report: the routes of a page, a line for each, and whether the list goes on.
use Rattle.std.specs.Prelude.{ℕ, ◌+◌, ◌≤◌, Bool, List, [], ◌∷◌, ◌++◌, length, decimal, codes, if◌then◌else◌}
use Rattle.std.specs.List.{concat}
use Rattle.sabr_model.specs.routes.Record.{RouteRecord}
use Rattle.sabr_plan.specs.Times.{last_spelled, time_text_of}
use Rattle.sabr_session.specs.SessionText.{spaced_by}

-- both times of a route have a text, since they are before the end of year 9999
abbrev pub HasSpelledTimes : RouteRecord → Type 0
HasSpelledTimes r = (r.delivery ≤ last_spelled) × (r.until ≤ last_spelled)

-- a route's line up to the numbers of its contacts, in slices
abbrev pub figure_pieces : RouteRecord → List (List ℕ)
figure_pieces r =
    codes "delivery " ∷ time_text_of r.delivery
    ∷ codes " hops " ∷ decimal (length r.contacts)
    ∷ codes " entry " ∷ decimal r.entry
    ∷ codes " until " ∷ time_text_of r.until ∷ codes " contacts" ∷ []

-- the line of a route
abbrev pub route_line : RouteRecord → List ℕ
route_line r = concat (
    codes "delivery " ∷ time_text_of r.delivery
    ∷ codes " hops " ∷ decimal (length r.contacts)
    ∷ codes " entry " ∷ decimal r.entry
    ∷ codes " until " ∷ time_text_of r.until
    ∷ codes " contacts" ∷ spaced_by decimal r.contacts ∷ codes "\n" ∷ []
    )

-- the same after its rank
abbrev pub report_line : ℕ → RouteRecord → List ℕ
report_line rank r = decimal rank ++ 32 ∷ route_line r

-- a line for each route, with ranks that count up from the first
abbrev pub report_lines : ℕ → List RouteRecord → List ℕ
report_lines rank [] = []
report_lines rank (r ∷ rs) = report_line rank r ++ report_lines (rank + 1) rs

-- whether the list goes on after the routes
abbrev pub last_line : Bool → List ℕ
last_line more = if more then codes "more\n" else codes "end\n"

-- the report of a page
abbrev pub report_text : List RouteRecord → ℕ → Bool → List ℕ
report_text routes first_rank more = report_lines first_rank routes ++ last_line more
