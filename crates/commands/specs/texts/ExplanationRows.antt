-- Worked explanations over plan A, from 1 to 3 at its beginning.
use Rattle.std.specs.Prelude.{ℕ, ◌+◌, List, [], ◌∷◌}
use Rattle.sabr_model.specs.Rows.{begin, contact_of, summary}
use Rattle.sabr_session.specs.ReportText.{route_line}
use Rattle.commands.specs.texts.PlanTexts.{hop_line}

-- contact 1, sent at once
abbrev pub first_hop : List ℕ
first_hop = hop_line 1 (contact_of 1 0 100 1 2) begin (begin + 10)

-- contact 2, which has to be waited for
abbrev pub second_hop : List ℕ
second_hop = hop_line 2 (contact_of 2 20 60 2 3) (begin + 20) (begin + 25)

-- the route that both make
abbrev pub route_of_both : List ℕ
route_of_both = route_line (summary (1 ∷ 2 ∷ []) 25 60 2)
