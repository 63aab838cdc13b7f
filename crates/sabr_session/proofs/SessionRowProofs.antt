-- Worked session texts, by computation.
use Rattle.std.specs.Prelude.{◌≡◌, [], ◌∷◌, ◌++◌, codes, pos}
use Rattle.std.specs.Fmt.{digits}
use Rattle.std.specs.List.{concat}
use Rattle.std.proofs.Common.{refl, ap, ◌∙◌, arith, rules}
use Rattle.hex.specs.Hex.{encode_with}
use Rattle.jiff_core.specs.declared.civil.date.Date.{Date}
use Rattle.jiff_core.specs.Calendar.{days_from_civil, day_count, days_of_years, days_of_months, IsCivilDate}
use Rattle.sabr_model.specs.Rows.{begin, from_1_to_3}
use Rattle.sabr_plan.specs.Times.{day_after_epoch, spelled, time_text_of}
use Rattle.sabr_plan.proofs.Days.{day_is_of}
use Rattle.sabr_plan.proofs.Spelling.{fields_of-clock}
use Rattle.sabr_frontier.specs.listing.State.{State}
use Rattle.sabr_frontier.specs.listing.Rows.{start_of_a, a_after_1, a_after_2, a_after_3}
use Rattle.sabr_session.specs.SessionText.{plan_line, request_line, old_request_line, state_lines, text_of, old_text_of}
use Rattle.sabr_session.specs.SessionRows.{digest_of_a, start_text_of_a, text_of_a_after_1, text_of_a_after_2, text_of_a_after_3, old_text_of_a_after_2}

-- the first day of 2030
in_calendar : IsCivilDate (pos 2030) 1 1
in_calendar = search rules

first_day : Date
first_day = record { year = pos 2030; month = 1; day = 1; year_in = in_calendar.0; month_in = in_calendar.1; day_in = in_calendar.2 }

number_of_first_day : days_from_civil (pos 2030) 1 1 ≡ pos 21915
unfolding days_from_civil day_count days_of_years days_of_months
number_of_first_day = refl

day_of_begin : day_after_epoch 21915 ≡ record { year = 2030; month = 1; day = 1 }
unfolding first_day
day_of_begin = day_is_of 2030 1 1 (omega arith) (omega arith) (omega arith) first_day refl refl refl 21915 (omega arith) number_of_first_day

-- the text of its first second
text_of_begin : time_text_of begin ≡ codes "2030/01/01-00:00:00"
unfolding time_text_of
text_of_begin =
    ap spelled (fields_of-clock 21915 0 0 0 (omega arith) (omega arith) (omega arith))
    ∙ ap (λ d. spelled (record { year = d.year; month = d.month; day = d.day; hour = 0; minute = 0; second = 0 })) day_of_begin

-- the line of the request
request_of_a : request_line from_1_to_3 ≡ codes "request 1 3 2030/01/01-00:00:00 0 20000 / -\n"
unfolding digits
request_of_a = ap (λ w. concat (codes "request " ∷ codes "1" ∷ codes " " ∷ codes "3" ∷ codes " " ∷ w ∷ codes " " ∷ codes "0" ∷ codes " " ∷ codes "20000" ∷ codes " / " ∷ codes "-" ∷ codes "\n" ∷ [])) text_of_begin

old_request_of_a : old_request_line from_1_to_3 ≡ codes "request 1 3 2030/01/01-00:00:00 0\n"
unfolding digits
old_request_of_a = ap (λ w. concat (codes "request " ∷ codes "1" ∷ codes " " ∷ codes "3" ∷ codes " " ∷ w ∷ codes " " ∷ codes "0" ∷ codes "\n" ∷ [])) text_of_begin

-- a text of a state, its request's line being spelled
text_of_state : (s : State) → text_of digest_of_a from_1_to_3 s ≡ codes "cgr-session 2\n" ++ (plan_line digest_of_a ++ (codes "request 1 3 2030/01/01-00:00:00 0 20000 / -\n" ++ state_lines s))
unfolding text_of
text_of_state s = ap (λ line. codes "cgr-session 2\n" ++ (plan_line digest_of_a ++ (line ++ state_lines s))) request_of_a

old_text_of_state : (s : State) → old_text_of digest_of_a from_1_to_3 s ≡ codes "cgr-session 1\n" ++ (plan_line digest_of_a ++ (codes "request 1 3 2030/01/01-00:00:00 0\n" ++ state_lines s))
unfolding old_text_of
old_text_of_state s = ap (λ line. codes "cgr-session 1\n" ++ (plan_line digest_of_a ++ (line ++ state_lines s))) old_request_of_a

pub start : text_of digest_of_a from_1_to_3 start_of_a ≡ start_text_of_a
unfolding encode_with digits
start = text_of_state start_of_a

pub one : text_of digest_of_a from_1_to_3 a_after_1 ≡ text_of_a_after_1
unfolding encode_with digits
one = text_of_state a_after_1

pub two : text_of digest_of_a from_1_to_3 a_after_2 ≡ text_of_a_after_2
unfolding encode_with digits
two = text_of_state a_after_2

pub three : text_of digest_of_a from_1_to_3 a_after_3 ≡ text_of_a_after_3
unfolding encode_with digits
three = text_of_state a_after_3

pub old : old_text_of digest_of_a from_1_to_3 a_after_2 ≡ old_text_of_a_after_2
unfolding encode_with digits
old = old_text_of_state a_after_2
