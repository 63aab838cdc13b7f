-- What reading a list of a session text leaves: its numbers, and how it ends.
use Rattle.std.specs.Prelude.{◌≡◌, ℕ, ◌≤◌, true, false, List, Option, None, Some, MatchOption, length}
use Rattle.std.specs.List.{list_any}
use Rattle.std.specs.Option.{option_copied}
use Rattle.sabr_model.specs.plan.Plan.{most_records}
use Rattle.sabr_session.specs.SessionWords.{words_after, counted, is_dash, is_slash, before_slash, after_slash, contact_numbers, contacts_of}
use Rattle.sabr_session.specs.declared.reading.lists.ListEnd.{ListEnd}

-- whether a list among these words ends at `/`, and the words after that
abbrev pub EndsAt : List (List ℕ) → ListEnd → Type 0
EndsAt words e = (e.stopped ≡ list_any is_slash words) × (words_after (option_copied e.rest) ≡ after_slash words)

-- up to `/` there is `-` alone
abbrev pub FindsDash : List (List ℕ) → Option ListEnd → Type 0
FindsDash words found =
    MatchOption found (is_dash (before_slash words) ≡ false) (λ e. (is_dash (before_slash words) ≡ true) × EndsAt words e)

-- up to `/` there are these numbers, and not too many; no word or other words are none
abbrev pub FindsNumbers : List (List ℕ) → List ℕ → Option ListEnd → Type 0
FindsNumbers words numbers found =
    MatchOption found (counted most_records (contact_numbers (before_slash words)) ≡ None)
    (λ e. (contact_numbers (before_slash words) ≡ Some numbers) × (length numbers ≤ most_records) × EndsAt words e)

-- up to `/` there is a list of these numbers
abbrev pub FindsList : List (List ℕ) → List ℕ → Option ListEnd → Type 0
FindsList words numbers found =
    MatchOption found (contacts_of (before_slash words) ≡ None) (λ e. (contacts_of (before_slash words) ≡ Some numbers) × EndsAt words e)
