-- Numbers, or `-` if there are none.
use Rattle.std.proofs.Common.{◌≡◌, ℕ, true, false, List, Option, Some, None, [], map, length, ◌<◌, sym, ap, ◌∙◌, arith}
use Rattle.std.proofs.lemmas.Bool.Decides.{nat_tests}
use Rattle.std.specs.Option.{MatchOption}
use Rattle.sabr_session.specs.SessionWords.{words_of, all_of, counted, is_dash, contacts_of, before_slash, most_number}
use Rattle.sabr_plan.specs.Numbers.{number_within}
use Rattle.sabr_session.proofs.WordLemmas.ReadLists.{counted-some, counted-none, dashed, numbered, numbers-undashed}
use Rattle.sabr_session.proofs.reading.lists.list_to_slash.Goals as goal

-- without numbers the list is `-` or none
dash_or_none : {X : Type 0} (ws : List (List ℕ)) (ns : List ℕ) (r : Option X) (P : X → Type 0) → counted 20000 (all_of (map (number_within 1 most_number) ws)) ≡ None → ns ≡ []
    → MatchOption r (is_dash ws ≡ false) (λ e. (is_dash ws ≡ true) × P e)
    → MatchOption r (contacts_of ws ≡ None) (λ e. (contacts_of ws ≡ Some ns) × P e)
dash_or_none ws ns None P none empty h = numbered ws None h none
dash_or_none ws ns (Some e) P none empty h = (dashed ws h.0 ∙ ap Some (sym empty), h.1)

pub returns-in_default : goal.returns-in_default
returns-in_default g c =
    dash_or_none (before_slash (words_of c.args.text.now)) _ c.dash_to_slash.result _ (rw c.in_default.is at (c.in_ok-end.ensures {u = tt})) c.clear.ensures.items c.dash_to_slash.ensures

pub returns-then-is_empty : goal.returns-then-is_empty
returns-then-is_empty g c =
    let h = rw c.in-Some.is at (c.in_ok-end.ensures {u = tt}) in
    let none : length c.numbers_to_slash.new.numbers.items ≡ 0 = grind (arith, nat_tests) in
    numbered (before_slash (words_of c.args.text.now)) None (numbers-undashed _ _ h.0) (counted-none 20000 _ _ h.0 none)

pub returns : goal.returns
returns g c =
    let h = rw c.in-Some.is at (c.in_ok-end.ensures {u = tt}) in
    let some : 0 < length c.numbers_to_slash.new.numbers.items = grind (arith, nat_tests) in
    (numbered (before_slash (words_of c.args.text.now)) (Some c.numbers_to_slash.new.numbers.items) (numbers-undashed _ _ h.0) (counted-some 20000 _ _ h.0 some h.1), h.2)
