-- The date is known, and the rest is a second of the day.
use Rattle.sabr_plan.proofs.Names.{◌≡◌, ◌++◌, ◌∷◌, [], take, sym, ap, ◌∙◌, arith, digits_l}
use Rattle.core.proofs.dec2flt.Eight.{eight_at}
use Rattle.sabr_plan.proofs.Spelling.{known_text, date_bytes}
use Rattle.sabr_plan.proofs.known_day.KnownDay.second_of.Goals as goal

pub returns : goal.returns
returns c =
    let day = c.args.self.now in
    let text = c.args.text.now in
    let h = c.split_at.ensures in
    let eight = eight_at text 0 (λ i. (c.type_inv.text i).fits) (omega (arith, c.requires)) in
    let month = sym c.first_eight-month.ensures ∙ c.if-month-self.false in
    let date : take 10 text ≡ digits_l 256 8 day.month ++ day.tens ∷ day.units ∷ [] = date_bytes text eight (omega (arith, c.requires)) ∙ (λ i. digits_l 256 8 (month i) ++ c.if-text-self.false i ∷ c.if-text-self-2.false i ∷ []) in
    let clock = c.in_ok-second.ensures in
    let all = known_text _ c.split_at.result.1.now day.begin c.in_ok-second.second day.known clock.0 clock.1 in
    (h.by_index.0 ∙ ap (λ d. d ++ c.split_at.result.1.now) (h.front ∙ date) ∙ all.0, all.1)
