-- Blanks don't end a text that has an LF.
use Rattle.sabr_plan.proofs.Names.{◌≡◌, ℕ, ◌-◌, ◌<◌, List, length, take, drop, true, false, sym, arith, inl, inr, length-drop, list_all, cases_lt, take_all, take-append-drop}
use Rattle.sabr_plan.specs.Words.{is_blank, is_one_line}
use Rattle.sabr_plan.specs.PlainWords.{IsAfterBlanks}
use Rattle.sabr_plan.proofs.PlainWords.{plain_blanks, plain_one, ended_blanks}
use Rattle.sabr_plan.proofs.fast_line.after_blanks.Goals as goal

go_on : (text : List ℕ) (count : ℕ) → list_all is_blank (take count text) ≡ true → is_one_line text ≡ false → count < length text
go_on text count all lf = elim (cases_lt count (length text)) [
  | inl before ↦ before
  | inr end ↦ let one = plain_one text (plain_blanks text (rw (take_all count text end) at all)) in absurd (grind (arith, one, lf))
]

pub bounds-text-count : goal.bounds-text-count
bounds-text-count c = go_on c.args.text.now c.loop-count.count c.loop-count.invariant.blank c.requires

pub returns : goal.returns
returns c =
    let text = c.args.text.now in
    let count = c.loop-count.count in
    let all : take (length text - count) (drop count text) ≡ drop count text = take_all (length text - count) (drop count text) (omega (arith, length-drop count text)) in
    let parts : IsAfterBlanks text (take (length text - count) (drop count text)) = record { blanks = take count text; parts = rw all (sym (take-append-drop count text)); blank = c.loop-count.invariant.blank } in
    record { blanks = parts; ended = ended_blanks parts c.requires }
