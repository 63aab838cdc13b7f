-- Eight bytes that make this number, and a ninth; or the first seven of them.
use Rattle.sabr_plan.proofs.Names.{◌≡◌, ℕ, ◌-◌, true, List, ◌∷◌, [], ◌++◌, length, take, drop, refl, ◌∙◌, sym, ap, arith, take-take, length-drop, take_all, take_more, take-append-drop}
use Rattle.core.proofs.dec2flt.Eight.{eight_at}
use Rattle.sabr_plan.specs.PlainWords.{AddsAhead, name_of, is_graphic_word}
use Rattle.sabr_plan.specs.declared.command.Target.{Target}
use Rattle.sabr_plan.specs.declared.command.Target.TheVariants.{Contact, Range}
use Rattle.sabr_plan.proofs.SpelledNumbers.{bytes_are}
use Rattle.sabr_plan.proofs.fast_line.target_ahead.Goals as goal

graphic_name : (target : Target) → is_graphic_word (name_of target) ≡ true
graphic_name Contact = refl
graphic_name Range = refl

-- `a`, a space and a name
adds_plain : (target : Target) (count : ℕ) (line : List ℕ) → take count line ≡ 97 ∷ 32 ∷ name_of target → AddsAhead target line (drop count line)
adds_plain target count line front = record {
  after_letter = 32 ∷ (name_of target ++ drop count line);
  first = record { blanks = []; parts = sym (take-append-drop count line) ∙ ap (λ f. f ++ drop count line) front; blank = refl };
  name = record {
    start = name_of target ++ drop count line;
    gap = record { blanks = 32 ∷ []; parts = refl; blank = refl };
    some = omega arith;
    front = record { word = name_of target; parts = refl; graphic = graphic_name target; holds = refl };
  };
}

pub returns-then-line-eq116-clause-adds : goal.returns-then-line-eq116-clause-adds
returns-then-line-eq116-clause-adds c =
    let line = c.args.line.now in
    let eight = eight_at line 0 (λ i. (c.type_inv.line i).fits) (omega (arith, c.requires.room)) in
    let front = bytes_are (take 8 line) 8 _ eight (sym c.first_eight-word.ensures ∙ c.if-word-eq-A_CONTAC.true) in
    let all : take 9 line ≡ 97 ∷ 32 ∷ name_of Contact = take_more line 8 0 (omega (arith, c.requires.room)) ∙ (λ i. front i ++ c.if-line-eq116.true i ∷ []) in
    rw (take_all (length line - 9) (drop 9 line) (omega (arith, length-drop 9 line))) (adds_plain Contact 9 line all)

pub returns-then-word-eq-A_RANGE-clause-adds : goal.returns-then-word-eq-A_RANGE-clause-adds
returns-then-word-eq-A_RANGE-clause-adds c =
    let line = c.args.line.now in
    let eight = eight_at line 0 (λ i. (c.type_inv.line i).fits) (omega (arith, c.requires.room)) in
    let front = bytes_are (take 8 line) 8 _ eight (sym c.first_eight-word.ensures ∙ c.if-word-eq-A_RANGE.true) in
    let all : take 7 line ≡ 97 ∷ 32 ∷ name_of Range = sym (take-take 7 8 line (omega arith)) ∙ ap (take 7) front in
    rw (take_all (length line - 7) (drop 7 line) (omega (arith, length-drop 7 line))) (adds_plain Range 7 line all)
