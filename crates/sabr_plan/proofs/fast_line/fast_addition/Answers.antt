-- Five operands come one after another, and are those of the command in the words of the line.
use Rattle.sabr_plan.proofs.Names.{◌≡◌, ℕ, List, Option, Ok, true, false, [], ◌∷◌, ◌++◌, ap, refl, ok_or, list_all}
use Rattle.sabr_plan.specs.Words.{is_plain, is_comment, words_of}
use Rattle.sabr_plan.specs.PlainWords.{name_of}
use Rattle.sabr_plan.specs.Operands.{time_at, node_of, value_of}
use Rattle.sabr_plan.specs.Commands.{addition_of, line_command}
use Rattle.sabr_plan.specs.declared.command.Addition.{Addition}
use Rattle.sabr_plan.specs.declared.command.Command.TheVariants.{Add}
use Rattle.sabr_plan.specs.declared.command.Target.{Target}
use Rattle.sabr_plan.specs.declared.command.Target.TheVariants.{Contact, Range}
use Rattle.sabr_plan.specs.declared.fault.PlanKind.TheVariants.{BadNode, BadNumber}
use Rattle.sabr_plan.proofs.PlainWords.{plain_one, still_ended, ended_blanks, ended_ahead, no_words, more_words, first_a, no_comment}
use Rattle.sabr_plan.proofs.fast_line.fast_addition.Goals as goal

-- five words that are operands are an addition
added : (reference : Option ℕ) (target : Target) (s e x y v : List ℕ) (a : Addition) → time_at reference s ≡ Ok a.start → time_at reference e ≡ Ok a.end → node_of x ≡ Ok a.first → node_of y ≡ Ok a.second → value_of target v ≡ Ok a.value → addition_of reference target (s ∷ e ∷ x ∷ y ∷ v ∷ []) ≡ Ok (Add target a)
added reference target s e x y v a p q f g h = rw (p, q, f, g, h) refl

said : (reference : Option ℕ) (target : Target) (line name : List ℕ) (operands : List (List ℕ)) (a : Addition) → is_comment line ≡ false → list_all is_plain line ≡ true → words_of line ≡ (97 ∷ []) ∷ name ∷ operands → name ≡ name_of target → addition_of reference target operands ≡ Ok (Add target a) → line_command reference line ≡ Ok (Add target a)
unfolding line_command
said reference Contact line name operands a comment plain words named value = rw (comment, plain, words, named) value
said reference Range line name operands a comment plain words named value = rw (comment, plain, words, named) value

pub time_ahead-requires-clause-ended : goal.time_ahead-requires-clause-ended
time_ahead-requires-clause-ended c = let adds = c.in_ok-target.ensures.adds in ended_ahead adds.name (still_ended (97 ∷ []) adds.after_letter refl (ended_blanks adds.first c.requires))

pub returns : goal.returns
returns c =
    let start = c.in_ok-start.ensures.word in
    let end = c.in_ok-end.ensures.word in
    let first = c.in_ok-first.ensures.word in
    let second = c.in_ok-second.ensures.word in
    let value = c.in_ok-value.ensures.word in
    let adds = c.in_ok-target.ensures.adds in
    let back = more_words adds.name (more_words start (more_words end (more_words first (more_words second (more_words value (no_words c.in_ok-next.ensures)))))) in
    let whole = first_a adds.first back in
    let line = adds.first.blanks ++ 97 ∷ back.line in
    let largest = c.largest_value.ensures in
    record {
      line = line;
      parts = whole.0;
      one = plain_one line whole.1;
      holds = said c.args.reference.now c.in_ok-target.target line adds.name.front.word _ _ (no_comment adds.first.blanks back.line adds.first.blank) whole.1 whole.2 adds.name.front.holds (added c.args.reference.now c.in_ok-target.target start.front.word end.front.word first.front.word second.front.word value.front.word _ start.front.holds end.front.holds (ap (λ o. ok_or o BadNode) first.front.holds) (ap (λ o. ok_or o BadNode) second.front.holds) (ap (λ o. ok_or o BadNumber) (rw largest at value.front.holds)));
    }
