use Rattle.std.proofs.Common.{◌≡◌, ℕ, false, sym, ◌∙◌}
use Rattle.std.specs.Prelude.{is_some, MatchOption}
use Rattle.std.specs.declared.option.Option.{Option}
use Rattle.std.specs.declared.option.Option.TheVariants.{Some, None}
use Rattle.commands.proofs.words.lines.judge_piece.Goals as goal

none_found : (found : Option ℕ) (P : Type 0) (Q : ℕ → Type 0) → is_some found ≡ false → MatchOption found P Q → P
none_found None P Q e h = h
none_found (Some k) P Q e h = absurd cc

pub returns-clause-good : goal.returns-clause-good
returns-clause-good c = record {
  judged = c.requires.judged;
  rest = c.requires.rest (none_found c.line_end.result _ _ (sym c.is_some.ensures ∙ c.if-is_some.false) c.line_end.ensures);
  fits = sym c.is_bad_rest.ensures ∙ c.if-is_bad_rest.false;
}
