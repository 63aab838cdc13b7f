use Rattle.std.proofs.Common.{◌≡◌, ◌-◌, length}
use Rattle.sabr_model.specs.Devices.{Gives}
use Rattle.commands.specs.words.Lines.{IsGoodSoFar}
use Rattle.commands.proofs.words.lines.read_lines.Given as goal

abbrev pub invariant-loop-form : goal.invariant-loop-form
invariant-loop-form g l = record {
  read : Gives (g.R.Read.input l.initial.reader) l.text.items (g.R.Read.input l.reader);
  fine : (g.R.Read.input l.reader).failures ≡ (g.R.Read.input l.initial.reader).failures;
  good : IsGoodSoFar l.form l.text.items l.judged;
}

abbrev pub decreases-loop-form : goal.decreases-loop-form
decreases-loop-form g l = 18446744073709551615 - length l.text.items
