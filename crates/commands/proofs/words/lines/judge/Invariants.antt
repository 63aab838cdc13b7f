use Rattle.std.proofs.Common.{◌-◌, length}
use Rattle.commands.specs.words.Lines.{IsJudged}
use Rattle.commands.proofs.words.lines.judge.Given as goal

abbrev pub invariant-loop-line : goal.invariant-loop-line
invariant-loop-line l = IsJudged l.form l.text l.judged

abbrev pub decreases-loop-line : goal.decreases-loop-line
decreases-loop-line l = length l.text - l.judged.bytes
