use Rattle.std.proofs.Common.{◌≡◌, length}
use Rattle.commands.specs.words.Lines.{lines_in, asked_from}
use Rattle.commands.specs.runs.Many.{form_of}
use Rattle.commands.proofs.RunLemmas.ManyAnswers.{HasAnswered}
use Rattle.commands.proofs.runs.many_and_follow.answer_all.Given as goal

abbrev pub invariant-loop-line : goal.invariant-loop-line
invariant-loop-line g l = record {
  answered : HasAnswered l.initial.answering.plan l.kind (asked_from (form_of l.kind) 1 (lines_in l.text)) (lines_in l.rest) (g.O.Write.output l.initial.out) (g.O.Write.output l.out);
  plan : l.answering ≡ l.initial.answering;
}

abbrev pub decreases-loop-line : goal.decreases-loop-line
decreases-loop-line g l = length l.rest
