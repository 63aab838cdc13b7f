use Rattle.std.proofs.Common.{◌≡◌, ◌+◌, take}
use Rattle.sabr_model.specs.routes.Telling.{summary_of}
use Rattle.sabr_search.proofs.question.summary_from.Given as goal

abbrev pub invariant-loop-place : goal.invariant-loop-place
invariant-loop-place g l = record {
  counted : l.fn.looks.left ≡ l.looks.left + l.place;
  summary : l.summary ≡ summary_of l.plan.plan (take l.place l.numbers);
}
