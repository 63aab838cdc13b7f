use Rattle.sabr_model.proofs.ListLemmas.Names.{length, ◌-◌, ◌≡◌, ◌≤◌, take, Takes}
use Rattle.sabr_model.proofs.devices.write_text.Given as goal

abbrev pub invariant-loop-at : goal.invariant-loop-at
invariant-loop-at g l = record {
  in_range : l.at ≤ length l.text;
  written : Takes (g.W.Write.output l.initial.writer) (take l.at l.text) (g.W.Write.output l.writer);
  fine : (g.W.Write.output l.writer).failures ≡ (g.W.Write.output l.initial.writer).failures;
}

abbrev pub decreases-loop-at : goal.decreases-loop-at
decreases-loop-at g l = length l.text - l.at
