use Rattle.sabr_plan.proofs.Names.{take, flat_map, Written}
use Rattle.sabr_plan.proofs.canonical_text.write_lines.Given as goal

abbrev pub invariant-loop-record : goal.invariant-loop-record
invariant-loop-record g l = Written (g.W.Write.output l.initial.writer) (flat_map g.T.Record.line_of (take l.record-index l.records)) (g.W.Write.output l.writer)
