use Rattle.sabr_plan.proofs.Names.{ℕ, List, take, ◌++◌, flat_map}
use Rattle.sha2.specs.Hashers.{Holds256}
use Rattle.sabr_plan.proofs.canonical_text.feed_lines.Given as goal

abbrev pub invariant-loop-record : goal.invariant-loop-record
invariant-loop-record g l =
    ((m : List ℕ) → Holds256 l.initial.hasher m → Holds256 l.hasher (m ++ flat_map g.T.Record.line_of (take l.record-index l.records)))
