use Rattle.sabr_plan.proofs.Names.{◌≡◌, take, list_all}
use Rattle.sabr_plan.specs.Words.{is_plain}
use Rattle.sabr_plan.proofs.words.is_plain.Given as goal

abbrev pub invariant-loop-byte : goal.invariant-loop-byte
invariant-loop-byte l = (l.plain ≡ list_all is_plain (take l.byte-index l.line))
