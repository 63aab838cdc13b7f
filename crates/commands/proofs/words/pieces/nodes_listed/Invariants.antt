use Rattle.std.proofs.Common.{◌≡◌, ◌≤◌, map, length}
use Rattle.std.specs.Option.{option_copied}
use Rattle.sabr_plan.specs.Pieces.{pieces_of, pieces_after}
use Rattle.sabr_session.specs.SessionWords.{all_of}
use Rattle.sabr_plan.specs.Numbers.{number_within}
use Rattle.sabr_session.proofs.WordLemmas.ReadLists.{with_front}
use Rattle.commands.proofs.words.pieces.nodes_listed.Given as goal

abbrev pub invariant-loop-rest : goal.invariant-loop-rest
invariant-loop-rest l = record {
  few : length l.nodes ≤ 16;
  listed : all_of (map (number_within 1 18446744073709551615) (pieces_of 44 l.text))
      ≡ with_front l.nodes (all_of (map (number_within 1 18446744073709551615) (pieces_after 44 (option_copied l.rest))));
}

abbrev pub decreases-loop-rest : goal.decreases-loop-rest
decreases-loop-rest l = length (pieces_after 44 (option_copied l.rest))
