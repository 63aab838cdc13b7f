use Rattle.std.proofs.Common.{◌≡◌, ◌≤◌, ◌<◌, [], map, length}
use Rattle.std.specs.Option.{option_copied}
use Rattle.sabr_session.specs.SessionWords.{words_of, words_after, all_of}
use Rattle.sabr_plan.specs.Numbers.{number_within}
use Rattle.sabr_session.proofs.WordLemmas.ReadLists.{with_front}
use Rattle.sabr_session.proofs.reading.lists.numbers_listed.Given as goal

abbrev pub invariant-loop-left : goal.invariant-loop-left
invariant-loop-left l = record {
  few : length l.nodes ≤ 16;
  some : words_after (option_copied l.left) ≡ [] → 0 < length l.nodes;
  listed : all_of (map (number_within 0 18446744073709551615) (words_of l.text))
      ≡ with_front l.nodes (all_of (map (number_within 0 18446744073709551615) (words_after (option_copied l.left))));
}

abbrev pub decreases-loop-left : goal.decreases-loop-left
decreases-loop-left l = length (words_after (option_copied l.left))
