use Rattle.std.proofs.Common.{◌≡◌, ◌≤◌, map, length}
use Rattle.std.specs.List.{list_any}
use Rattle.std.specs.Option.{option_copied}
use Rattle.sabr_session.specs.SessionWords.{words_of, words_after, all_of, is_slash, before_slash, after_slash, most_number}
use Rattle.sabr_plan.specs.Numbers.{number_within}
use Rattle.sabr_session.proofs.WordLemmas.ReadLists.{with_front}
use Rattle.sabr_session.proofs.reading.lists.numbers_to_slash.Given as goal

abbrev pub invariant-loop-left : goal.invariant-loop-left
invariant-loop-left g l = record {
  few : length l.numbers.items ≤ 20000;
  read : all_of (map (number_within 1 most_number) (before_slash (words_of l.text)))
      ≡ with_front l.numbers.items (all_of (map (number_within 1 most_number) (before_slash (words_after (option_copied l.left)))));
  after : after_slash (words_of l.text) ≡ after_slash (words_after (option_copied l.left));
  has : list_any is_slash (words_of l.text) ≡ list_any is_slash (words_after (option_copied l.left));
}

abbrev pub decreases-loop-left : goal.decreases-loop-left
decreases-loop-left g l = length (words_after (option_copied l.left))
