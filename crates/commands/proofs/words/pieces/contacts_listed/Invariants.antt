use Rattle.std.proofs.Common.{◌≡◌, map, length}
use Rattle.std.specs.Option.{option_copied}
use Rattle.sabr_plan.specs.Pieces.{pieces_of, pieces_after}
use Rattle.sabr_session.specs.SessionWords.{all_of, most_number}
use Rattle.sabr_plan.specs.Numbers.{number_within}
use Rattle.sabr_session.proofs.WordLemmas.ReadLists.{with_front}
use Rattle.commands.proofs.words.pieces.contacts_listed.Given as goal

abbrev pub invariant-loop-rest : goal.invariant-loop-rest
invariant-loop-rest g l =
    all_of (map (number_within 1 most_number) (pieces_of 44 l.text))
    ≡ with_front l.contacts.items (all_of (map (number_within 1 most_number) (pieces_after 44 (option_copied l.rest))))

abbrev pub decreases-loop-rest : goal.decreases-loop-rest
decreases-loop-rest g l = length (pieces_after 44 (option_copied l.rest))
