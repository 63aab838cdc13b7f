use Rattle.std.proofs.Common.{ap, sym, ◌∙◌}
use Rattle.std.specs.Option.{option_copied}
use Rattle.commands.specs.words.Values.{nodes_listed, numbers_within}
use Rattle.sabr_plan.specs.Pieces.{pieces_after}
use Rattle.sabr_plan.specs.Numbers.{number_within}
use Rattle.sabr_session.proofs.WordLemmas.ReadLists.{with_front-bad, with_front-end}
use Rattle.commands.proofs.WordLemmas.RequestWords.{few, few-kept, few-full}
use Rattle.commands.proofs.words.pieces.nodes_listed.Goals as goal

pub returns-in_err-node : goal.returns-in_err-node
unfolding nodes_listed numbers_within
returns-in_err-node c =
    rw c.from_residual.ensures (ap few (with_front-bad (number_within 1 18446744073709551615) _ _ _ _ _ c.loop-rest.invariant.listed (ap (λ o. pieces_after 44 (option_copied o)) c.in-Some.is ∙ c.first_piece.ensures.pieces) (sym c.number_within.ensures.value ∙ c.in_err-node.was)))

pub returns-in_err-push : goal.returns-in_err-push
unfolding nodes_listed numbers_within
returns-in_err-push c =
    rw c.from_residual-in_err-push.ensures (few-full (number_within 1 18446744073709551615) _ _ _ _ _ c.in_ok-node.node c.loop-rest.invariant.listed (ap (λ o. pieces_after 44 (option_copied o)) c.in-Some.is ∙ c.first_piece.ensures.pieces) (sym c.number_within.ensures.value ∙ c.in_ok-node.was)
    (c.push.ensures.full c.in_err-push.was))

pub returns : goal.returns
unfolding nodes_listed numbers_within
returns c =
    few-kept _ c.loop-rest.nodes (with_front-end (number_within 1 18446744073709551615) _ _ _ c.loop-rest.invariant.listed (ap (λ o. pieces_after 44 (option_copied o)) c.in_default.is)) c.loop-rest.invariant.few
