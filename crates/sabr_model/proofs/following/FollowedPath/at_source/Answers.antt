use Rattle.sabr_model.proofs.ListLemmas.Names.{◌≡◌, ℕ, IfSome, Some, None, false, [], ap, sym, AreMet, has_index}
use Rattle.sabr_model.proofs.RouteLemmas.Prefixes.{empty_is_path}
use Rattle.sabr_model.proofs.following.FollowedPath.at_source.Goals as goal

pub returns : goal.returns
returns g c = record {
  rules = c.rules_hold.ensures;
  tabled = c.nodes.ensures.tabled;
  few = rw c.nodes.ensures.table at c.nodes.ensures.few;
  path = empty_is_path c.args.plan.now.plan c.args.request.now;
  reached = record { node = ap Some (sym c.from.ensures.value); at = ap Some (sym c.at.ensures.value) };
  nodes = elim c.set_for.result as (λ o. IfSome o (λ met. (k : ℕ) → has_index met k ≡ false) → IfSome o (λ met. AreMet c.args.plan.now met [])) [
    | None ↦ λ _. tt
    | Some met ↦ λ none k node there. none k
  ] c.set_for.ensures;
}
