use Rattle.sabr_frontier.proofs.Names.{[], sym, subst, IsPartial, partial_shape_of}
use Rattle.sabr_frontier.proofs.LoadingLemmas.LoadedParts.{nothing_yet_is}
use Rattle.sabr_frontier.proofs.loader.Loader.new.Goals as goal

pub invariant_of-result : goal.invariant_of-result
invariant_of-result g c =
    let p = c.args.plan.now.plan in
    let r = c.args.request in
    record {
      rules = c.rules_hold.ensures;
      limits = c.limits_hold.ensures;
      partial = subst (λ ts. IsPartial p r ts (partial_shape_of c.new-2.result)) (sym c.new.ensures) (subst (IsPartial p r []) (sym c.new-2.ensures) (nothing_yet_is p r {A = g.row.A.Denot}));
    }
