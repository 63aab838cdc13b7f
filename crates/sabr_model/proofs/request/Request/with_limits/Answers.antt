use Rattle.std.proofs.Common.{rules, ◌≡◌, sym}
use Rattle.sabr_model.proofs.ListLemmas.Ordered.{avoided_rise, rising_nodes}
use Rattle.sabr_model.proofs.request.Request.with_limits.Goals as goal

-- the nodes that are kept are those that were given
pub invariant_of-result : goal.invariant_of-result
invariant_of-result c =
    let old = c.self.invariant in
    let same : c.in-Some.avoided ≡ c.args.avoid.now = c.in-Some.ensures {u = tt} in
    let may = sym (c.if-not-may_avoid.ensures {u = tt}) in
    let avoided = avoided_rise c.self.inside.from c.self.inside.to c.args.avoid.now may in
    record {
      source = old.source;
      destination = old.destination;
      apart = old.apart;
      time = old.time;
      margin = old.margin;
      hops = search rules;
      avoids = rw same may;
      nodes = rw same (rising_nodes 0 c.args.avoid.now avoided.1 c.type_inv.avoid);
    }
