use Rattle.std.proofs.Common.{◌≡◌, ◌+◌, [], ◌∷◌, ◌++◌, Some, length, ap, sym, subst, ◌∙◌, arith}
use Rattle.sabr_model.specs.plan.Plan.{has}
use Rattle.sabr_model.proofs.RouteLemmas.Prefixes.{empty_is_prefix}
use Rattle.sabr_search.specs.declared.prefix_path.Stop.{Stop}
use Rattle.sabr_search.specs.questions.PrefixPath.{AreStops}
use Rattle.sabr_search.proofs.LinkLemmas.PlanFacts.{has_nodes}
use Rattle.sabr_search.proofs.WayLemmas.PrefixPaths.{no_source, no_destination, first_stop}
use Rattle.sabr_search.proofs.WayLemmas.Shortness.{nodes_few}
use Rattle.sabr_search.proofs.prefix_path.PrefixPath.at_source.Goals as goal

pub returns-in_default-clause-none : goal.returns-in_default-clause-none
returns-in_default-clause-none g c =
    no_source c.args.plan.now.plan c.args.request.now c.args.plan.now.table (has_nodes c.args.plan.now c.nodes-nodes.ensures.tabled) (ap (λ x. has x c.args.plan.now.table) (sym c.from.ensures.value) ∙ c.in_default.ensures)

pub returns-in_default-node_index-clause-none : goal.returns-in_default-node_index-clause-none
returns-in_default-node_index-clause-none g c =
    no_destination c.args.plan.now.plan c.args.request.now c.args.plan.now.table (has_nodes c.args.plan.now c.nodes-nodes.ensures.tabled) (ap (λ x. has x c.args.plan.now.table) (sym c.to.ensures.value) ∙ c.in_default-node_index.ensures)

pub reset-requires : goal.reset-requires
reset-requires g c = omega (arith, c.nodes-nodes.ensures.table, nodes_few c.args.plan.now c.rules_hold.ensures c.nodes-nodes.ensures.tabled)

pub forbid_source_and_avoided-requires-clause-nodes : goal.forbid_source_and_avoided-requires-clause-nodes
forbid_source_and_avoided-requires-clause-nodes g c = has_nodes c.args.plan.now c.nodes-nodes.ensures.tabled

pub returns-clause-some : goal.returns-clause-some
returns-clause-some g c =
    let p = c.args.plan.now in
    let r = c.args.request.now in
    let stop : Stop = record { node = c.in-Some.source; at = c.at.result; summary = c.summary_of_none.result } in
    let one : c.push.new.self.items ≡ stop ∷ [] = c.in_ok-push.ensures.items ∙ ap (λ xs. xs ++ stop ∷ []) c.new-stops.ensures.items in
    let none = c.new.ensures.items in
    record {
      plan = c.rules_hold.ensures;
      tabled = c.nodes-nodes.ensures.tabled;
      nodes = sym c.nodes-nodes.ensures.table ∙ c.nodes-nodes.ensures.value;
      asked = c.from.ensures.limits;
      fits = rw none (empty_is_prefix p.plan r);
      many = ap length one ∙ ap (λ xs. length xs + 1) (sym none);
      stops = rw none (subst (AreStops p r []) (sym one) (first_stop p r stop (c.in-Some.ensures ∙ ap Some c.from.ensures.value) c.at.ensures.value c.summary_of_none.ensures));
      forbids = rw none c.in_ok-forbid_source_and_avoided.ensures;
      goal_is = c.in-Some-node_index.ensures ∙ ap Some c.to.ensures.value;
    }
