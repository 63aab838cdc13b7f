use Rattle.std.proofs.Common.{◌≡◌, Some, true, ◌||◌, [], take, slice_index, slice_get, ◌+◌, ap, subst, ◌∙◌, arith}
use Rattle.std.proofs.lemmas.Bool.{ne_eqb, both_ways}
use Rattle.std.proofs.lemmas.List.{take_all}
use Rattle.std.proofs.lemmas.Option.{slice_get-get_or, slice_get_within}
use Rattle.sabr_model.specs.plan.Plan.{has}
use Rattle.sabr_search.specs.questions.Task.{is_forbidden}
use Rattle.sabr_search.proofs.WayLemmas.PrefixPaths.{or_false, forbidden_more, forbidden_same, closed_none, has_more, has_other}
use Rattle.sabr_search.proofs.prefix_path.source_and_avoided.forbid_source_and_avoided.Goals as goal
use Rattle.sabr_search.proofs.prefix_path.source_and_avoided.forbid_source_and_avoided.Goals.{in-Some+in_ok-put, in_default}

pub loop-node-preserved : goal.loop-node-preserved
loop-node-preserved g c =
    let nodes = c.avoided-node-items.result.now in
    let i = c.loop-node.node-index in
    let here : slice_get nodes i ≡ Some (slice_index nodes i) = slice_get-get_or nodes i 0 c.loop-node-test.true in
    elim c.match-node_index.branch [
      | in-Some+in_ok-put w ↦ rw w.forbidden-is (rw w.in_ok-put.ensures (forbidden_more c.args.plan.now.plan c.args.plan.now.table c.requires.nodes c.loop-node.forbidden (λ x. has x (take i nodes)) (λ x. has x (take (i + 1) nodes)) w.in-Some.index (slice_index nodes i) c.loop-node.invariant w.in-Some.ensures (λ x. has_more nodes i (slice_index nodes i) x here)))
      | in_default w ↦ rw w.forbidden-is (forbidden_same c.args.plan.now.table c.loop-node.forbidden (λ x. has x (take i nodes)) (λ x. has x (take (i + 1) nodes)) c.loop-node.invariant (λ x inside. has_other nodes i (slice_index nodes i) x here c.args.plan.now.table w.in_default.ensures inside))
    ]

pub put-requires-2 : goal.put-requires-2
put-requires-2 g c = omega (arith, c.loop-node.invariant.many, slice_get_within c.args.plan.now.table c.in-Some-node_index.source _ c.in-Some-node_index.ensures)

pub returns-in_default-node_index : goal.returns-in_default-node_index
returns-in_default-node_index g c =
    let p = c.args.plan.now in
    let r = c.args.request.now in
    let whole : take c.loop-node.node-index c.avoided-node-items.result.now ≡ r.avoided = take_all c.loop-node.node-index c.avoided-node-items.result.now (omega (arith, c.loop-node-test.false)) ∙ c.avoided-node-items.ensures.value in
    forbidden_same p.table _ (λ x. has x r.avoided) (is_forbidden p.plan r []) (rw whole at c.loop-node.invariant)
    (λ x inside. closed_none p.plan r x ∙ ap (λ b. has x r.avoided || b) (ne_eqb x r.source (λ same. both_ways (has r.source p.table) (rw c.from.ensures.value at c.in_default-node_index.ensures) (subst (λ k. has k p.table ≡ true) same inside))) ∙ or_false (has x r.avoided))

pub returns : goal.returns
returns g c =
    let p = c.args.plan.now in
    let r = c.args.request.now in
    let whole : take c.loop-node.node-index c.avoided-node-items.result.now ≡ r.avoided = take_all c.loop-node.node-index c.avoided-node-items.result.now (omega (arith, c.loop-node-test.false)) ∙ c.avoided-node-items.ensures.value in
    rw c.in_ok-put-2.ensures (forbidden_more p.plan p.table c.requires.nodes _ (λ x. has x r.avoided) (is_forbidden p.plan r []) c.in-Some-node_index.source r.source (rw whole at c.loop-node.invariant) (rw c.from.ensures.value at c.in-Some-node_index.ensures) (closed_none p.plan r))
