-- A way with the fewest hops is, with its prefix, no longer than the plan; and a plan has few nodes.
use Rattle.std.proofs.Common.{◌≡◌, ℕ, ◌+◌, ◌*◌, ◌<◌, ◌≤◌, true, not, ◌||◌, List, [], ◌∷◌, ◌++◌, length, refl, sym, ap, ◌∙◌, arith, length-append}
use Rattle.std.proofs.Math.Nat.{mul-le-mul_right}
use Rattle.std.proofs.lemmas.Bool.{and_parts, or_parts, both_ways, eq-eqb}
use Rattle.std.specs.Option.{option_and_then}
use Rattle.std.specs.declared.option.Option.TheVariants.{Some}
use Rattle.sabr_model.specs.declared.contact.Contact.{Contact}
use Rattle.sabr_model.specs.plan.Plan.{TabledPlan, IsPlan, has, are_different}
use Rattle.sabr_model.specs.routes.Arrival.{RouteRequest}
use Rattle.sabr_model.specs.plan.Table.{ends_of}
use Rattle.sabr_model.specs.plan.Tabled.{IsTabled}
use Rattle.sabr_model.specs.routes.Route.{chain_end, receivers}
use Rattle.sabr_model.proofs.ListLemmas.Begins.{receivers-append, chain_end-append}
use Rattle.sabr_search.specs.questions.FirstSteps.{Leads}
use Rattle.sabr_search.specs.questions.Task.{SearchTask, Takes, IsBehind, most_nodes}
use Rattle.sabr_search.proofs.WayLemmas.Prefixes.{IsPrefix}
use Rattle.sabr_search.proofs.WayLemmas.RoutesAndWays.{IsChain, opens_of, chain_of_way}
use Rattle.sabr_search.proofs.WayLemmas.PartWays.{way_differs}
use Rattle.sabr_search.proofs.LinkLemmas.PlanFacts.{few_different}
use Rattle.sabr_search.proofs.AnswerLemmas.Law.{chain_few, contacts_few, prefix_few}
use Rattle.sabr_model.proofs.ListLemmas.Different.{different_append}

-- a way with the fewest hops by its delivery is, with its prefix, no longer than the plan
pub way_few : (task : SearchTask) (prefix : List ℕ) → IsBehind task prefix → IsPrefix task.plan task.request prefix → (s : List ℕ) (d : ℕ) → Leads (Takes task) task.start task.at s task.goal d
    → ((ns : List ℕ) (e : ℕ) → length ns < length s → Leads (Takes task) task.start task.at ns task.goal e → d < e)
    → length prefix + length s ≤ length task.plan.contacts
way_few task prefix behind facts s d way fewest =
    let p = task.plan in
    let r = task.request in
    let chain : IsChain task prefix s task.goal d task.at behind.last_node = chain_of_way task prefix (opens_of task prefix behind) s task.start task.at task.goal d behind.last_node behind.stands way in
    let reaches : chain_end p r.source (prefix ++ s) ≡ Some chain.last =
    chain_end-append p r.source prefix s ∙ ap (option_and_then (λ b. chain_end p b s)) behind.chained ∙ chain.chain in
    let apart : are_different (r.source ∷ receivers p (prefix ++ s)) ≡ true =
    ap (λ w. are_different (r.source ∷ w)) (receivers-append p prefix s)
    ∙ different_append (r.source ∷ receivers p prefix) (receivers p s) facts.different
    (way_differs task prefix behind (length s) d fewest [] s task.start task.at d (refl, refl) way (omega arith) (omega arith))
    (λ x one other. both_ways (has x (r.source ∷ receivers p prefix)) (or_parts (has x (r.source ∷ receivers p prefix)) (has x r.avoided) (chain.open_nodes x other)).0 one) in
    let rest = and_parts (not (has r.source (receivers p (prefix ++ s)))) (are_different (receivers p (prefix ++ s))) apart in
    omega (arith, length-append prefix s, chain_few p r.source (prefix ++ s) chain.last reaches rest.1)

ends_size : (cs : List Contact) → length (ends_of cs) ≡ 2 * length cs
ends_size [] = refl
ends_size (c ∷ cs) = omega (arith, ends_size cs)

-- a plan has at most so many nodes
pub nodes_few : (p : TabledPlan) → IsPlan p.plan → IsTabled p → length p.table ≤ most_nodes
nodes_few p good tabled =
    omega (arith, few_different p.table (ends_of p.plan.contacts) tabled.once (λ q h. sym (tabled.nodes q) ∙ h), ends_size p.plan.contacts, contacts_few p.plan good)

-- a plan that has a contact has a node
nodes_some : (cs : List Contact) (table : List ℕ) → ((x : ℕ) → has x table ≡ has x (ends_of cs)) → length cs ≤ length table * length cs
nodes_some [] table same = omega arith
nodes_some (c ∷ cs) [] same = absurd (both_ways (has c.from (ends_of (c ∷ cs))) (sym (same c.from)) (ap (λ b. b || has c.from (c.to ∷ ends_of cs)) (eq-eqb c.from c.from refl)))
nodes_some (c ∷ cs) (x ∷ table) same =
    let one : 1 * length (c ∷ cs) ≤ length (x ∷ table) * length (c ∷ cs) = mul-le-mul_right (length (c ∷ cs)) (omega arith) in
    omega (arith, one)

-- so the looks for the index and a prefix are within the bound of a finder
pub entered_looks : (p : TabledPlan) (r : RouteRequest) (prefix : List ℕ) → IsTabled p → IsPrefix p.plan r prefix → (n looks : ℕ) → length p.table ≡ n → looks ≤ length p.plan.contacts + length prefix → looks ≤ (3 * n + 1) * length p.plan.contacts
entered_looks p r prefix tabled facts n looks many le =
    let some : length p.plan.contacts ≤ n * length p.plan.contacts = rw (← many) (nodes_some p.plan.contacts p.table tabled.nodes) in
    omega (arith, le, some, prefix_few p.plan r prefix facts)
