-- The routes of a part are ways of its search, and a way with the fewest hops is a route of the part.
use Rattle.std.proofs.Common.{◌≡◌, ℕ, suc, ◌+◌, ◌<◌, ◌≤◌, true, false, not, eqb, List, [], ◌∷◌, ◌++◌, length, slice_get, refl, sym, ap, subst, ◌∙◌, ⊎_elim, arith, length-append}
use Rattle.std.specs.Prelude.{is_some, IsTrue}
use Rattle.std.proofs.lemmas.Bool.{and_from, or_cases, or_parts, or_from, eqb-true, both_ways, not-true, not_from_false, false_from_ne_true}
use Rattle.std.specs.List.{list_all}
use Rattle.std.specs.Option.{option_and_then}
use Rattle.std.specs.declared.option.Option.TheVariants.{Some}
use Rattle.sabr_model.specs.plan.Plan.{has, are_different}
use Rattle.sabr_model.specs.routes.Arrival.{arrival_after}
use Rattle.sabr_model.specs.routes.Route.{chain_end, receivers, is_route, IsRoute}
use Rattle.sabr_model.specs.routes.Parts.{goes_on}
use Rattle.sabr_model.proofs.ListLemmas.Begins.{receivers-cons, receivers-append, chain_end-append, different_apart}
use Rattle.sabr_model.proofs.RouteLemmas.Routes.{route_facts, route_from_facts}
use Rattle.sabr_search.specs.questions.FirstSteps.{Leads}
use Rattle.sabr_search.specs.questions.Task.{SearchTask, Takes, IsBehind, is_forbidden}
use Rattle.sabr_search.proofs.WayLemmas.Ways.{Leads-append, no_return}
use Rattle.sabr_search.proofs.WayLemmas.Chains.{arrival_after-append, all_of, all_from, has_right, has_either}
use Rattle.sabr_search.proofs.WayLemmas.Prefixes.{IsPrefix, goes_on-append, goes_on_parts}
use Rattle.sabr_search.proofs.WayLemmas.RoutesAndWays.{takes_timely, way_from_chain, IsChain, opens_of, chain_of_way}
use Rattle.sabr_model.proofs.ListLemmas.Different.{different_append}
use Rattle.sabr_model.proofs.RouteLemmas.Paths.{value_of}

-- a route of the part, as a way
pub record IsPartWay (task : SearchTask) (prefix s : List ℕ) : Type 0 where
  pub rest : List ℕ
  pub is : s ≡ prefix ++ rest
  pub some_hop : 0 < length rest
  pub delivery : ℕ
  pub delivers : arrival_after task.plan task.request task.request.at s ≡ Some delivery
  pub way : Leads (Takes task) task.start task.at rest task.goal delivery

module _ (task : SearchTask) (prefix : List ℕ) (behind : IsBehind task prefix) where
  pub part_way : (s : List ℕ) → IsTrue (is_route task.plan task.request s) → goes_on prefix task.excluded s ≡ true → IsPartWay task prefix s
  part_way s route on =
      let p = task.plan in
      let r = task.request in
      let parts = goes_on_parts prefix task.excluded s on in
      let rest : List ℕ = parts.0 ∷ parts.1 in
      let facts : IsRoute p r (prefix ++ rest) = subst (λ (w : List ℕ). IsRoute p r w) parts.2 (route_facts p r s route) in
      let timed = value_of (arrival_after p r r.at (prefix ++ rest)) facts.in_time in
      let after : arrival_after p r task.at rest ≡ Some timed.0 =
      sym (arrival_after-append p r r.at prefix rest ∙ ap (option_and_then (λ b. arrival_after p r b rest)) behind.arrives) ∙ timed.1 in
      let chain : chain_end p behind.last_node rest ≡ Some r.destination =
      sym (chain_end-append p r.source prefix rest ∙ ap (option_and_then (λ b. chain_end p b rest)) behind.chained) ∙ facts.reaches in
      let apart : are_different ((r.source ∷ receivers p prefix) ++ receivers p rest) ≡ true =
      ap (λ w. are_different (r.source ∷ w)) (sym (receivers-append p prefix rest)) ∙ facts.different in
      let stays : (x : ℕ) → has x (receivers p rest) ≡ true → is_forbidden p r prefix x ≡ false =
      λ x h. or_from (has x (r.source ∷ receivers p prefix)) (has x r.avoided)
      (false_from_ne_true (has x (r.source ∷ receivers p prefix)) (λ g. different_apart (r.source ∷ receivers p prefix) (receivers p rest) x apart g h))
      (not-true (has x r.avoided) (all_of (λ n. not (has n r.avoided)) (receivers p (prefix ++ rest)) facts.allowed x
      (ap (has x) (receivers-append p prefix rest) ∙ has_right x (receivers p prefix) (receivers p rest) h))) in
      record {
        rest = rest;
        is = parts.2;
        some_hop = omega arith;
        delivery = timed.0;
        delivers = ap (arrival_after p r r.at) parts.2 ∙ timed.1;
        way = way_from_chain task prefix behind rest task.start behind.last_node task.at task.goal r.destination timed.0 behind.stands chain behind.goal_is after stays
            (λ n z same here. (let first : parts.0 ≡ n = cc (same) in rw first at parts.3));
      }

  -- a node among the receivers of a way is visited
  pub visited : (z : List ℕ) (w b e k x : ℕ) → Leads (Takes task) w b z task.goal e → slice_get task.table k ≡ Some x → has x (receivers task.plan z) ≡ true
      → (front : List ℕ) × (back : List ℕ) × (s : ℕ) × (z ≡ front ++ back) × (0 < length front) × Leads (Takes task) w b front k s × Leads (Takes task) k s back task.goal e
  visited [] w b e k x way at h = absurd cc
  visited (n ∷ z) w b e k x way at h =
      let step : Takes task n w b way.0 way.1 = way.2 in
      ⊎_elim
      (λ here.
      let same : way.0 ≡ k = behind.nodes.apart way.0 k x (step.receiver ∙ ap Some (sym (eqb-true x step.contact.to here))) at in
      (n ∷ [], z, way.1, refl, omega arith, (way.0, way.1, way.2, (same, refl)), rw same at way.3))
      (λ later.
      let rest = visited z way.0 way.1 e k x way.3 at later in
      (n ∷ rest.0, rest.1, rest.2, ap (λ (l : List ℕ). n ∷ l) rest.3, omega arith, (way.0, way.1, way.2, rest.5), rest.6))
      (or_cases (eqb x step.contact.to) (has x (receivers task.plan z)) (sym (ap (has x) (receivers-cons task.plan n z step.contact step.named)) ∙ h))

  -- if fewer hops come later, the receivers of a way by then are different
  pub way_differs : (r d : ℕ) → ((ns : List ℕ) (e : ℕ) → length ns < r → Leads (Takes task) task.start task.at ns task.goal e → d < e)
      → (xs s : List ℕ) (u t e : ℕ) → Leads (Takes task) task.start task.at xs u t → Leads (Takes task) u t s task.goal e → e ≤ d → length xs + length s ≡ r
      → are_different (receivers task.plan s) ≡ true
  way_differs r d fewest xs [] u t e to way deadline sum = refl
  way_differs r d fewest xs (n ∷ s) u t e to way deadline sum =
      let timely = takes_timely task behind.nodes in
      let step : Takes task n u t way.0 way.1 = way.2 in
      let next : Leads (Takes task) task.start task.at (xs ++ n ∷ []) way.0 way.1 =
      Leads-append (Takes task) timely xs (n ∷ []) task.start task.at u t way.0 way.1 to (way.0, way.1, way.2, (refl, refl)) in
      let longer : length (xs ++ n ∷ []) ≡ suc (length xs) = omega (arith, length-append xs (n ∷ [])) in
      let others = way_differs r d fewest (xs ++ n ∷ []) s way.0 way.1 e next way.3 deadline (omega arith) in
      let fresh : has step.contact.to (receivers task.plan s) ≡ false = false_from_ne_true (has step.contact.to (receivers task.plan s))
      (λ h.
      let v = visited s way.0 way.1 e way.0 step.contact.to way.3 step.receiver h in
      let sizes : length s ≡ length v.0 + length v.1 = ap length v.3 ∙ length-append v.0 v.1 in
      no_return (Takes task) timely task.start task.at task.goal r d fewest (xs ++ n ∷ []) v.0 v.1 way.0 way.1 v.2 e next v.5 v.6 deadline (omega (arith, sizes, longer)) v.4) in
      ap are_different (receivers-cons task.plan n s step.contact step.named)
      ∙ and_from (not (has step.contact.to (receivers task.plan s))) (are_different (receivers task.plan s)) (not_from_false (has step.contact.to (receivers task.plan s)) fresh) others

  -- a way whose receivers are different is a route of the part
  pub different_way_is_route : IsPrefix task.plan task.request prefix → (s : List ℕ) (d : ℕ) → 0 < length s → Leads (Takes task) task.start task.at s task.goal d
      → are_different (receivers task.plan s) ≡ true → length prefix + length s ≤ task.request.max_hops
      → IsTrue (is_route task.plan task.request (prefix ++ s)) × (goes_on prefix task.excluded (prefix ++ s) ≡ true) × (arrival_after task.plan task.request task.request.at (prefix ++ s) ≡ Some d)
  different_way_is_route facts s d some way differ short =
      let p = task.plan in
      let r = task.request in
      let chain : IsChain task prefix s task.goal d task.at behind.last_node = chain_of_way task prefix (opens_of task prefix behind) s task.start task.at task.goal d behind.last_node behind.stands way in
      let ends : chain.last ≡ r.destination = (let e : Some chain.last ≡ Some r.destination = sym chain.stands ∙ behind.goal_is in cc (e)) in
      let reaches : chain_end p r.source (prefix ++ s) ≡ Some r.destination =
      chain_end-append p r.source prefix s ∙ ap (option_and_then (λ b. chain_end p b s)) behind.chained ∙ chain.chain ∙ ap Some ends in
      let after : arrival_after p r r.at (prefix ++ s) ≡ Some d =
      arrival_after-append p r r.at prefix s ∙ ap (option_and_then (λ b. arrival_after p r b s)) behind.arrives ∙ chain.after in
      let apart : are_different (r.source ∷ receivers p (prefix ++ s)) ≡ true =
      ap (λ w. are_different (r.source ∷ w)) (receivers-append p prefix s)
      ∙ different_append (r.source ∷ receivers p prefix) (receivers p s) facts.different differ
      (λ x one other. both_ways (has x (r.source ∷ receivers p prefix)) (or_parts (has x (r.source ∷ receivers p prefix)) (has x r.avoided) (chain.open_nodes x other)).0 one) in
      let allowed : list_all (λ n. not (has n r.avoided)) (receivers p (prefix ++ s)) ≡ true =
      all_from (λ n. not (has n r.avoided)) (receivers p (prefix ++ s)) (λ x h.
      has_either x (receivers p prefix) (receivers p s) (sym (ap (has x) (receivers-append p prefix s)) ∙ h) (not (has x r.avoided) ≡ true)
      (λ one. all_of (λ n. not (has n r.avoided)) (receivers p prefix) facts.allowed x one)
      (λ other. not_from_false (has x r.avoided) (or_parts (has x (r.source ∷ receivers p prefix)) (has x r.avoided) (chain.open_nodes x other)).1)) in
      let size : length (prefix ++ s) ≡ length prefix + length s = length-append prefix s in
      let first : goes_on prefix task.excluded (prefix ++ s) ≡ true =
      elim s as (λ z. 0 < length z → Leads (Takes task) task.start task.at z task.goal d → goes_on prefix task.excluded (prefix ++ z) ≡ true) [
        | [] ↦ λ l w. absurd (omega arith)
        | n ∷ z ↦ λ l w. goes_on-append prefix task.excluded n z (w.2.allowed refl)
      ] some way in
      (route_from_facts p r (prefix ++ s) (record { some_hop = omega arith; reaches = reaches; different = apart; in_time = ap is_some after; allowed = allowed; within = omega arith }), first, after)

  -- so is one with the fewest hops by then
  pub way_is_route : IsPrefix task.plan task.request prefix → (s : List ℕ) (d : ℕ) → 0 < length s → Leads (Takes task) task.start task.at s task.goal d
      → ((ns : List ℕ) (e : ℕ) → length ns < length s → Leads (Takes task) task.start task.at ns task.goal e → d < e)
      → length prefix + length s ≤ task.request.max_hops
      → IsTrue (is_route task.plan task.request (prefix ++ s)) × (goes_on prefix task.excluded (prefix ++ s) ≡ true) × (arrival_after task.plan task.request task.request.at (prefix ++ s) ≡ Some d)
  way_is_route facts s d some way fewest short =
      different_way_is_route facts s d some way (way_differs (length s) d fewest [] s task.start task.at d (refl, refl) way (omega arith) (omega arith)) short
