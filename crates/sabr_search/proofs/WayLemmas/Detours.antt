-- One contact, or two, that end a route.
use Rattle.std.proofs.Common.{◌≡◌, ◌≢◌, ℕ, ◌+◌, ◌<◌, true, false, not, eqb, List, [], ◌∷◌, ◌++◌, length, Some, None, refl, ap, sym, subst, ◌∙◌, arith, length-append}
use Rattle.std.specs.Prelude.{IfSome, IsTrue, Option, is_some}
use Rattle.std.proofs.lemmas.Bool.{and_from, ne_eqb, not_from_false, or_from}
use Rattle.sabr_model.specs.plan.Plan.{ContactPlan, are_different, has}
use Rattle.sabr_model.specs.routes.Arrival.{RouteRequest}
use Rattle.sabr_model.specs.routes.Route.{is_prefix, is_route}
use Rattle.sabr_model.proofs.ListLemmas.Begins.{receivers-cons}
use Rattle.sabr_model.proofs.RouteLemmas.Prefixes.{beginning_is_prefix}
use Rattle.sabr_model.proofs.RouteLemmas.Routes.{route_facts}
use Rattle.sabr_search.specs.questions.Task.{SearchTask, IsAsked, Takes}
use Rattle.sabr_search.proofs.WayLemmas.PartWays.{different_way_is_route}
use Rattle.sabr_search.proofs.WayLemmas.Prefixes.{prefix_facts}

-- what has a value has this one
pub value_if : {X : Type 0} {P : X → Type 0} (o : Option X) → IfSome o P → is_some o ≡ true → (x : X) × P x
value_if None h some = absurd cc
value_if (Some x) h some = (x, h)

-- the numbers of a route before its last one
pub front_of_route : (p : ContactPlan) (r : RouteRequest) (route front : List ℕ) (last : ℕ) → route ≡ front ++ last ∷ [] → IsTrue (is_route p r route)
    → IsTrue (is_prefix p r front) × (length front < r.max_hops) × (length route ≡ length front + 1)
front_of_route p r route front last numbers is =
    let whole : IsTrue (is_route p r (front ++ last ∷ [])) = subst (λ s. IsTrue (is_route p r s)) numbers is in
    let size : length (front ++ last ∷ []) ≡ length front + 1 = length-append front (last ∷ []) in
    let within = (route_facts p r (front ++ last ∷ []) whole).within in
    (beginning_is_prefix p r front last [] whole, omega (arith, within, size), ap length numbers ∙ size)

module _ (task : SearchTask) (front : List ℕ) (asked : IsAsked task front) where
  pub one_contact : (n d : ℕ) → length front < task.request.max_hops → Takes task n task.start task.at task.goal d → IsTrue (is_route task.plan task.request (front ++ n ∷ []))
  one_contact n d room step =
      (different_way_is_route task front asked.behind (prefix_facts task.plan task.request front asked.fits) (n ∷ []) d (omega arith) (task.goal, d, step, (refl, refl))
      (ap are_different (receivers-cons task.plan n [] step.contact step.named)) (omega (arith, room))).0

  pub two_contacts : (n m w b d : ℕ) → length front + 1 < task.request.max_hops → Takes task n task.start task.at w b → Takes task m w b task.goal d → w ≢ task.goal
      → IsTrue (is_route task.plan task.request (front ++ n ∷ m ∷ []))
  two_contacts n m w b d room one two other =
      let p = task.plan in
      let apart : eqb one.contact.to two.contact.to ≡ false = ne_eqb one.contact.to two.contact.to (λ same. other (asked.task_is.nodes.apart w task.goal one.contact.to one.receiver (two.receiver ∙ ap Some (sym same)))) in
      let differ : are_different (one.contact.to ∷ two.contact.to ∷ []) ≡ true =
      and_from (not (has one.contact.to (two.contact.to ∷ []))) true (not_from_false (has one.contact.to (two.contact.to ∷ [])) (or_from (eqb one.contact.to two.contact.to) false apart refl)) refl in
      (different_way_is_route task front asked.behind (prefix_facts p task.request front asked.fits) (n ∷ m ∷ []) d (omega arith) (w, b, one, (task.goal, d, two, (refl, refl)))
      (ap are_different (receivers-cons p n (m ∷ []) one.contact one.named ∙ ap (λ xs. one.contact.to ∷ xs) (receivers-cons p m [] two.contact two.named)) ∙ differ) (omega (arith, room))).0
