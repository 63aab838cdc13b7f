-- Routes after a prefix are the ways of a search, and the ways of the least key are routes.
use Rattle.std.proofs.Common.{◌≡◌, ℕ, true, false, eqb, List, [], ◌∷◌, slice_get, slice_index_or, refl, sym, ap, subst, ◌∙◌, ⊎_elim}
use Rattle.std.proofs.lemmas.Bool.{or_cases, or_right, or_left, eq-eqb, eqb-true, both_ways}
use Rattle.std.specs.declared.option.Option.TheVariants.{Some}
use Rattle.sabr_model.specs.declared.contact.Contact.{Contact}
use Rattle.sabr_model.specs.plan.Plan.{has}
use Rattle.sabr_model.specs.routes.Arrival.{arrival_after}
use Rattle.sabr_model.specs.routes.Route.{chain_end, receivers}
use Rattle.sabr_model.proofs.ListLemmas.Begins.{FirstHop, first_hop, receivers-cons, end_is_received}
use Rattle.sabr_model.proofs.RouteLemmas.Waiting.{arrival_is_monotone}
use Rattle.sabr_search.specs.questions.FirstSteps.{Leads}
use Rattle.sabr_search.specs.questions.Task.{SearchTask, Takes, HasNodes, IsBehind, is_forbidden}
use Rattle.sabr_search.proofs.WayLemmas.Chains.{first_arrival, chain_end-cons, arrival_after-cons}
use Rattle.sabr_search.proofs.LinkLemmas.PlanFacts.{arrives_later}
use Rattle.sabr_search.proofs.WayLemmas.Ways.{IsTimely}

pub same_some : {X : Type 0} {x y : X} → Some x ≡ Some y → x ≡ y
same_some h = cc

-- the steps of a search are timely
pub takes_timely : (task : SearchTask) → HasNodes task.plan task.table → IsTimely (Takes task)
takes_timely task nodes = record {
  later = λ n u t w b s. arrives_later task.plan task.request t s.contact b s.arrives;
  earlier = λ n u t w b a s le.
      (let sooner = arrival_is_monotone task.plan task.request s.contact a t b le s.arrives in
      (sooner.0, sooner.2, record { contact = s.contact; named = s.named; sender = s.sender; receiver = s.receiver; permitted = s.permitted; allowed = s.allowed; arrives = sooner.1 }));
  one = λ n u t w b x d s z.
      (let same : s.contact ≡ z.contact = same_some (sym s.named ∙ z.named) in
      let to : s.contact.to ≡ z.contact.to = ap (λ (c : Contact). c.to) same in (
        nodes.apart w x z.contact.to (s.receiver ∙ ap Some to) z.receiver,
        same_some (sym s.arrives ∙ (rw same z.arrives)),
      ));
}

-- what a way from node x at t to the node at place v at e says of its numbers
pub record IsChain (task : SearchTask) (prefix s : List ℕ) (v e t x : ℕ) : Type 0 where
  pub last : ℕ
  pub stands : slice_get task.table v ≡ Some last
  pub chain : chain_end task.plan x s ≡ Some last
  pub after : arrival_after task.plan task.request t s ≡ Some e
  pub open_nodes : (z : ℕ) → has z (receivers task.plan s) ≡ true → is_forbidden task.plan task.request prefix z ≡ false

module _ (task : SearchTask) (prefix : List ℕ) (behind : IsBehind task prefix) where
  -- the start is forbidden: it is the source or a receiver of the prefix
  pub start_is_forbidden : slice_index_or task.forbidden task.start false ≡ true
  start_is_forbidden =
      let p = task.plan in
      let source = task.request.source in
      let listed : has behind.last_node (source ∷ receivers p prefix) ≡ true =
      elim prefix as (λ q. chain_end p source q ≡ Some behind.last_node → has behind.last_node (source ∷ receivers p q) ≡ true) [
        | [] ↦ λ e. or_left (eqb behind.last_node source) false (eq-eqb behind.last_node source (sym (same_some e)))
        | n ∷ q ↦ λ e. or_right (eqb behind.last_node source) (has behind.last_node (receivers p (n ∷ q))) (end_is_received p source n q behind.last_node e)
      ] behind.chained in
      behind.forbids task.start behind.last_node behind.stands ∙ or_left (has behind.last_node (source ∷ receivers p prefix)) (has behind.last_node task.request.avoided) listed

  -- a chain over open nodes, in time, is a way; only its first contact leaves the start
  pub way_from_chain : (s : List ℕ) (u v t z last e : ℕ) → slice_get task.table u ≡ Some v → chain_end task.plan v s ≡ Some last → slice_get task.table z ≡ Some last → arrival_after task.plan task.request t s ≡ Some e
      → ((x : ℕ) → has x (receivers task.plan s) ≡ true → is_forbidden task.plan task.request prefix x ≡ false)
      → ((n : ℕ) (more : List ℕ) → s ≡ n ∷ more → u ≡ task.start → has n task.excluded ≡ false)
      → Leads (Takes task) u t s z e
  way_from_chain [] u v t z last e at chain to after stays first = (behind.nodes.apart u z last (at ∙ chain) to, same_some after)
  way_from_chain (n ∷ s) u v t z last e at chain to after stays first =
      let p = task.plan in
      let h : FirstHop p v n s last = first_hop p v n s last chain in
      let next = first_arrival p task.request t n s e h.contact h.named after in
      let place = behind.nodes.receivers n h.contact h.named in
      let closed : is_forbidden p task.request prefix h.contact.to ≡ false =
      stays h.contact.to (ap (has h.contact.to) (receivers-cons p n s h.contact h.named) ∙ or_left (eqb h.contact.to h.contact.to) (has h.contact.to (receivers p s)) (eq-eqb h.contact.to h.contact.to refl)) in
      let permitted : slice_index_or task.forbidden place.0 false ≡ false = behind.forbids place.0 h.contact.to place.1 ∙ closed in
      let step : Takes task n u t place.0 next.0 = record {
        contact = h.contact;
        named = h.named;
        sender = at ∙ ap Some (sym h.sent);
        receiver = place.1;
        permitted = permitted;
        allowed = first n s refl;
        arrives = next.1;
      } in
      let rest : Leads (Takes task) place.0 next.0 s z e =
      way_from_chain s place.0 h.contact.to next.0 z last e place.1 h.rest to next.2
      (λ x has_x. stays x (ap (has x) (receivers-cons p n s h.contact h.named) ∙ or_right (eqb x h.contact.to) (has x (receivers p s)) has_x))
      (λ m more same here. absurd (both_ways (slice_index_or task.forbidden place.0 false) permitted (rw here start_is_forbidden))) in
      (place.0, next.0, step, rest)

-- no node is open that is closed after the prefix
abbrev pub Opens : SearchTask → List ℕ → Type 0
Opens task prefix = (k x : ℕ) → slice_get task.table k ≡ Some x → slice_index_or task.forbidden k false ≡ false → is_forbidden task.plan task.request prefix x ≡ false

pub opens_of : (task : SearchTask) (prefix : List ℕ) → IsBehind task prefix → Opens task prefix
opens_of task prefix behind k x at open' = sym (behind.forbids k x at) ∙ open'

module _ (task : SearchTask) (prefix : List ℕ) (opens : Opens task prefix) where
  pub chain_of_way : (s : List ℕ) (u t v e x : ℕ) → slice_get task.table u ≡ Some x → Leads (Takes task) u t s v e → IsChain task prefix s v e t x
  chain_of_way [] u t v e x at way = record { last = x; stands = subst (λ k. slice_get task.table k ≡ Some x) way.0 at; chain = refl; after = ap Some way.1; open_nodes = λ z h. absurd cc }
  chain_of_way (n ∷ s) u t v e x at way =
      let p = task.plan in
      let step : Takes task n u t way.0 way.1 = way.2 in
      let rest : IsChain task prefix s v e way.1 step.contact.to = chain_of_way s way.0 way.1 v e step.contact.to step.receiver way.3 in
      let sent : step.contact.from ≡ x = same_some (sym step.sender ∙ at) in
      record {
        last = rest.last;
        stands = rest.stands;
        chain = chain_end-cons p x n s step.contact step.named sent ∙ rest.chain;
        after = arrival_after-cons p task.request t n way.1 s step.contact step.named step.arrives ∙ rest.after;
        open_nodes = λ z h.
            ⊎_elim
            (λ e. ap (is_forbidden p task.request prefix) (eqb-true z step.contact.to e) ∙ opens way.0 step.contact.to step.receiver step.permitted)
            (λ k. rest.open_nodes z k)
            (or_cases (eqb z step.contact.to) (has z (receivers p s)) (sym (ap (has z) (receivers-cons p n s step.contact step.named)) ∙ h));
      }
