-- What bounds every search of a request over a plan, over the whole graph.
use Rattle.std.specs.Prelude.{◌≡◌, ◌≢◌, ℕ, ◌+◌, ◌≤◌, ◌<◌, List, [], true, false, length, slice_get, slice_index, slice_index_or, IfSome}
use Rattle.std.specs.declared.option.Option.TheVariants.{Some}
use Rattle.sabr_model.specs.declared.contact.Contact.{Contact}
use Rattle.sabr_model.specs.plan.Plan.{TabledPlan, contact_named, has}
use Rattle.sabr_model.specs.routes.Arrival.{RouteRequest, arrival, arrival_after}
use Rattle.sabr_model.specs.routes.Route.{chain_end, receivers}
use Rattle.sabr_search.specs.declared.node_bounds.NodeBounds.{NodeBounds}
use Rattle.sabr_search.specs.questions.Task.{is_forbidden, never}

-- contact n takes what is there at second t from the node at place u to the node at place w at second b, which is neither
-- the source nor avoided
pub record Goes (p : TabledPlan) (r : RouteRequest) (n u t w b : ℕ) : Type 0 where
  pub contact : Contact
  pub named : contact_named p.plan n ≡ Some contact
  pub sender : slice_get p.table u ≡ Some contact.from
  pub receiver : slice_get p.table w ≡ Some contact.to
  pub permitted : is_forbidden p.plan r [] contact.to ≡ false
  pub arrives : arrival p.plan r t contact ≡ Some b

-- the node at the place is neither the source nor avoided nor the destination
pub record IsBetween (p : TabledPlan) (r : RouteRequest) (v : ℕ) : Type 0 where
  pub node : ℕ
  pub stands : slice_get p.table v ≡ Some node
  pub permitted : is_forbidden p.plan r [] node ≡ false
  pub other : node ≢ r.destination

-- by node a second from which on no way over the whole graph delivers before second `until`, as far as the list goes: no
-- step leads from there to where it isn't too late
pub record AreDeadlinesFor (p : TabledPlan) (r : RouteRequest) (until : ℕ) (deadline : List ℕ) : Type 0 where
  pub goal : (g : ℕ) → slice_get p.table g ≡ Some r.destination → until ≤ slice_index_or deadline g never
  pub steps : (n u t w b : ℕ) → Goes p r n u t w b → IsBetween p r u → slice_index_or deadline u never ≤ t → slice_index_or deadline w never ≤ b

-- by node the seconds that the way to the destination takes at the least over the whole graph; 0 after the list's end: no
-- step from when the request begins on lowers them by more than the seconds on the way
pub record AreCostsFor (p : TabledPlan) (r : RouteRequest) (costs : List ℕ) : Type 0 where
  pub goal : (g : ℕ) → slice_get p.table g ≡ Some r.destination → slice_index costs g ≡ 0
  pub steps : (n u t w b : ℕ) → Goes p r n u t w b → IsBetween p r u → r.at ≤ t → t + slice_index costs u ≤ b + slice_index costs w

-- by node a second before which no contacts lead there from the source over the whole graph; 0 after the list's end
abbrev pub AreSoonFor : TabledPlan → RouteRequest → List ℕ → Type 0
AreSoonFor p r soon =
    (ns : List ℕ) (v node t : ℕ) → 0 < length ns → slice_get p.table v ≡ Some node → chain_end p.plan r.source ns ≡ Some node → arrival_after p.plan r r.at ns ≡ Some t
    → ((x : ℕ) → has x (receivers p.plan ns) ≡ true → is_forbidden p.plan r [] x ≡ false) → slice_index soon v ≤ t

-- what is known of the ways of every question of the request is true
pub record AreNodeBounds {A : Type 0} (p : TabledPlan) (r : RouteRequest) (node_bounds : NodeBounds A) : Type 0 where
  pub deadline : AreDeadlinesFor p r never node_bounds.deadline.items
  pub deadline_until : IfSome node_bounds.until (λ until. IfSome node_bounds.deadline_until (λ deadline. AreDeadlinesFor p r until deadline.items))
  pub costs : AreCostsFor p r node_bounds.costs.items
  pub soon : AreSoonFor p r node_bounds.soon.items
