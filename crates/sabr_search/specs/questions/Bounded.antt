-- What a question asks up to, and its answer.
use Rattle.std.specs.Prelude.{◌≡◌, ℕ, ◌+◌, ◌-◌, ◌*◌, ◌≤◌, nat_lt, nat_le, ◌==◌, Bool, false, ◌||◌, ◌&&◌, IsTrue, List, length, if◌then◌else◌}
use Rattle.std.specs.declared.option.Option.{Option}
use Rattle.std.specs.declared.option.Option.TheVariants.{Some, None}
use Rattle.sabr_model.specs.plan.Plan.{ContactPlan}
use Rattle.sabr_model.specs.routes.Arrival.{RouteRequest}
use Rattle.sabr_model.specs.routes.Asking.{most_hops}
use Rattle.sabr_model.specs.routes.Parts.{in_part}
use Rattle.sabr_model.specs.routes.Record.{RouteRecord}
use Rattle.sabr_model.specs.routes.Route.{delivery_of}
use Rattle.sabr_search.specs.declared.bound.Bound.{Bound}
use Rattle.sabr_search.specs.declared.bound.Sought.{Sought}
use Rattle.sabr_search.specs.declared.bound.Sought.TheVariants.{Route, None as NoRoute, Beyond}
use Rattle.sabr_search.specs.questions.Part.{IsBestOf}
use Rattle.sabr_search.specs.questions.Task.{never, latest_arrival}

-- every route is up to this one
abbrev pub no_bound : Bound
no_bound = record { delivery = never; hops = never }

-- every arrival is sooner
abbrev pub is_none : Bound → Bool
is_none b = nat_lt latest_arrival b.delivery

-- what it leaves after that many hops
abbrev pub bound_after : Bound → ℕ → Bound
bound_after b hops = record { delivery = b.delivery; hops = b.hops - hops }

-- a delivery with that many hops is sooner, or at the bound's second with no more hops
abbrev pub is_up_to : Bound → ℕ → ℕ → Bool
is_up_to b delivery hops = nat_lt delivery b.delivery || ((delivery == b.delivery) && nat_le hops b.hops)

-- the same with any number of hops at its second; every route is up to it if every arrival is sooner
abbrev pub at_any_hops : Bound → Bound
at_any_hops b = if is_none b then no_bound else record { delivery = b.delivery; hops = never }

-- each route of the part is above the bound
abbrev pub IsBeyond : ContactPlan → RouteRequest → List ℕ → List ℕ → Bound → Type 0
IsBeyond p r prefix excluded b = (s : List ℕ) → IsTrue (in_part p r prefix excluded s) → is_up_to b (delivery_of p r s) (length s) ≡ false

-- no route of the part delivers before this second
abbrev pub IsFloor : ContactPlan → RouteRequest → List ℕ → List ℕ → ℕ → Type 0
IsFloor p r prefix excluded d = (s : List ℕ) → IsTrue (in_part p r prefix excluded s) → d ≤ delivery_of p r s

-- the answer is the best route of the part, that it has none, or that each is above the bound
abbrev pub IsSought : {A : Type 0} → ContactPlan → RouteRequest → List ℕ → List ℕ → Bound → Sought A → Type 0
IsSought p r prefix excluded b (Route route) = IsBestOf p r prefix excluded (Some route)
IsSought p r prefix excluded b NoRoute = IsBestOf p r prefix excluded None
IsSought p r prefix excluded b Beyond = IsBeyond p r prefix excluded b

-- without a bound the answer isn't that each route is above it
abbrev pub IsDecided : {A : Type 0} → Bound → Sought A → Type 0
IsDecided b (Route route) = Unit {0}
IsDecided b NoRoute = Unit {0}
IsDecided b Beyond = is_none b ≡ false

-- the answer without a bound
abbrev pub sought_of : {A : Type 0} → Option RouteRecord → Sought A
sought_of None = NoRoute
sought_of (Some route) = Route route

-- the number of hops of an answer, 0 if it has no route
abbrev pub sought_hops : {A : Type 0} → Sought A → ℕ
sought_hops (Route route) = length route.contacts
sought_hops NoRoute = 0
sought_hops Beyond = 0

-- without a limit on hops, the answer took no more looks than three passes over all contacts for each hop after the
-- prefix, and three more; if each route is above the bound, the bound's hops count
abbrev pub IsCutUpTo : {A : Type 0} → ContactPlan → ℕ → Bound → List ℕ → ℕ → Sought A → Type 0
IsCutUpTo p max_hops b prefix looks (Route route) = max_hops ≡ most_hops → looks ≤ (3 * (length route.contacts - length prefix) + 3) * length p.contacts
IsCutUpTo p max_hops b prefix looks NoRoute = max_hops ≡ most_hops → looks ≤ 3 * length p.contacts
IsCutUpTo p max_hops b prefix looks Beyond = max_hops ≡ most_hops → looks ≤ (3 * (b.hops - length prefix) + 3) * length p.contacts
