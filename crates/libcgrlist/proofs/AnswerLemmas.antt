-- The best route of a request, its first routes, and the best routes to many destinations.
use Rattle.std.proofs.Common.{◌≡◌, ℕ, List, [], ◌∷◌, map, take, refl, ap, subst, ◌∙◌, arith, ◌+◌, ◌≤◌, Result, Ok, Err, length, sym, zero-add, suc, ◌<◌, eqb, drop, drop-cons, get_or, set, ⊎_elim}
use Rattle.std.specs.Prelude.{Contains, IfOk, IsTrue, Option, is_some, nat_lt, ◌≢◌}
use Rattle.std.specs.List.{find, All}
use Rattle.std.specs.Option.{option_map}
use Rattle.std.proofs.lemmas.List.Elements.{Contains-get_or, All-map, All-take}
use Rattle.sabr_model.specs.declared.fault.NoMemory.{NoMemory}
use Rattle.sabr_model.specs.Laws.{RoutesAreListed}
use Rattle.sabr_model.specs.plan.Plan.{ContactPlan, IsPlan, TabledPlan}
use Rattle.sabr_model.specs.routes.Arrival.{RouteRequest}
use Rattle.sabr_model.specs.routes.Listing.{routes}
use Rattle.sabr_model.specs.routes.Parts.{goes_on, least_in}
use Rattle.sabr_model.specs.routes.Record.{RouteRecord, record_of}
use Rattle.sabr_model.specs.routes.Route.{is_route}
use Rattle.sabr_model.proofs.RouteLemmas.Routes.{empty_route, route_facts}
use Rattle.sabr_search.specs.questions.Part.{IsBestOf}
use Rattle.libcgrlist.specs.Answers.{WritesBest, none_or_one, first_routes, IsFirst, IsLastOf, first_reach}
use Rattle.libcgrlist.specs.declared.buffers.RouteRow.{RouteRow}
use Rattle.std.proofs.lemmas.Bool.Decides.{nat_tests}
use Rattle.std.proofs.lemmas.List.{length-take, length-map, drop-set-lt, get_or-set_other, get_or-set_same}
use Rattle.sabr_model.specs.routes.Asking.{IsRequest}
use Rattle.sabr_frontier.specs.listing.Laws.{StepsFollow}
use Rattle.sabr_frontier.specs.listing.Listing.{next_route}
use Rattle.sabr_frontier.specs.listing.State.{State}
use Rattle.sabr_frontier.specs.session.LastPage.{LastSeen}
use Rattle.std.proofs.lemmas.Bool.{cases_Bool, eqb-false, eqb-true}

-- ---- the best route is the first of the list

-- a list of routes begins with the first one that has a contact
first_route : (p : ContactPlan) (r : RouteRequest) (f : List ℕ → RouteRecord) (L : List (List ℕ)) → ((s : List ℕ) → Contains L s → IsTrue (is_route p r s))
    → none_or_one (option_map f (find (goes_on [] []) L)) ≡ map f (take 1 L)
first_route p r f [] members = refl
first_route p r f ([] ∷ L) members = absurd (empty_route p r (members [] (Contains-get_or ([] ∷ L) 0 [] (omega arith))))
first_route p r f ((n ∷ s) ∷ L) members = refl

-- the best route of all
pub best_is_first : (p : ContactPlan) (r : RouteRequest) (o : Option RouteRecord) → IsPlan p → RoutesAreListed → IsBestOf p r [] [] o → none_or_one o ≡ first_routes p r 1
unfolding least_in
best_is_first p r o rules listed best =
    ap none_or_one best ∙ first_route p r (record_of p r) (routes p r) (λ s there. ((listed p r rules).members s).0 there)

-- so is one that was found
pub found_is_first : (p : ContactPlan) (r : RouteRequest) (o : Result (Option RouteRecord) NoMemory) → IsPlan p → RoutesAreListed → IfOk o (IsBestOf p r [] []) → IfOk o (λ best. none_or_one best ≡ first_routes p r 1)
found_is_first p r (Err e) rules listed best = tt
found_is_first p r (Ok o) rules listed best = best_is_first p r o rules listed best

-- the first of at most one route is the best
pub best_of : (f : List ℕ → RouteRecord) (L : List (List ℕ)) (xs : List RouteRecord) (status : ℕ) (row : RouteRow) (old new : List ℕ) → xs ≡ map f (take 1 L) → WritesBest xs status row old new → WritesBest (map f L) status row old new
best_of f [] xs status row old new is w = subst (λ (ys : List RouteRecord). WritesBest ys status row old new) is w
best_of f (s ∷ L) xs status row old new is w = subst (λ (ys : List RouteRecord). WritesBest ys status row old new) is w

-- ---- first routes

-- a list goes on after its first k members exactly if it has more
after : {X : Type 0} (k : ℕ) (xs : List X) → nat_lt (length (take k xs)) (length xs) ≡ nat_lt k (length xs)
after k xs = rw (length-take k xs) (grind (arith, nat_tests))

within : {X : Type 0} (k : ℕ) (xs : List X) → length (take k xs) ≤ length xs
within k xs = omega (arith, length-take k xs)

at_most : {X : Type 0} (k : ℕ) (xs : List X) → length (take k xs) ≤ k
at_most k xs = omega (arith, length-take k xs)

-- no route of the list has more contacts than a route may have
all_short : (p : ContactPlan) (r : RouteRequest) → IsPlan p → IsRequest r → RoutesAreListed → All (λ (s : List ℕ). length s ≤ 20000) (routes p r)
all_short p r rules limits listed = λ k d there.
    let is = ((listed p r rules).members (get_or (routes p r) k d)).0 (Contains-get_or (routes p r) k d there) in
    omega (arith, (route_facts p r (get_or (routes p r) k d) is).within, limits.hops.1)

-- the routes of steps from the beginning are the first of the list
pub first_of : (p : TabledPlan) (r : RouteRequest) (k : ℕ) (o : Result LastSeen NoMemory) → IsPlan p.plan → IsRequest r → StepsFollow → RoutesAreListed → IfOk o (IsLastOf p r k) → IfOk o (IsFirst p r k)
first_of p r k (Err e) rules limits follow listed last = tt
first_of p r k (Ok l) rules limits follow listed last =
    let R = routes p.plan r in
    let way = follow p.plan r rules in
    let pages = way.pages 0 k (omega arith) in
    let given : l.routes ≡ map (record_of p.plan r) (take k R) = last.routes ∙ ap (λ (z : List (List ℕ) × State). map (record_of p.plan r) z.0) pages in
    let place : 0 + length (take k R) ≡ length (take k R) = zero-add (length (take k R)) in
    record {
      plan = last.plan;
      routes = given;
      more = last.more ∙ ap (λ (z : List (List ℕ) × State). is_some (next_route p.plan r z.1)) pages ∙ way.carries (0 + length (take k R)) (omega (arith, within k R)) ∙ ap (λ (n : ℕ). nat_lt n (length R)) place ∙ after k R;
      few = omega (arith, ap (λ (xs : List RouteRecord). length xs) given, length-map (take k R) (record_of p.plan r), at_most k R);
      short = subst (λ (xs : List RouteRecord). All (λ (a : RouteRecord). length a.contacts ≤ 20000) xs) (sym given)
          (All-map (λ (a : RouteRecord). length a.contacts ≤ 20000) (record_of p.plan r) (take k R) (All-take (λ (s : List ℕ). length s ≤ 20000) k R (all_short p.plan r rules limits listed)));
    }

-- the routes of a last page are short, and so is a list that equals them
pub short_of : (p : TabledPlan) (r : RouteRequest) (k : ℕ) (l : LastSeen) (xs : List RouteRecord) → xs ≡ l.routes → IsFirst p r k l → All (λ (a : RouteRecord). length a.contacts ≤ 20000) xs
short_of p r k l xs is first = subst (λ (ys : List RouteRecord). All (λ (a : RouteRecord). length a.contacts ≤ 20000) ys) (sym is) first.short

-- ---- many destinations

-- the first of at most one route is the first of all
pub first_reach_is : (f : List ℕ → RouteRecord) (L : List (List ℕ)) (xs : List RouteRecord) → xs ≡ map f (take 1 L) → first_reach xs ≡ first_reach (map f L)
first_reach_is f [] xs is = ap first_reach is
first_reach_is f (s ∷ L) xs is = ap first_reach is

-- a step of a loop that writes one element after another
pub each_more : {X : Type 0} (Is : ℕ → X → Type 0) (xs : List X) (i : ℕ) (v d : X) → i < length xs → ((k : ℕ) → k < i → Is k (get_or xs k d)) → Is i v
    → (k : ℕ) → k < i + 1 → Is k (get_or (set xs i v) k d)
each_more Is xs i v d within each one k below =
    ⊎_elim
    (λ same. let at : k ≡ i = eqb-true k i same in subst (λ j. Is j (get_or (set xs i v) j d)) (sym at) (subst (Is i) (sym (get_or-set_same xs i v d within)) one))
    (λ other. let at : k ≢ i = eqb-false k i other in
    subst (Is k) (sym (get_or-set_other xs i k v d at)) (each k (let no = at in grind (arith, no, below))))
    (cases_Bool (eqb k i))

-- what comes after it stays
pub rest_more : {X : Type 0} (xs old : List X) (i : ℕ) (v d : X) → i < length xs → i < length old → drop i xs ≡ drop i old → drop (i + 1) (set xs i v) ≡ drop (i + 1) old
rest_more xs old i v d within among same =
    let place : i + 1 ≡ suc i = omega arith in
    let one = drop-cons xs i d within in
    let other = drop-cons old i d among in
    let rest : drop (suc i) xs ≡ drop (suc i) old = cc in
    drop-set-lt (i + 1) xs i v (omega arith) ∙ ap (λ k. drop k xs) place ∙ rest ∙ ap (λ k. drop k old) (sym place)
