-- The first of all routes in a part is the one whose key is at most each key in the part.
use Rattle.std.proofs.Common.{◌≡◌, ℕ, ◌+◌, ◌<◌, ◌≤◌, Bool, true, false, cond, eqb, List, [], ◌∷◌, ◌++◌, length, refl, sym, ap, subst, ◌∙◌, inl, inr, ⊎_elim, arith, length-append}
use Rattle.std.specs.Prelude.{IsTrue, unwrap_or}
use Rattle.std.proofs.lemmas.Bool.{le-ltb, ne_eqb, eq-eqb, cases_Bool}
use Rattle.std.specs.List.{find}
use Rattle.std.specs.List.Sorted.{IsStrictlySortedBy}
use Rattle.std.specs.Ordering.{nat_cmp, ordering_then}
use Rattle.std.specs.declared.cmp.Ordering.{Ordering}
use Rattle.std.specs.declared.cmp.Ordering.TheVariants.{Less, Equal, Greater}
use Rattle.std.specs.declared.option.Option.TheVariants.{Some, None}
use Rattle.sabr_model.specs.Order.{by_numbers}
use Rattle.sabr_model.specs.plan.Plan.{ContactPlan, IsPlan}
use Rattle.sabr_model.specs.routes.Arrival.{RouteRequest, arrival_after}
use Rattle.sabr_model.specs.routes.Route.{is_route, by_key, key_of, delivery_of}
use Rattle.sabr_model.specs.routes.Listing.{routes}
use Rattle.sabr_model.specs.routes.Parts.{goes_on, least_in}
use Rattle.sabr_model.proofs.ListLemmas.Members.{IsIn, in_from_Contains, Contains-from_in, all_in}
use Rattle.sabr_model.proofs.RouteLemmas.RoutesListed.{routes_are_listed}
use Rattle.sabr_search.specs.layers.Picks.{IsNotAfter}
use Rattle.sabr_search.specs.questions.FirstSteps.{Leads}
use Rattle.sabr_search.specs.questions.Task.{SearchTask, Takes, IsBehind}
use Rattle.sabr_search.proofs.WayLemmas.Prefixes.{IsPrefix}
use Rattle.sabr_search.proofs.WayLemmas.PartWays.{IsPartWay, part_way, way_is_route}

greater_cmp : (x y : ℕ) → x < y → nat_cmp y x ≡ Greater
greater_cmp x y h =
    ap (λ b. cond b Less (cond (eqb y x) Equal Greater)) (le-ltb y x (omega arith)) ∙ ap (λ b. cond b Equal Greater) (ne_eqb y x (λ e. omega arith))

same_cmp : (x y : ℕ) → x ≡ y → nat_cmp y x ≡ Equal
same_cmp x y h =
    ap (λ b. cond b Less (cond (eqb y x) Equal Greater)) (le-ltb y x (omega arith)) ∙ ap (λ b. cond b Equal Greater) (eq-eqb y x (sym h))

-- numbers that aren't after others don't have these before them
pub not_before : (xs ys : List ℕ) → IsNotAfter xs ys → by_numbers ys xs ≡ Less → ⊥
not_before [] [] h e = cc
not_before [] (y ∷ ys) h e = cc
not_before (x ∷ xs) [] h e = h
not_before (x ∷ xs) (y ∷ ys) (inl less) e =
    let w : Greater ≡ Less = sym (ap (λ o. ordering_then o (by_numbers ys xs)) (greater_cmp x y less)) ∙ e in cc
not_before (x ∷ xs) (y ∷ ys) (inr same) e =
    not_before xs ys same.1 (sym (ap (λ o. ordering_then o (by_numbers ys xs)) (same_cmp x y same.0)) ∙ e)

-- the order stays the same after a common beginning
pub not_after_behind : (prefix xs ys : List ℕ) → IsNotAfter xs ys → IsNotAfter (prefix ++ xs) (prefix ++ ys)
not_after_behind [] xs ys h = h
not_after_behind (q ∷ prefix) xs ys h = inr (refl, not_after_behind prefix xs ys h)

-- in a list in order, the first element that passes is the one that none passing comes before
find_first : {X : Type 0} (cmp : X → X → Ordering) (test : X → Bool) (xs : List X) (x : X) → IsStrictlySortedBy cmp xs → IsIn x xs → test x ≡ true → ((y : X) → IsIn y xs → test y ≡ true → cmp y x ≡ Less → ⊥) → find test xs ≡ Some x
unfolding IsStrictlySortedBy
find_first cmp test [] x sorted inside passes first = absurd inside
find_first cmp test (y ∷ ys) x sorted inside passes first =
    ⊎_elim
    (λ yes.
    ap (λ b. cond b (Some y) (find test ys)) yes
    ∙ ⊎_elim (λ (same : x ≡ y). ap Some (sym same)) (λ later. absurd (first y (inl refl) yes (all_in (λ z. cmp y z ≡ Less) ys sorted.0 x later))) inside)
    (λ no.
    ap (λ b. cond b (Some y) (find test ys)) no
    ∙ ⊎_elim (λ (same : x ≡ y). absurd (let w : true ≡ false = sym passes ∙ ap test same ∙ no in cc))
    (λ later. find_first cmp test ys x sorted.1 later passes (λ z i t e. first z (inr i) t e)) inside)
    (cases_Bool (test y))

find_none : {X : Type 0} (test : X → Bool) (xs : List X) → ((y : X) → IsIn y xs → test y ≡ true → ⊥) → find test xs ≡ None
find_none test [] none = refl
find_none test (y ∷ ys) none =
    ⊎_elim (λ yes. absurd (none y (inl refl) yes)) (λ no. ap (λ b. cond b (Some y) (find test ys)) no ∙ find_none test ys (λ z i t. none z (inr i) t)) (cases_Bool (test y))

-- a route of the part whose key is at most each key there is the least of the part
pub least_is : (p : ContactPlan) (r : RouteRequest) (prefix excluded s : List ℕ) → IsPlan p → IsTrue (is_route p r s) → goes_on prefix excluded s ≡ true
    → ((m : List ℕ) → IsTrue (is_route p r m) → goes_on prefix excluded m ≡ true → IsNotAfter (key_of p r s) (key_of p r m))
    → least_in p r prefix excluded ≡ Some s
unfolding least_in
least_is p r prefix excluded s good route on least =
    let listed = routes_are_listed p r good in
    find_first (by_key p r) (goes_on prefix excluded) (routes p r) s listed.rising (in_from_Contains (routes p r) s ((listed.members s).1 route)) on
    (λ m inside passes e. not_before (key_of p r s) (key_of p r m) (least m ((listed.members m).0 (Contains-from_in (routes p r) m inside)) passes) e)

pub none_is : (p : ContactPlan) (r : RouteRequest) (prefix excluded : List ℕ) → IsPlan p
    → ((m : List ℕ) → IsTrue (is_route p r m) → goes_on prefix excluded m ≡ true → ⊥)
    → least_in p r prefix excluded ≡ None
unfolding least_in
none_is p r prefix excluded good none =
    let listed = routes_are_listed p r good in
    find_none (goes_on prefix excluded) (routes p r) (λ m inside passes. none m ((listed.members m).0 (Contains-from_in (routes p r) m inside)) passes)

pub delivered : (p : ContactPlan) (r : RouteRequest) (s : List ℕ) (d : ℕ) → arrival_after p r r.at s ≡ Some d → delivery_of p r s ≡ d
delivered p r s d e = ap (λ o. unwrap_or o 0) e

-- of a part with no way within the limits the least route is none
pub none_in_part : (task : SearchTask) (prefix : List ℕ) → IsBehind task prefix → IsPlan task.plan
    → ((ns : List ℕ) (e : ℕ) → IsTrue (is_route task.plan task.request (prefix ++ ns)) → Leads (Takes task) task.start task.at ns task.goal e → ⊥)
    → least_in task.plan task.request prefix task.excluded ≡ None
none_in_part task prefix behind good none =
    none_is task.plan task.request prefix task.excluded good (λ m route on.
    (let w : IsPartWay task prefix m = part_way task prefix behind m route on in
    none w.rest w.delivery (subst (λ (x : List ℕ). IsTrue (is_route task.plan task.request x)) w.is route) w.way))

-- a way that no way of the part comes before, in delivery, hops and numbers, is the least route of the part
pub least_in_part : (task : SearchTask) (prefix : List ℕ) → IsBehind task prefix → IsPlan task.plan → IsPrefix task.plan task.request prefix
    → (s : List ℕ) (d : ℕ) → 0 < length s → Leads (Takes task) task.start task.at s task.goal d
    → ((ns : List ℕ) (e : ℕ) → length ns < length s → Leads (Takes task) task.start task.at ns task.goal e → d < e)
    → length prefix + length s ≤ task.request.max_hops
    → ((ns : List ℕ) (e : ℕ) → IsTrue (is_route task.plan task.request (prefix ++ ns)) → Leads (Takes task) task.start task.at ns task.goal e → IsNotAfter (d ∷ length s ∷ s) (e ∷ length ns ∷ ns))
    → (least_in task.plan task.request prefix task.excluded ≡ Some (prefix ++ s)) × (delivery_of task.plan task.request (prefix ++ s) ≡ d)
least_in_part task prefix behind good facts s d some way fewest short least =
    let p = task.plan in
    let r = task.request in
    let own = way_is_route task prefix behind facts s d some way fewest short in
    let delivery : delivery_of p r (prefix ++ s) ≡ d = delivered p r (prefix ++ s) d own.2 in (
      least_is p r prefix task.excluded (prefix ++ s) good own.0 own.1 (λ m route on.
          (let w : IsPartWay task prefix m = part_way task prefix behind m route on in
          let other : delivery_of p r m ≡ w.delivery = delivered p r m w.delivery w.delivers in
          let sizes : length (prefix ++ s) ≡ length prefix + length s = length-append prefix s in
          let sizes' : length m ≡ length prefix + length w.rest = ap length w.is ∙ length-append prefix w.rest in
          ⊎_elim
          (λ sooner. inl (omega (arith, delivery, other, sooner)))
          (λ same. ⊎_elim
          (λ fewer. inr (omega (arith, delivery, other, same.0), inl (omega (arith, sizes, sizes', fewer))))
          (λ equal. inr (
            omega (arith, delivery, other, same.0),
            inr (
              omega (arith, sizes, sizes', equal.0),
              subst (λ (x : List ℕ). IsNotAfter (prefix ++ s) x) (sym w.is) (not_after_behind prefix s w.rest equal.1),
            ),
          ))
          same.1)
          (least w.rest w.delivery (subst (λ (x : List ℕ). IsTrue (is_route p r x)) w.is route) w.way))),
      delivery,
    )
