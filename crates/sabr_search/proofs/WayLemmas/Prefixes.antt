-- Prefixes: what the test of one says, also by the fault of its list, and the lists that go on after one.
use Rattle.std.proofs.Common.{◌≡◌, ℕ, true, false, cond, not, ◌&&◌, eqb, leb, List, [], ◌∷◌, ◌++◌, length, ◌≤◌, refl, sym, ap, ◌∙◌, ◌+◌, Bool, arith, ◌<◌}
use Rattle.std.specs.Prelude.{is_some, IsTrue, is_none}
use Rattle.std.proofs.lemmas.Bool.{and_parts, not-true, not_from_false, leb-true, eq-eqb, eqb-true, false_from_ne_true}
use Rattle.std.specs.List.{list_all}
use Rattle.std.specs.Option.{option_map_or, option_and_then}
use Rattle.std.specs.declared.option.Option.TheVariants.{Some, None}
use Rattle.sabr_model.specs.plan.Plan.{ContactPlan, has, are_different, contact_named}
use Rattle.sabr_model.specs.routes.Arrival.{RouteRequest, arrival_after, arrival}
use Rattle.sabr_model.specs.routes.Route.{chain_end, receivers, is_path, is_prefix, ends_at, is_route}
use Rattle.sabr_model.specs.routes.Parts.{number_after, goes_on}
use Rattle.sabr_model.specs.declared.fault.HopFault.{HopFault}
use Rattle.sabr_model.specs.declared.fault.HopFault.TheVariants.{NoSuchContact, NotChained, NodeAgain, NoLight, TooLate, WrongEnd, AvoidedNode, TooManyHops}
use Rattle.sabr_model.specs.plan.Light.{light_of}
use Rattle.sabr_model.specs.routes.Fault.{contact_fault, fault_at, fault_or, first_fault, fault_of}
use Rattle.sabr_model.proofs.RouteLemmas.Faults.{good_is_path, path_is_good}
use Rattle.sabr_model.proofs.RouteLemmas.Prefixes.{empty_is_path, empty_is_prefix, prefix_is_no_route, prefix_is_path}

-- the test of a prefix, read as facts
pub record IsPrefix (p : ContactPlan) (r : RouteRequest) (s : List ℕ) : Type 0 where
  pub chained : is_some (chain_end p r.source s) ≡ true
  pub different : are_different (r.source ∷ receivers p s) ≡ true
  pub in_time : is_some (arrival_after p r r.at s) ≡ true
  pub allowed : list_all (λ n. not (has n r.avoided)) (receivers p s) ≡ true
  pub within : length s ≤ r.max_hops
  pub goes_on : has r.destination (receivers p s) ≡ false

pub prefix_facts : (p : ContactPlan) (r : RouteRequest) (s : List ℕ) → IsTrue (is_prefix p r s) → IsPrefix p r s
unfolding is_path is_prefix
prefix_facts p r s h =
    let chained = is_some (chain_end p r.source s) in
    let different = are_different (r.source ∷ receivers p s) in
    let in_time = is_some (arrival_after p r r.at s) in
    let allowed = list_all (λ n. not (has n r.avoided)) (receivers p s) in
    let within = leb (length s) r.max_hops in
    let a = and_parts (is_path p r s) (not (has r.destination (receivers p s))) h in
    let c = and_parts (chained && different && in_time && allowed) within a.0 in
    let d = and_parts (chained && different && in_time) allowed c.0 in
    let e = and_parts (chained && different) in_time d.0 in
    let f = and_parts chained different e.0 in
    record {
      chained = f.0;
      different = f.1;
      in_time = e.1;
      allowed = d.1;
      within = leb-true (length s) r.max_hops c.1;
      goes_on = not-true (has r.destination (receivers p s)) a.1;
    }

-- the number after a prefix
pub number_after-append : (prefix : List ℕ) (n : ℕ) (s : List ℕ) → number_after prefix (prefix ++ n ∷ s) ≡ Some n
number_after-append [] n s = refl
number_after-append (q ∷ prefix) n s =
    ap (λ b. cond b (number_after prefix (prefix ++ n ∷ s)) None) (eq-eqb q q refl) ∙ number_after-append prefix n s

pub number_after_some : (prefix s : List ℕ) (n : ℕ) → number_after prefix s ≡ Some n → (z : List ℕ) × (s ≡ prefix ++ n ∷ z)
number_after_some [] [] n h = absurd cc
number_after_some [] (m ∷ s) n h = let same : m ≡ n = cc (h) in (s, ap (λ k. k ∷ s) same)
number_after_some (q ∷ prefix) [] n h = absurd cc
number_after_some (q ∷ prefix) (m ∷ s) n h =
    elim (eqb q m) as (λ b. eqb q m ≡ b → cond b (number_after prefix s) None ≡ Some n → (z : List ℕ) × (m ∷ s ≡ q ∷ prefix ++ n ∷ z)) [
      | true ↦ λ e g. (let rest = number_after_some prefix s n g in let same : q ≡ m = eqb-true q m e in (rest.0, ap (λ k. k ∷ s) (sym same) ∙ ap (λ (l : List ℕ). q ∷ l) rest.1))
      | false ↦ λ e g. absurd cc
    ] refl h

pub goes_on-append : (prefix excluded : List ℕ) (n : ℕ) (s : List ℕ) → has n excluded ≡ false → goes_on prefix excluded (prefix ++ n ∷ s) ≡ true
goes_on-append prefix excluded n s h =
    ap (λ o. option_map_or (λ k. not (has k excluded)) o false) (number_after-append prefix n s) ∙ not_from_false (has n excluded) h

-- what goes on after a prefix with a number that isn't excluded
pub goes_on_parts : (prefix excluded s : List ℕ) → goes_on prefix excluded s ≡ true → (n : ℕ) × (z : List ℕ) × (s ≡ prefix ++ n ∷ z) × (has n excluded ≡ false)
goes_on_parts prefix excluded s h =
    elim (number_after prefix s) as (λ o. number_after prefix s ≡ o → option_map_or (λ k. not (has k excluded)) o false ≡ true → (n : ℕ) × (z : List ℕ) × (s ≡ prefix ++ n ∷ z) × (has n excluded ≡ false)) [
      | None ↦ λ e g. absurd cc
      | Some n ↦ λ e g. (let rest = number_after_some prefix s n e in (n, rest.0, rest.1, not-true (has n excluded) g))
    ] refl h

-- The test of a prefix by the fault of its list. It fits if it is empty, or if only its end is wrong and it doesn't
-- come to the destination.

-- a route is no prefix
pub route_is_no_prefix : (p : ContactPlan) (r : RouteRequest) (s : List ℕ) → IsTrue (is_route p r s) → is_prefix p r s ≡ false
route_is_no_prefix p r s route = false_from_ne_true (is_prefix p r s) (λ h. prefix_is_no_route p r s h route)

-- a fault of a place is no wrong end
no_end_of_six : (a b c d e f : Bool) (x : ℕ) → cond a (Some (NotChained x)) (cond b (Some (NodeAgain x)) (cond c (Some (NoLight x)) (cond d (Some (TooLate x)) (cond e (Some (AvoidedNode x)) (cond f (Some (TooManyHops x)) None))))) ≡ Some WrongEnd → ⊥
no_end_of_six true b c d e f x h = cc
no_end_of_six false true c d e f x h = cc
no_end_of_six false false true d e f x h = cc
no_end_of_six false false false true e f x h = cc
no_end_of_six false false false false true f x h = cc
no_end_of_six false false false false false true x h = cc
no_end_of_six false false false false false false x h = cc

fault_is_no_end : (p : ContactPlan) (r : RouteRequest) (q : List ℕ) (n : ℕ) → fault_at p r q n ≡ Some WrongEnd → ⊥
fault_is_no_end p r q n h =
    elim (contact_named p n) as (λ o. option_map_or (contact_fault p r q) o (Some (NoSuchContact (length q + 1))) ≡ Some WrongEnd → ⊥) [
      | None ↦ λ e. cc
      | Some c ↦ λ e.
          no_end_of_six
          (not (option_map_or (λ a. eqb a c.from) (chain_end p r.source q) false))
          (has c.to (r.source ∷ receivers p q))
          (is_none (light_of p c))
          (is_none (option_and_then (λ t. arrival p r t c) (arrival_after p r r.at q)))
          (has c.to r.avoided)
          (not (leb (length q + 1) r.max_hops))
          (length q + 1) e
    ] h

-- no fault of the numbers is a wrong end
faults_are_no_end : (p : ContactPlan) (r : RouteRequest) (q s : List ℕ) → first_fault p r q s ≡ Some WrongEnd → ⊥
faults_are_no_end p r q [] h = cc
faults_are_no_end p r q (n ∷ s) h =
    elim (fault_at p r q n) as (λ o. fault_at p r q n ≡ o → fault_or o (first_fault p r (q ++ n ∷ []) s) ≡ Some WrongEnd → ⊥) [
      | None ↦ λ e g. faults_are_no_end p r (q ++ n ∷ []) s g
      | Some f ↦ λ e g. fault_is_no_end p r q n (e ∙ g)
    ] refl h

-- numbers whose end alone is wrong make a path
pub wrong_end_is_path : (p : ContactPlan) (r : RouteRequest) (s : List ℕ) → fault_of p r s ≡ Some WrongEnd → IsTrue (is_path p r s)
wrong_end_is_path p r [] h = absurd cc
wrong_end_is_path p r (n ∷ s) h =
    elim (first_fault p r [] (n ∷ s)) as (λ o. first_fault p r [] (n ∷ s) ≡ o → fault_or o (cond (ends_at p r (n ∷ s)) None (Some WrongEnd)) ≡ Some WrongEnd → IsTrue (is_path p r (n ∷ s))) [
      | None ↦ λ e g. good_is_path p r [] (n ∷ s) (empty_is_path p r) e
      | Some f ↦ λ e g. absurd (faults_are_no_end p r [] (n ∷ s) (e ∙ g))
    ] refl h

-- such numbers are a prefix if they don't come to the destination
pub wrong_end_tells : (p : ContactPlan) (r : RouteRequest) (s : List ℕ) (f : HopFault) (node : ℕ) (entered : Bool) → fault_of p r s ≡ Some f → f ≡ WrongEnd → node ≡ r.destination → entered ≡ has node (receivers p s) → not entered ≡ is_prefix p r s
unfolding is_prefix
wrong_end_tells p r s f node entered h wrong same tells =
    let path : is_path p r s ≡ true = wrong_end_is_path p r s (h ∙ ap Some wrong) in
    let passes : entered ≡ has r.destination (receivers p s) = tells ∙ ap (λ x. has x (receivers p s)) same in
    ap not passes ∙ ap (λ b. b && not (has r.destination (receivers p s))) (sym path)

pub end_or_none : (b : Bool) (f : HopFault) → cond b None (Some WrongEnd) ≡ Some f → f ≡ WrongEnd
end_or_none true f h = absurd cc
end_or_none false f h = cc

-- a list with any other fault is no prefix
pub fault_is_no_prefix : (p : ContactPlan) (r : RouteRequest) (s : List ℕ) (f : HopFault) → 0 < length s → fault_of p r s ≡ Some f → (f ≡ WrongEnd → ⊥) → is_prefix p r s ≡ false
fault_is_no_prefix p r [] f some h other = absurd (omega arith)
fault_is_no_prefix p r (n ∷ s) f some h other =
    false_from_ne_true (is_prefix p r (n ∷ s)) (λ is.
    other (end_or_none (ends_at p r (n ∷ s)) f (ap (λ o. fault_or o (cond (ends_at p r (n ∷ s)) None (Some WrongEnd))) (sym (path_is_good p r [] (n ∷ s) (prefix_is_path p r (n ∷ s) is))) ∙ h)))

-- the empty list is a prefix
pub empty_fits : (p : ContactPlan) (r : RouteRequest) (s : List ℕ) → length s ≡ 0 → is_prefix p r s ≡ true
empty_fits p r [] none = empty_is_prefix p r
empty_fits p r (n ∷ s) none = absurd (omega (arith, none))
