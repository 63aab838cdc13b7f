-- Chains of contacts, joined and taken apart, with their arrivals.
use Rattle.std.proofs.Common.{◌≡◌, ℕ, Bool, true, cond, ◌||◌, eqb, List, [], ◌∷◌, ◌++◌, refl, sym, ap, ◌∙◌, ⊎_elim}
use Rattle.std.proofs.lemmas.Bool.{and_parts, and_from, or_cases, or_right, or_left, eq-eqb, eqb-true}
use Rattle.std.proofs.lemmas.List.Folds.{list_any-append}
use Rattle.std.specs.List.{list_all}
use Rattle.std.specs.Option.{option_and_then}
use Rattle.std.specs.declared.option.Option.TheVariants.{Some, None}
use Rattle.sabr_model.specs.declared.contact.Contact.{Contact}
use Rattle.sabr_model.specs.plan.Plan.{ContactPlan, contact_named, has}
use Rattle.sabr_model.specs.routes.Arrival.{RouteRequest, arrival, arrival_after}
use Rattle.sabr_model.specs.routes.Route.{chain_end}

-- the arrival over a list is that over its end, from the arrival over its beginning on
pub arrival_after-append : (p : ContactPlan) (r : RouteRequest) (t : ℕ) (s u : List ℕ) → arrival_after p r t (s ++ u) ≡ option_and_then (λ b. arrival_after p r b u) (arrival_after p r t s)
arrival_after-append p r t [] u = refl
arrival_after-append p r t (n ∷ s) u =
    elim (contact_named p n) as (λ o. option_and_then (λ c. option_and_then (λ b. arrival_after p r b (s ++ u)) (arrival p r t c)) o ≡ option_and_then (λ b. arrival_after p r b u) (option_and_then (λ c. option_and_then (λ b. arrival_after p r b s) (arrival p r t c)) o)) [
      | None ↦ refl
      | Some c ↦ elim (arrival p r t c) as (λ a. option_and_then (λ b. arrival_after p r b (s ++ u)) a ≡ option_and_then (λ b. arrival_after p r b u) (option_and_then (λ b. arrival_after p r b s) a)) [
        | None ↦ refl
        | Some b ↦ arrival_after-append p r b s u
      ]
    ]

-- the arrival over the first contact of a list, and over the others from there on
pub first_arrival : (p : ContactPlan) (r : RouteRequest) (t n : ℕ) (s : List ℕ) (e : ℕ) (c : Contact) → contact_named p n ≡ Some c → arrival_after p r t (n ∷ s) ≡ Some e
    → (b : ℕ) × (arrival p r t c ≡ Some b) × (arrival_after p r b s ≡ Some e)
first_arrival p r t n s e c named h =
    let h' : option_and_then (λ b. arrival_after p r b s) (arrival p r t c) ≡ Some e = sym (ap (option_and_then (λ d. option_and_then (λ b. arrival_after p r b s) (arrival p r t d))) named) ∙ h in
    elim (arrival p r t c) as (λ o. option_and_then (λ b. arrival_after p r b s) o ≡ Some e → (b : ℕ) × (o ≡ Some b) × (arrival_after p r b s ≡ Some e)) [
      | None ↦ λ g. absurd cc
      | Some b ↦ λ g. (b, refl, g)
    ] h'

pub chain_end-cons : (p : ContactPlan) (a n : ℕ) (s : List ℕ) (c : Contact) → contact_named p n ≡ Some c → c.from ≡ a → chain_end p a (n ∷ s) ≡ chain_end p c.to s
chain_end-cons p a n s c named from =
    ap (option_and_then (λ d. cond (eqb d.from a) (chain_end p d.to s) None)) named ∙ ap (λ w. cond w (chain_end p c.to s) None) (eq-eqb c.from a from)

pub arrival_after-cons : (p : ContactPlan) (r : RouteRequest) (t n b : ℕ) (s : List ℕ) (c : Contact) → contact_named p n ≡ Some c → arrival p r t c ≡ Some b → arrival_after p r t (n ∷ s) ≡ arrival_after p r b s
arrival_after-cons p r t n b s c named here =
    ap (option_and_then (λ d. option_and_then (λ b. arrival_after p r b s) (arrival p r t d))) named ∙ ap (option_and_then (λ b. arrival_after p r b s)) here

-- what a test of all elements says of each
pub all_of : (test : ℕ → Bool) (xs : List ℕ) → list_all test xs ≡ true → (x : ℕ) → has x xs ≡ true → test x ≡ true
all_of test [] all x h = absurd cc
all_of test (y ∷ ys) all x h =
    let parts = and_parts (test y) (list_all test ys) all in
    ⊎_elim (λ e. ap test (eqb-true x y e) ∙ parts.0) (λ k. all_of test ys parts.1 x k) (or_cases (eqb x y) (has x ys) h)

pub all_from : (test : ℕ → Bool) (xs : List ℕ) → ((x : ℕ) → has x xs ≡ true → test x ≡ true) → list_all test xs ≡ true
all_from test [] each = refl
all_from test (y ∷ ys) each =
    and_from (test y) (list_all test ys) (each y (or_left (eqb y y) (has y ys) (eq-eqb y y refl))) (all_from test ys (λ x h. each x (or_right (eqb x y) (has x ys) h)))

pub has_append : (x : ℕ) (xs ys : List ℕ) → has x (xs ++ ys) ≡ (has x xs || has x ys)
has_append x xs ys = list_any-append (eqb x) xs ys

pub has_right : (x : ℕ) (xs ys : List ℕ) → has x ys ≡ true → has x (xs ++ ys) ≡ true
has_right x xs ys h = has_append x xs ys ∙ or_right (has x xs) (has x ys) h

pub has_either : (x : ℕ) (xs ys : List ℕ) → has x (xs ++ ys) ≡ true → ((P : Type 0) → (has x xs ≡ true → P) → (has x ys ≡ true → P) → P)
has_either x xs ys h P one other = ⊎_elim one other (or_cases (has x xs) (has x ys) (sym (has_append x xs ys) ∙ h))
