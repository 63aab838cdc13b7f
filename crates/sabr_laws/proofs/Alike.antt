-- Two plans that have the same contacts for the numbers of a list, and the same ranges, say the same of the list.
use Rattle.std.proofs.Common.{◌≡◌, ℕ, cond, not, eqb, List, [], ◌∷◌, map, refl, sym, ap, subst, ◌∙◌}
use Rattle.std.specs.Prelude.{is_some, unwrap_or, IsTrue}
use Rattle.std.specs.List.{list_all, cons_option, AllByRecursion}
use Rattle.std.specs.Option.{option_and_then}
use Rattle.std.specs.declared.option.Option.{Option}
use Rattle.std.specs.declared.option.Option.TheVariants.{Some, None}
use Rattle.sabr_model.specs.declared.contact.Contact.{Contact}
use Rattle.sabr_model.specs.plan.Plan.{ContactPlan, contact_named, has, are_different}
use Rattle.sabr_model.specs.routes.Arrival.{RouteRequest, arrival, arrival_after}
use Rattle.sabr_model.specs.routes.Route.{contacts_of, receivers, chain_end, IsRoute, delivery_of}

-- both have the same contact of each number
abbrev pub AgreeOn : ContactPlan → ContactPlan → List ℕ → Type 0
AgreeOn p q s = AllByRecursion (λ n. contact_named p n ≡ contact_named q n) s

pub agree_back : (p q : ContactPlan) (s : List ℕ) → AgreeOn p q s → AgreeOn q p s
agree_back p q [] agree = tt
agree_back p q (n ∷ s) agree = (sym agree.0, agree_back p q s agree.1)

and_then_alike : {X Y : Type 0} (f g : X → Option Y) → ((x : X) → f x ≡ g x) → (o : Option X) → option_and_then f o ≡ option_and_then g o
and_then_alike f g same None = refl
and_then_alike f g same (Some x) = same x

module _ (p q : ContactPlan) where
  pub chain_end_alike : (a : ℕ) (s : List ℕ) → AgreeOn p q s → chain_end p a s ≡ chain_end q a s
  chain_end_alike a [] agree = refl
  chain_end_alike a (n ∷ s) agree =
      ap (option_and_then (λ c. cond (eqb c.from a) (chain_end p c.to s) None)) agree.0
      ∙ and_then_alike (λ c. cond (eqb c.from a) (chain_end p c.to s) None) (λ c. cond (eqb c.from a) (chain_end q c.to s) None)
      (λ c. ap (λ o. cond (eqb c.from a) o None) (chain_end_alike c.to s agree.1)) (contact_named q n)

  pub contacts_alike : (s : List ℕ) → AgreeOn p q s → contacts_of p s ≡ contacts_of q s
  contacts_alike [] agree = refl
  contacts_alike (n ∷ s) agree = ap (λ o. cons_option o (contacts_of p s)) agree.0 ∙ ap (cons_option (contact_named q n)) (contacts_alike s agree.1)

  pub receivers_alike : (s : List ℕ) → AgreeOn p q s → receivers p s ≡ receivers q s
  receivers_alike s agree = ap (map (λ (c : Contact). c.to)) (contacts_alike s agree)

  module _ (r u : RouteRequest) (ranges : p.ranges ≡ q.ranges) (margin : r.margin ≡ u.margin) where
    arrival_alike : (t : ℕ) (c : Contact) → arrival p r t c ≡ arrival q u t c
    arrival_alike t c = rw (ranges, margin) refl

    pub arrival_after_alike : (t : ℕ) (s : List ℕ) → AgreeOn p q s → arrival_after p r t s ≡ arrival_after q u t s
    arrival_after_alike t [] agree = refl
    arrival_after_alike t (n ∷ s) agree =
        ap (option_and_then (λ c. option_and_then (λ v. arrival_after p r v s) (arrival p r t c))) agree.0
        ∙ and_then_alike (λ c. option_and_then (λ v. arrival_after p r v s) (arrival p r t c)) (λ c. option_and_then (λ v. arrival_after q u v s) (arrival q u t c))
        (λ c. ap (option_and_then (λ v. arrival_after p r v s)) (arrival_alike t c)
        ∙ and_then_alike (λ v. arrival_after p r v s) (λ v. arrival_after q u v s) (λ v. arrival_after_alike v s agree.1) (arrival q u t c)) (contact_named q n)

    pub delivery_alike : (s : List ℕ) → r.at ≡ u.at → AgreeOn p q s → delivery_of p r s ≡ delivery_of q u s
    delivery_alike s at agree = ap (λ o. unwrap_or o 0) (arrival_after_alike r.at s agree ∙ ap (λ t. arrival_after q u t s) at)

-- a route of one plan is a route of the other
pub route_alike : (p q : ContactPlan) (r : RouteRequest) (s : List ℕ) → p.ranges ≡ q.ranges → AgreeOn p q s → IsRoute p r s → IsRoute q r s
route_alike p q r s ranges agree route =
    let received = receivers_alike p q s agree in
    record {
      some_hop = route.some_hop;
      reaches = sym (chain_end_alike p q r.source s agree) ∙ route.reaches;
      different = subst (λ vs. IsTrue (are_different (r.source ∷ vs))) received route.different;
      in_time = subst (λ o. IsTrue (is_some o)) (arrival_after_alike p q r r ranges refl r.at s agree) route.in_time;
      allowed = subst (λ vs. IsTrue (list_all (λ v. not (has v r.avoided)) vs)) received route.allowed;
      within = route.within;
    }
