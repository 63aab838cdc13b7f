use Rattle.sabr_model.proofs.ListLemmas.Names.{◌≡◌, ℕ, true, false, cond, not, eqb, List, [], ◌∷◌, ◌++◌, map, refl, sym, ap, subst, ◌∙◌, ⊎_elim, arith, and_parts, or_cases, or_right, or_left, eq-eqb, eqb-true, both_ways, not-true, filter_map-append, map-append, list_any-append, option_and_then, Some, None, Contact, ContactPlan, contact_named, has, are_different, chain_end, receivers, contacts_of, NoRouteBeginsAnother}
use Rattle.sabr_model.proofs.ListLemmas.Answered.{had_value, passed}
use Rattle.sabr_model.proofs.RouteLemmas.Routes.{route_facts}

pub chain_end-append : (p : ContactPlan) (a : ℕ) (s t : List ℕ) → chain_end p a (s ++ t) ≡ option_and_then (λ b. chain_end p b t) (chain_end p a s)
chain_end-append p a [] t = refl
chain_end-append p a (n ∷ s) t =
    elim (contact_named p n) as (λ o. option_and_then (λ c. cond (eqb c.from a) (chain_end p c.to (s ++ t)) None) o ≡ option_and_then (λ b. chain_end p b t) (option_and_then (λ c. cond (eqb c.from a) (chain_end p c.to s) None) o)) [
      | None ↦ refl
      | Some c ↦ elim (eqb c.from a) as (λ b. cond b (chain_end p c.to (s ++ t)) None ≡ option_and_then (λ b. chain_end p b t) (cond b (chain_end p c.to s) None)) [
        | true ↦ chain_end-append p c.to s t
        | false ↦ refl
      ]
    ]

-- the facts of the first contact of a chain
pub record FirstHop (p : ContactPlan) (a n : ℕ) (s : List ℕ) (b : ℕ) : Type 0 where
  pub contact : Contact
  pub named : contact_named p n ≡ Some contact
  pub sent : contact.from ≡ a
  pub rest : chain_end p contact.to s ≡ Some b

pub first_hop : (p : ContactPlan) (a n : ℕ) (s : List ℕ) (b : ℕ) → chain_end p a (n ∷ s) ≡ Some b → FirstHop p a n s b
first_hop p a n s b e =
    let first = had_value (λ (c : Contact). cond (eqb c.from a) (chain_end p c.to s) None) (contact_named p n) b e in
    let onward = passed (eqb first.0.from a) (chain_end p first.0.to s) b first.2 in
    record { contact = first.0; named = first.1; sent = eqb-true first.0.from a onward.0; rest = onward.1 }

pub receivers-cons : (p : ContactPlan) (n : ℕ) (s : List ℕ) (c : Contact) → contact_named p n ≡ Some c → receivers p (n ∷ s) ≡ c.to ∷ receivers p s
receivers-cons p n s c e = ap (λ o. map (λ (d : Contact). d.to) (Rattle.std.specs.List.cons_option o (contacts_of p s))) e

-- the node where a chain ends is among its receivers
pub end_is_received : (p : ContactPlan) (a n : ℕ) (s : List ℕ) (b : ℕ) → chain_end p a (n ∷ s) ≡ Some b → has b (receivers p (n ∷ s)) ≡ true
end_is_received p a n [] b e =
    let h = first_hop p a n [] b e in
    let same : b ≡ h.contact.to = cc (h.rest) in
    ap (has b) (receivers-cons p n [] h.contact h.named) ∙ or_left (eqb b h.contact.to) false (eq-eqb b h.contact.to same)
end_is_received p a n (m ∷ s) b e =
    let h = first_hop p a n (m ∷ s) b e in
    ap (has b) (receivers-cons p n (m ∷ s) h.contact h.named) ∙ or_right (eqb b h.contact.to) (has b (receivers p (m ∷ s))) (end_is_received p h.contact.to m s b h.rest)

pub receivers-append : (p : ContactPlan) (s t : List ℕ) → receivers p (s ++ t) ≡ receivers p s ++ receivers p t
receivers-append p s t = ap (map (λ (d : Contact). d.to)) (filter_map-append (contact_named p) s t) ∙ map-append (λ (d : Contact). d.to) (contacts_of p s) (contacts_of p t)

pub different_apart : (xs ys : List ℕ) (x : ℕ) → are_different (xs ++ ys) ≡ true → has x xs ≡ true → has x ys ≡ true → ⊥
different_apart [] ys x d one other = cc
different_apart (z ∷ xs) ys x d one other =
    let parts = and_parts (not (has z (xs ++ ys))) (are_different (xs ++ ys)) d in
    ⊎_elim
    (λ here.
    let same : x ≡ z = eqb-true x z here in
    let there : has z (xs ++ ys) ≡ true = list_any-append (eqb z) xs ys ∙ or_right (has z xs) (has z ys) (subst (λ w. has w ys ≡ true) same other) in
    both_ways (has z (xs ++ ys)) (not-true (has z (xs ++ ys)) parts.0) there)
    (λ there. different_apart xs ys x parts.1 there other)
    (or_cases (eqb x z) (has x xs) one)

pub no_route_begins_another : NoRouteBeginsAnother
no_route_begins_another p r [] t one other = absurd (omega (arith, (route_facts p r [] one).some_hop))
no_route_begins_another p r (n ∷ s) [] one other = refl
no_route_begins_another p r (n ∷ s) (m ∷ t) one other =
    let first = route_facts p r (n ∷ s) one in
    let second = route_facts p r (n ∷ s ++ m ∷ t) other in
    let onward : chain_end p r.destination (m ∷ t) ≡ Some r.destination =
    sym (chain_end-append p r.source (n ∷ s) (m ∷ t) ∙ ap (option_and_then (λ b. chain_end p b (m ∷ t))) first.reaches) ∙ second.reaches in
    let d = and_parts (not (has r.source (receivers p (n ∷ s ++ m ∷ t)))) (are_different (receivers p (n ∷ s ++ m ∷ t))) second.different in
    absurd (different_apart (receivers p (n ∷ s)) (receivers p (m ∷ t)) r.destination
    (ap are_different (sym (receivers-append p (n ∷ s) (m ∷ t))) ∙ d.1)
    (end_is_received p r.source n s r.destination first.reaches)
    (end_is_received p r.destination m t r.destination onward))
