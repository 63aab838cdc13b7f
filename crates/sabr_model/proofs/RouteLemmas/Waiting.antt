-- Over a list of contacts, no bundle that waits arrives sooner than one that is sent as soon as can be.
use Rattle.sabr_model.proofs.ListLemmas.Names.{◌≡◌, ℕ, ◌+◌, ◌≤◌, ◌<◌, max, cond, ltb, List, [], ◌∷◌, refl, sym, ap, subst, ◌∙◌, arith, ltb-true, lt-ltb, cond-true, option_map, option_and_then, Option, Some, None, Contact, ContactPlan, contact_named, light_of, RouteRequest, arrival, arrival_after, cost, CanArrive, ArrivalIsMonotone}
use Rattle.sabr_model.proofs.ListLemmas.Answered.{had_value, passed}

-- what an arrival tells
pub told_by : (sent end margin u : ℕ) (o : Option ℕ) → cond (ltb sent end) (option_map (λ l. sent + cost margin l) o) None ≡ Some u
    → (l : ℕ) × (o ≡ Some l) × (sent < end) × (sent + cost margin l ≡ u)
told_by sent end margin u None e = absurd (let h : None ≡ Some u = (passed (ltb sent end) None u e).1 in cc)
told_by sent end margin u (Some l) e =
    let h = passed (ltb sent end) (Some (sent + cost margin l)) u e in
    (l, refl, ltb-true sent end h.0, cc (h.1))

-- sent as soon as can be, it arrives
sent_at_once : (p : ContactPlan) (r : RouteRequest) (t : ℕ) (c : Contact) (l : ℕ) → light_of p c ≡ Some l → max t c.start < c.end → arrival p r t c ≡ Some (max t c.start + cost r.margin l)
sent_at_once p r t c l light lt =
    cond-true (ltb (max t c.start) c.end) (option_map (λ k. max t c.start + cost r.margin k) (light_of p c)) None (lt-ltb (max t c.start) c.end lt)
    ∙ ap (option_map (λ k. max t c.start + cost r.margin k)) light

-- ---- who is there earlier

-- arrives no later, too
pub no_later : (p : ContactPlan) (r : RouteRequest) (t u : ℕ) (s : List ℕ) (d : ℕ) → t ≤ u → CanArrive p r u s d → (e : ℕ) × CanArrive p r t s e × (e ≤ d)
no_later p r t u [] d le same = (t, refl, omega (arith, same))
no_later p r t u (n ∷ s) d le (c, l, sent, named, light, there, begun, before, rest) = (d, (c, l, sent, named, light, omega (arith, le, there), begun, before, rest), omega arith)

-- and no later if sent as soon as can be
pub no_sooner : (p : ContactPlan) (r : RouteRequest) (t u : ℕ) (s : List ℕ) (d : ℕ) → t ≤ u → CanArrive p r u s d → (e : ℕ) × (arrival_after p r t s ≡ Some e) × (e ≤ d)
no_sooner p r t u [] d le same = (t, refl, omega (arith, same))
no_sooner p r t u (n ∷ s) d le (c, l, sent, named, light, there, begun, before, rest) =
    let arrives = sent_at_once p r t c l light (omega (arith, le, there, begun, before)) in
    let further = no_sooner p r (max t c.start + cost r.margin l) (sent + cost r.margin l) s d (omega (arith, le, there, begun)) rest in (
      further.0,
      ap (option_and_then (λ (k : Contact). option_and_then (λ v. arrival_after p r v s) (arrival p r t k))) named
          ∙ ap (option_and_then (λ v. arrival_after p r v s)) arrives ∙ further.1,
      further.2,
    )

-- ---- a bundle that is sent as soon as can be

-- arrives
pub soonest : (p : ContactPlan) (r : RouteRequest) (t : ℕ) (s : List ℕ) (d : ℕ) → arrival_after p r t s ≡ Some d → CanArrive p r t s d
soonest p r t [] d e = cc
soonest p r t (n ∷ s) d e =
    let first = had_value (λ (c : Contact). option_and_then (λ v. arrival_after p r v s) (arrival p r t c)) (contact_named p n) d e in
    let c = first.0 in
    let onward = had_value (λ v. arrival_after p r v s) (arrival p r t c) d first.2 in
    let is = told_by (max t c.start) c.end r.margin onward.0 (light_of p c) onward.1 in
    (c, is.0, max t c.start, first.1, is.1, omega arith, omega arith, is.2, subst (λ v. CanArrive p r v s d) (sym is.3) (soonest p r onward.0 s d onward.2))

pub arrival_is_monotone : ArrivalIsMonotone
arrival_is_monotone p r c t u x le e =
    let is = told_by (max u c.start) c.end r.margin x (light_of p c) e in
    (max t c.start + cost r.margin is.0, sent_at_once p r t c is.0 is.1 (omega (arith, is.2, le)), omega (arith, is.3, le))
