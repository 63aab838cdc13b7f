-- What is told of hops, in two parts.
use Rattle.std.proofs.Common.{◌≡◌, ℕ, List, [], ◌∷◌, ◌++◌, ◌+◌, true, false, cond, length, refl, sym, ap, ◌∙◌, append_assoc, append-nil}
use Rattle.std.specs.Prelude.{is_none}
use Rattle.std.specs.List.{flat_map}
use Rattle.std.specs.Option.{option_map_or}
use Rattle.std.specs.declared.option.Option.{Option}
use Rattle.std.specs.declared.option.Option.TheVariants.{Some, None}
use Rattle.sabr_model.specs.declared.fault.HopFault.{HopFault}
use Rattle.sabr_model.specs.declared.contact.Contact.{Contact}
use Rattle.sabr_model.specs.plan.Plan.{ContactPlan, contact_named}
use Rattle.sabr_model.specs.routes.Arrival.{RouteRequest}
use Rattle.sabr_model.specs.routes.Fault.{fault_at, fault_or, first_fault}
use Rattle.sabr_session.specs.Hops.{Hop, PlacedHop, hop_after, placed_after, told_after, told_of}

no_fault_before : (o o' : Option HopFault) → fault_or o o' ≡ None → (o ≡ None) × (o' ≡ None)
no_fault_before None o' e = (refl, e)
no_fault_before (Some f) o' e = absurd cc

-- after numbers without a fault it goes on
pub told_of-append : {X : Type 0} (tell : List ℕ → Hop → List X) (p : ContactPlan) (r : RouteRequest) (q s t : List ℕ) → first_fault p r q s ≡ None
    → told_of tell p r q (s ++ t) ≡ told_of tell p r q s ++ told_of tell p r (q ++ s) t
told_of-append tell p r q [] t e = ap (λ w. told_of tell p r w t) (sym (append-nil q))
told_of-append tell p r q (n ∷ s) t e =
    let both = no_fault_before (fault_at p r q n) (first_fault p r (q ++ n ∷ []) s) e in
    let here = told_after tell p r q n in
    rw (both.0)
    (ap (λ w. here ++ w)
    (told_of-append tell p r (q ++ n ∷ []) s t both.1 ∙ ap (λ w. told_of tell p r (q ++ n ∷ []) s ++ told_of tell p r w t) (append_assoc q (n ∷ []) s))
    ∙ sym (append_assoc here (told_of tell p r (q ++ n ∷ []) s) (told_of tell p r (q ++ n ∷ s) t)))

-- what is told of hops by their places is told of each in turn
pub told_of-each : {X : Type 0} (f : PlacedHop → List X) (p : ContactPlan) (r : RouteRequest) (q s : List ℕ)
    → told_of (λ front h. f (record { place = length front + 1; hop = h })) p r q s ≡ flat_map f (told_of placed_after p r q s)
told_of-each f p r q [] = refl
told_of-each {X} f p r q (n ∷ s) =
    let tell : List ℕ → Hop → List X = λ front h. f (record { place = length front + 1; hop = h }) in
    elim (is_none (fault_at p r q n)) as (λ b. cond b (told_after tell p r q n ++ told_of tell p r (q ++ n ∷ []) s) [] ≡ flat_map f (cond b (told_after placed_after p r q n ++ told_of placed_after p r (q ++ n ∷ []) s) [])) [
      | true ↦ elim (contact_named p n) as (λ o. option_map_or (λ (c : Contact). tell q (hop_after p r q n c)) o [] ++ told_of tell p r (q ++ n ∷ []) s ≡ flat_map f (option_map_or (λ (c : Contact). placed_after q (hop_after p r q n c)) o [] ++ told_of placed_after p r (q ++ n ∷ []) s)) [
        | None ↦ told_of-each f p r (q ++ n ∷ []) s
        | Some c ↦ ap (λ w. tell q (hop_after p r q n c) ++ w) (told_of-each f p r (q ++ n ∷ []) s)
      ]
      | false ↦ refl
    ]
