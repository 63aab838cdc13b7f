use Rattle.sabr_plan.proofs.Names.{◌≡◌, ℕ, ◌<◌, ◌≤◌, ◌∙◌, Bool, true, false, not, cond, get_or, length, refl, ap, sym, arith, is_none, is_some, Option, Some, None, get_or-map, same_Some, slice_get-get_or, Contact, IsPlan, TabledPlan}
use mir.Val.{bool_byte}
use Rattle.std.proofs.lemmas.List.Filters.{length-filter_more}
use Rattle.sabr_model.specs.declared.hop.Hop.{Hop}
use Rattle.sabr_model.specs.plan.Light.{light_of}
use Rattle.sabr_model.specs.plan.Tabled.{IsHopNamed}
use Rattle.sabr_model.proofs.PlanLemmas.Numbered.{found_here}
use Rattle.sabr_plan.proofs.GatheredOpenings.{no_contact}
use Rattle.sabr_plan.proofs.without_light.contacts_without_light.Goals as goal

-- the hop at a place has the light time of the contact there
light_at : (p : TabledPlan) (place n : ℕ) (h : Hop) → IsPlan p.plan → place < length p.plan.contacts → (get_or p.plan.contacts place no_contact).number ≡ n → IsHopNamed p n h → h.light ≡ light_of p.plan (get_or p.plan.contacts place no_contact)
light_at p place n h rules lt number hop =
    let cs = p.plan.contacts in
    let x = get_or cs place no_contact in
    let found = found_here 0 cs n place no_contact rules.numbers_rise lt number ∙ slice_get-get_or cs place no_contact lt in
    let same : hop.contact ≡ x = same_Some hop.contact x (sym hop.named ∙ found) in
    hop.is.light ∙ ap (light_of p.plan) same

-- what is missing counts as one
counts : (o : Option ℕ) (b : Bool) → is_some o ≡ not b → (bool_byte b ≡ cond (is_none o) 1 0) × (bool_byte b ≤ 1)
counts None true e = (refl, omega arith)
counts None false e = absurd cc
counts (Some x) true e = absurd cc
counts (Some x) false e = (refl, omega arith)

pub loop-place-preserved : goal.loop-place-preserved
loop-place-preserved g c =
    let p = c.args.plan.now in
    let place = c.loop-place.place in
    let lt : place < length p.plan.contacts = let less = c.loop-place-test.true in omega (arith, less, ap length c.contacts-place-end.ensures.value) in
    let number = sym (get_or-map (λ (x : Contact). x.number) p.plan.contacts place no_contact 0 lt) ∙ sym c.hop_at-number.ensures.number in
    let light = light_at p place c.hop_at-number.result.0 c.hop_at-number.result.1 c.rules_hold.ensures lt number c.hop_at-number.ensures.hop in
    let one = counts c.hop_at-number.result.1.light c.is_none.result c.is_none.ensures in
    let more = length-filter_more (λ d. is_none (light_of p.plan d)) p.plan.contacts place no_contact lt in
    let h = c.loop-place.invariant in
    record {
      counted = omega (arith, h.counted, more, one.0, ap {B = ℕ} (λ o. cond (is_none o) 1 0) light);
      few = omega (arith, h.few, one.1);
    }
