use Rattle.std.proofs.Common.{◌≡◌, ◌<◌, length, get_or, refl, sym, subst, ap, ◌∙◌}
use Rattle.indexmap.specs.IndexMap.{keys}
use Rattle.sabr_model.specs.declared.contact.Contact.{Contact}
use Rattle.sabr_model.specs.declared.plan.known.Known.{Known}
use Rattle.sabr_model.specs.plan.Known.{IsKnown}
use Rattle.sabr_model.specs.plan.Light.{light_of}
use Rattle.sabr_model.specs.plan.Plan.{ContactPlan, TabledPlan}
use Rattle.sabr_model.specs.plan.Tabled.{IsHopOf}
use Rattle.sabr_model.proofs.PlanLemmas.RangeOrder.{range_list}
use Rattle.sabr_model.proofs.plan.Plan.hop_of.Goals as goal
use Rattle.sabr_model.proofs.plan.Plan.hop_of.Goals.{then-self, else-self}

pub light_of_contact-light-requires : goal.light_of_contact-light-requires
light_of_contact-light-requires g c =
    rw c.deref.ensures.value (range_list _ c.self.invariant.0)

pub returns : goal.returns
returns g c =
    let p : ContactPlan = record { contacts = c.self.inside.contacts.items; ranges = c.self.inside.ranges.items; largest = c.self.inside.largest } in
    let nodes = keys c.self.inside.table in
    let place = c.args.place in
    let contact = c.args.contact.now in
    let there : contact ≡ get_or p.contacts place contact = c.requires.there ∙ ap (λ (q : TabledPlan). get_or q.plan.contacts place contact) (sym c.self.view_is) in
    let within : place < length p.contacts = subst (λ (q : TabledPlan). place < length q.plan.contacts) (sym c.self.view_is) c.requires.within in
    let is : (e : Known) → e ≡ get_or c.self.inside.known.items place e → IsKnown nodes p.ranges c.self.inside.lit contact e = λ e read.
    subst (λ (d : Contact). IsKnown nodes p.ranges c.self.inside.lit d e) (sym there)
    (subst (λ (f : Known). IsKnown nodes p.ranges c.self.inside.lit (get_or p.contacts place contact) f) (sym read) (c.self.invariant.2.each place contact e within)) in
    let light : c.if-self.light ≡ light_of p contact =
    elim c.if-self.branch [
      | then-self w ↦ w.light-is ∙ w.light_time-light.ensures ∙ (is w.index-then-self.result.now w.index-then-self.ensures).light w.if-self.true
      | else-self w ↦ w.light-is ∙ rw w.deref.ensures.value at w.light_of_contact-light.ensures
    ] in
    subst (λ (q : TabledPlan). IsHopOf q contact (record { start = contact.start; end = contact.end; receiver = c.index.result.now.to; light = c.if-self.light })) c.self.view_is (record { start = refl; end = refl; receiver = (is c.index.result.now c.index.ensures).to; light = light })
