use Rattle.std.proofs.Common.{◌≡◌, ℕ, ◌<◌, ◌∙◌, get_or, length, length-set, inl, inr, ap, refl, arith}
use Rattle.std.proofs.lemmas.Bool.{cases_eq}
use Rattle.std.proofs.lemmas.List.{get_or-set_same, get_or-set_other, get_or_default}
use Rattle.sabr_model.specs.declared.contact.Contact.{Contact}
use Rattle.sabr_model.specs.declared.plan.known.Known.{Known}
use Rattle.sabr_model.proofs.PlanLemmas.KnownLemmas.{both_in_table}
use Rattle.sabr_model.proofs.PlanLemmas.Limits.{short_index}
use Rattle.sabr_model.proofs.plan.known.renew_known.Goals as goal

pub loop-place-init : goal.loop-place-init
loop-place-init g c = record { as_many = c.requires.as_many; from = λ k d e lt. absurd (omega (arith, lt)); to = λ k d e lt. absurd (omega (arith, lt)); lights = λ k e. refl }

pub index_of-from-requires : goal.index_of-from-requires
index_of-from-requires g c = (both_in_table c.args.contacts.now c.args.table.now c.requires.table c.loop-place.place _ c.loop-place-test.true).0

pub index_of-to-requires : goal.index_of-to-requires
index_of-to-requires g c = (both_in_table c.args.contacts.now c.args.table.now c.requires.table c.loop-place.place _ c.loop-place-test.true).1

pub of-ends-requires-clause-from : goal.of-ends-requires-clause-from
of-ends-requires-clause-from g c = short_index c.args.contacts.now c.args.table.now c.index_of-from.result _ c.requires.table c.requires.few c.index_of-from.ensures

pub of-ends-requires-clause-to : goal.of-ends-requires-clause-to
of-ends-requires-clause-to g c = short_index c.args.contacts.now c.args.table.now c.index_of-to.result _ c.requires.table c.requires.few c.index_of-to.ensures

pub loop-place-preserved : goal.loop-place-preserved
loop-place-preserved g c =
    let none : Contact = record { number = 0; from = 0; to = 0; start = 0; end = 0; rate = 0 } in
    let cs = c.args.contacts.now in
    let h = c.loop-place.invariant in
    let place = c.loop-place.place in
    let known = c.loop-place.known.items in
    let old = c.index-old.result.now in
    let both : Known = record { from = c.of-ends.result.from; to = c.of-ends.result.to; light = old.light } in
    let within : place < length known = let lt = c.loop-place-test.true in omega (arith, lt, h.as_many) in
    let contact : (k : ℕ) (d : Contact) → k ≡ place → get_or cs k d ≡ get_or cs place none = λ k d is. ap (λ j. get_or cs j d) is ∙ get_or_default cs place d none c.loop-place-test.true in
    record {
      as_many = length-set known place both ∙ h.as_many;
      from = λ k d e lt.
          elim (cases_eq k place) [
            | inl is ↦ rw (contact k d is, is, get_or-set_same known place both e within, c.of-ends.ensures.from) c.index_of-from.ensures
            | inr other ↦ rw (get_or-set_other known place k both e other) (h.from k d e (omega (arith, lt, other)))
          ];
      to = λ k d e lt.
          elim (cases_eq k place) [
            | inl is ↦ rw (contact k d is, is, get_or-set_same known place both e within, c.of-ends.ensures.to) c.index_of-to.ensures
            | inr other ↦ rw (get_or-set_other known place k both e other) (h.to k d e (omega (arith, lt, other)))
          ];
      lights = λ k e.
          elim (cases_eq k place) [
            | inl is ↦ rw (is, get_or-set_same known place both e within) (ap (λ (x : Known). x.light) (c.index-old.ensures ∙ get_or_default known place old e within) ∙ h.lights place e)
            | inr other ↦ rw (get_or-set_other known place k both e other) (h.lights k e)
          ];
    }

pub returns : goal.returns
returns g c =
    let h = c.loop-place.invariant in
    let past = c.loop-place-test.false in
    record {
      ends = record { as_many = h.as_many; each = λ k d e lt. record { from = h.from k d e (omega (arith, lt, past)); to = h.to k d e (omega (arith, lt, past)); light = λ t. absurd cc } };
      lights = h.lights;
    }
