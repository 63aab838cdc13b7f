use Rattle.std.proofs.Common.{◌≤◌, ◌+◌, ◌++◌, ◌∷◌, [], true, ℕ, List, Option, get_or, sym, subst, arith, length, take, ◌∙◌}
use Rattle.std.specs.Prelude.{IfSome}
use Rattle.std.proofs.lemmas.List.{take_more, take_all, length-take}
use Rattle.indexmap.specs.IndexMap.{keys}
use Rattle.sabr_model.specs.declared.contact.Contact.{Contact}
use Rattle.sabr_model.specs.plan.Plan.{ContactPlan}
use Rattle.sabr_model.specs.plan.Table.{IsTableOf}
use Rattle.sabr_model.specs.plan.Known.{IsKnown, AreKnown}
use Rattle.sabr_model.proofs.PlanLemmas.KnownLemmas.{known_push}
use Rattle.sabr_model.proofs.PlanLemmas.RangeOrder.{light_of_small}
use Rattle.sabr_model.proofs.PlanLemmas.TableLemmas.{IsTableOf-push}
use Rattle.sabr_model.proofs.PlanLemmas.Limits.{short_index}
use Rattle.sabr_model.proofs.node_table.table_of.Goals as goal

pub of-requires : goal.of-requires
of-requires g c =
    let cs = c.args.contacts.now in
    let i = c.loop-contact.contact-index in
    let noted = c.in_ok-found.ensures in
    let table = c.note_contact.new.table in
    let few : length (take (i + 1) cs) ≤ 20000 = omega (arith, c.requires.few, length-take (i + 1) cs) in
    let more = subst (λ ds. IsTableOf ds table) (sym (take_more cs i _ c.loop-contact-test.true)) (IsTableOf-push _ _ c.loop-contact.table table c.loop-contact.invariant.table noted.unique noted.ok) in
    let p : ContactPlan = record { contacts = []; ranges = c.args.ranges.now; largest = 0 } in
    record {
      from = short_index (take (i + 1) cs) table c.in_ok-found.found.0 _ more few noted.from;
      to = short_index (take (i + 1) cs) table c.in_ok-found.found.1 _ more few noted.to;
      light = subst (λ (o : Option ℕ). IfSome o (λ l. l ≤ 1000000)) (sym c.light_of_contact_guessed-light.ensures) (light_of_small p (get_or cs i (record { number = 0; from = 0; to = 0; start = 0; end = 0; rate = 0 })) c.requires.limit);
    }

pub loop-contact-preserved : goal.loop-contact-preserved
loop-contact-preserved g c =
    let cs = c.args.contacts.now in
    let i = c.loop-contact.contact-index in
    let noted = c.in_ok-found.ensures in
    let table = c.note_contact.new.table in
    let none : Contact = record { number = 0; from = 0; to = 0; start = 0; end = 0; rate = 0 } in
    let e = c.of.result in
    let made = c.of.ensures in
    let seam = sym (take_more cs i none c.loop-contact-test.true) in
    let here : IsKnown (keys table) c.args.ranges.now true (get_or cs i none) e = rw (made.from, made.to) (record { from = noted.from; to = noted.to; light = λ t. made.light ∙ c.light_of_contact_guessed-light.ensures }) in
    let more = known_push (keys c.loop-contact.table) (keys table) c.args.ranges.now true (take i cs) c.loop-contact.known.items (get_or cs i none) e noted.places c.loop-contact.invariant.known here in
    record {
      table = subst (λ ds. IsTableOf ds table) seam (IsTableOf-push _ _ c.loop-contact.table table c.loop-contact.invariant.table noted.unique noted.ok);
      known = rw c.push_reserved.ensures.items (subst (λ (ds : List Contact). AreKnown (keys table) c.args.ranges.now true ds (c.loop-contact.known.items ++ e ∷ [])) seam more);
      room = omega (arith, c.push_reserved.ensures.capacity, c.loop-contact.invariant.room);
    }

pub returns : goal.returns
returns g c =
    let all = take_all c.loop-contact.contact-index c.args.contacts.now c.loop-contact-test.false in
    record {
      table = subst (λ ds. IsTableOf ds c.loop-contact.table) all c.loop-contact.invariant.table;
      known = subst (λ (ds : List Contact). AreKnown (keys c.loop-contact.table) c.args.ranges.now true ds c.loop-contact.known.items) all c.loop-contact.invariant.known;
    }
