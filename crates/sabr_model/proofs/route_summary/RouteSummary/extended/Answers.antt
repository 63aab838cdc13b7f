use Rattle.sabr_model.proofs.ListLemmas.Names.{◌≡◌, min, Some, None, sym, ap, ◌∙◌, option_copied, contact_named, Bool, cond, entry_of}
use Rattle.sabr_model.specs.declared.route_summary.RouteSummary.{RouteSummary}
use Rattle.sabr_model.proofs.RouteLemmas.Faults.{told_none, told_some}
use Rattle.sabr_model.proofs.route_summary.RouteSummary.extended.Goals as goal

pub returns-in_default : goal.returns-in_default
returns-in_default g c =
    let p = c.args.plan.now.plan in
    let named : contact_named p c.args.number ≡ None = sym c.contact.ensures ∙ ap option_copied c.in_default.is in
    c.requires ∙ told_none p c.args.number c.args.prefix.now named

pub returns-then-is_empty : goal.returns-then-is_empty
returns-then-is_empty g c =
    let p = c.args.plan.now.plan in
    let d = c.in-Some.contact.now in
    let named : contact_named p c.args.number ≡ Some d = sym c.contact.ensures ∙ ap option_copied c.in-Some.is in
    let until = c.min-until.ensures ∙ ap (λ (t : RouteSummary). min t.until d.end) c.requires in
    let entry = ap (λ (b : Bool). cond b d.to (entry_of p c.args.prefix.now)) (sym c.if-is_empty.true ∙ c.is_empty.ensures) in
    (λ i. record { until = until i; entry = entry i }) ∙ told_some p c.args.number c.args.prefix.now d named

pub returns : goal.returns
returns g c =
    let p = c.args.plan.now.plan in
    let d = c.in-Some.contact.now in
    let named : contact_named p c.args.number ≡ Some d = sym c.contact.ensures ∙ ap option_copied c.in-Some.is in
    let until = c.min-until.ensures ∙ ap (λ (t : RouteSummary). min t.until d.end) c.requires in
    let entry = ap (λ (t : RouteSummary). t.entry) c.requires ∙ ap (λ (b : Bool). cond b d.to (entry_of p c.args.prefix.now)) (sym c.if-is_empty.false ∙ c.is_empty.ensures) in
    (λ i. record { until = until i; entry = entry i }) ∙ told_some p c.args.number c.args.prefix.now d named
