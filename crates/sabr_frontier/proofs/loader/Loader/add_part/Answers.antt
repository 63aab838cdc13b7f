use Rattle.sabr_frontier.proofs.Names.{◌≡◌, [], ◌∷◌, ◌++◌, ap, sym, subst, ◌∙◌, Some, None, Err, and_parts, option_copied, Loaded, rise_strictly, with_part, part_with, IsPartial, is_after_last, loaded, partial_shape_of}
use Rattle.std.proofs.lemmas.Result.{err_from_is_err_and}
use Rattle.sabr_frontier.specs.declared.loader.load_fault.LoadFault.TheVariants as load
use Rattle.sabr_frontier.proofs.LoadingLemmas.LoadedParts.{partial_more, carry_accepted, carry_told, not_refused, order_refused}
use Rattle.sabr_frontier.proofs.loader.Loader.add_part.Goals as goal

pub returns-then-not-is_next-clause-refused : goal.returns-then-not-is_next-clause-refused
returns-then-not-is_next-clause-refused g c f h = let both : Some load.BadOrder ≡ Some f = sym (order_refused c.self.invariant c.self.view_is (part_with c.args.prefix.now c.args.excluded.now (option_copied c.args.route)) (sym c.is_next.ensures ∙ c.if-not-is_next.true)) ∙ h in cc

pub returns-then-not-is_next-clause-accepted : goal.returns-then-not-is_next-clause-accepted
returns-then-not-is_next-clause-accepted g c h = let both : Some load.BadOrder ≡ None = sym (order_refused c.self.invariant c.self.view_is (part_with c.args.prefix.now c.args.excluded.now (option_copied c.args.route)) (sym c.is_next.ensures ∙ c.if-not-is_next.true)) ∙ h in cc

pub returns-in_err-record-clause-refused : goal.returns-in_err-record-clause-refused
returns-in_err-record-clause-refused g c f h =
    let (failure, is, same) = err_from_is_err_and c.from_residual.result c.from_residual.ensures.1 in
    is ∙ ap Err (same ∙ carry_told c.self.invariant c.self.view_is (part_with c.args.prefix.now c.args.excluded.now (option_copied c.args.route)) (sym c.is_next.ensures ∙ c.if-not-is_next.false) c.in_err-record.field-0.0 f c.in_err-record.ensures.err h)

pub returns-in_err-record-clause-accepted : goal.returns-in_err-record-clause-accepted
returns-in_err-record-clause-accepted g c h =
    let (failure, is, same) = err_from_is_err_and c.from_residual.result c.from_residual.ensures.1 in
    rw (is, same) (carry_accepted c.self.invariant c.self.view_is (part_with c.args.prefix.now c.args.excluded.now (option_copied c.args.route)) (sym c.is_next.ensures ∙ c.if-not-is_next.false) c.in_err-record.field-0.0 c.in_err-record.ensures.err h)

pub invariant_of-self : goal.invariant_of-self
invariant_of-self g c =
    let s = c.self.inside in
    record {
      rules = c.self.invariant.rules;
      limits = c.self.invariant.limits;
      partial = subst (IsPartial s.question.plan.now.plan s.question.request s.parts.items) (sym c.in_err-take_in.ensures.err) c.self.invariant.partial;
    }

pub returns-in_err-take_in-clause-refused : goal.returns-in_err-take_in-clause-refused
returns-in_err-take_in-clause-refused g c f h = let both : None ≡ Some f = sym (not_refused c.self.invariant c.self.view_is (part_with c.args.prefix.now c.args.excluded.now (option_copied c.args.route)) (sym c.is_next.ensures ∙ c.if-not-is_next.false) c.in_ok-record.ensures.may) ∙ h in cc

pub invariant_of-self-2 : goal.invariant_of-self-2
invariant_of-self-2 g c =
    let s = c.self.inside in
    let p = s.question.plan.now.plan in
    let r = s.question.request in
    let h = partial_shape_of s.partial in
    let q = c.args.prefix.now in
    let X = c.args.excluded.now in
    let next = and_parts (rise_strictly X) (is_after_last h q) (sym c.is_next.ensures ∙ c.if-not-is_next.false) in
    let w = c.in_ok-take_in.ensures.ok in
    record {
      rules = c.self.invariant.rules;
      limits = c.self.invariant.limits;
      partial = subst (λ ts. IsPartial p r ts (partial_shape_of c.take_in.new.self)) (sym c.push.ensures) (subst (IsPartial p r (s.parts.items ++ part_with q X (option_copied c.args.route) ∷ [])) (sym w.2) (partial_more p r s.parts.items h c.self.invariant.partial q X c.in_ok-record.record (option_copied c.args.route) c.in_ok-record.ensures.ok next.0 next.1 c.in_ok-record.ensures.may w.0 w.1));
    }

pub returns-clause-refused : goal.returns-clause-refused
returns-clause-refused g c f h = let both : None ≡ Some f = sym (not_refused c.self.invariant c.self.view_is (part_with c.args.prefix.now c.args.excluded.now (option_copied c.args.route)) (sym c.is_next.ensures ∙ c.if-not-is_next.false) c.in_ok-record.ensures.may) ∙ h in cc

pub returns-clause-ok : goal.returns-clause-ok
returns-clause-ok g c =
    let s = c.self.inside in
    subst (λ (v : Loaded). loaded s.question.plan.now s.question.request c.push.new.self.items (g.B.BestOf.calls_of s.finder) ≡ with_part v (part_with c.args.prefix.now c.args.excluded.now (option_copied c.args.route))) c.self.view_is
    (λ i. loaded s.question.plan.now s.question.request (c.push.ensures i) (g.B.BestOf.calls_of s.finder))
