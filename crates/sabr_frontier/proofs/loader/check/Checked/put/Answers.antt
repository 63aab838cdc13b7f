use Rattle.sabr_frontier.proofs.Names.{◌≡◌, ◌∷◌, ◌++◌, [], List, ℕ, map, length, refl, sym, ap, subst, ◌∙◌, inl, inr, true≢false, append-nil, cond, not, false_from_ne_true, unwrap_or, record_of, is_path, AreSteps, IsPathEnd, step_of, map-append}
use Rattle.sabr_model.specs.declared.route_summary.RouteSummary.{RouteSummary}
use Rattle.sabr_frontier.specs.declared.loader.path_end.ExpectedPrefix.{ExpectedPrefix}
use Rattle.sabr_frontier.proofs.ListingLemmas.ListMembers.{Member-append_cases}
use Rattle.sabr_frontier.proofs.LoadingLemmas.LoadedParts.{goes_elsewhere, goes_there}
use Rattle.sabr_frontier.proofs.loader.check.Checked.put.Goals as goal

pub returns-in_default : goal.returns-in_default
returns-in_default g c =
    let s = c.args.prefix.now ++ c.args.number ∷ [] in
    record {
      path = sym (false_from_ne_true (is_path c.args.question.now.plan.now.plan c.args.question.now.request s) c.in_default.ensures.none);
      leaves = λ h. absurd (true≢false (sym h));
      onward = λ h. absurd (true≢false (sym h));
      steps = λ h. h;
    }

pub returns-then-end-to-clause-leaves : goal.returns-then-end-to-clause-leaves
returns-then-end-to-clause-leaves g c _ =
    let p = c.args.question.now.plan.now.plan in
    let r = c.args.question.now.request in
    let old = c.args.self.now.leaves.items in
    let is = c.in-Some.ensures.end in
    let goes = goes_there p r c.args.prefix.now c.args.number c.in-Some.end is (c.if-end-to.true ∙ c.to.ensures.value) in
    let until = ap (λ (t : RouteSummary). t.until) is.summary in
    let entry = ap (λ (t : RouteSummary). t.entry) is.summary in
    c.in_ok-push.ensures.items
    ∙ ap (λ x. old ++ x ∷ []) (c.route-route.ensures ∙ (λ i. record { contacts = c.in_ok-numbers.ensures i; delivery = unwrap_or (sym is.reached.at i) 0; until = until i; entry = entry i }))
    ∙ sym (ap (λ b. old ++ map (record_of p r) (cond b ((c.args.prefix.now ++ c.args.number ∷ []) ∷ []) [])) goes)

pub returns-then-end-to-clause-onward : goal.returns-then-end-to-clause-onward
returns-then-end-to-clause-onward g c _ =
    let old : List (List ℕ) = map (step_of c.args.prefix.now) c.args.self.now.onward.items in
    let goes = goes_there c.args.question.now.plan.now.plan c.args.question.now.request c.args.prefix.now c.args.number c.in-Some.end c.in-Some.ensures.end (c.if-end-to.true ∙ c.to.ensures.value) in
    sym (ap (λ b. old ++ cond (not b) ((c.args.prefix.now ++ c.args.number ∷ []) ∷ []) []) goes ∙ append-nil old)

pub returns-clause-leaves : goal.returns-clause-leaves
returns-clause-leaves g c _ =
    let p = c.args.question.now.plan.now.plan in
    let r = c.args.question.now.request in
    let old = c.args.self.now.leaves.items in
    let elsewhere = goes_elsewhere p r c.args.prefix.now c.args.number c.in-Some.end c.in-Some.ensures.end (λ e. c.if-end-to.false (e ∙ sym c.to.ensures.value)) in
    sym (ap (λ b. old ++ map (record_of p r) (cond b ((c.args.prefix.now ++ c.args.number ∷ []) ∷ []) [])) elsewhere ∙ append-nil old)

pub returns-clause-onward : goal.returns-clause-onward
returns-clause-onward g c _ =
    let q = c.args.prefix.now in
    let old = c.args.self.now.onward.items in
    let expected : ExpectedPrefix = record { length = length q; number = c.args.number; end = c.in-Some.end } in
    let elsewhere = goes_elsewhere c.args.question.now.plan.now.plan c.args.question.now.request q c.args.number c.in-Some.end c.in-Some.ensures.end (λ e. c.if-end-to.false (e ∙ sym c.to.ensures.value)) in
    ap (map (step_of q)) c.in_ok-push-2.ensures.items ∙ map-append (step_of q) old (expected ∷ []) ∙ sym (ap (λ b. map (step_of q) old ++ cond (not b) ((q ++ c.args.number ∷ []) ∷ []) []) elsewhere)

pub returns-clause-steps : goal.returns-clause-steps
returns-clause-steps g c known =
    let p = c.args.question.now.plan.now.plan in
    let r = c.args.question.now.request in
    let q = c.args.prefix.now in
    let old = c.args.self.now.onward.items in
    let expected : ExpectedPrefix = record { length = length q; number = c.args.number; end = c.in-Some.end } in
    subst (AreSteps p r q) (sym c.in_ok-push-2.ensures.items)
    (λ o m. elim (Member-append_cases o old (expected ∷ []) m) [
      | inl k ↦ known o k
      | inr k ↦ elim k [
        | inl same ↦ subst (λ (z : ExpectedPrefix). (z.length ≡ length q) × IsPathEnd p r (step_of q z) z.end) (sym same) (refl, c.in-Some.ensures.end)
        | inr z ↦ absurd z
      ]
    ])
