use Rattle.sabr_frontier.proofs.Names.{◌≡◌, ℕ, List, [], ◌∷◌, ◌++◌, take, get_or, true, map, ap, sym, subst, ◌∙◌, true≢false, take_all, is_path, AreSteps, step_of, AllGoOn, IsChecked}
use Rattle.sabr_frontier.proofs.LoadingLemmas.LoadedParts.{checked_more, number_in, paths_more}
use Rattle.sabr_frontier.proofs.loader.check.check.Goals as goal

pub loop-number-init : goal.loop-number-init
loop-number-init g c = record { so_far = record { leaves_are = c.clear.ensures.items; onward_are = ap (map (step_of c.args.prefix.now)) c.clear-2.ensures.items; steps = subst (AreSteps c.args.question.now.plan.now.plan c.args.question.now.request c.args.prefix.now) (sym c.clear-2.ensures.items) (λ o m. absurd m) }; paths = λ x h. absurd (true≢false (sym h)) }

pub returns-then-not-branch-clause-none : goal.returns-then-not-branch-clause-none
returns-then-not-branch-clause-none g c all =
    let p = c.args.question.now.plan.now.plan in
    let r = c.args.question.now.request in
    let x = get_or c.args.excluded.now c.loop-number.number-index 0 in
    let path : is_path p r (c.args.prefix.now ++ x ∷ []) ≡ true = all x (number_in p r c.args.excluded.now c.loop-number.number-index c.loop-number-test.true) in
    true≢false (sym path ∙ sym c.in_ok-put.ensures.path ∙ c.if-not-branch.true)

pub loop-number-preserved : goal.loop-number-preserved
loop-number-preserved g c =
    let p = c.args.question.now.plan.now.plan in
    let r = c.args.question.now.request in
    let q = c.args.prefix.now in
    let X = c.args.excluded.now in
    let i = c.loop-number.number-index in
    let lt = c.loop-number-test.true in
    record {
      so_far = checked_more p r q X i lt c.loop-number.checked c.put.new.self c.loop-number.invariant.so_far (c.in_ok-put.ensures.leaves c.if-not-branch.false) (c.in_ok-put.ensures.onward c.if-not-branch.false) c.in_ok-put.ensures.steps;
      paths = paths_more p r q X i lt c.loop-number.invariant.paths (sym c.in_ok-put.ensures.path ∙ c.if-not-branch.false);
    }

pub returns-clause-some : goal.returns-clause-some
returns-clause-some g c =
    let p = c.args.question.now.plan.now.plan in
    let r = c.args.question.now.request in
    let q = c.args.prefix.now in
    let whole : take c.loop-number.number-index c.args.excluded.now ≡ c.args.excluded.now = take_all c.loop-number.number-index c.args.excluded.now c.loop-number-test.false in
    (subst (λ (X : List ℕ). AllGoOn p r (q, X)) whole c.loop-number.invariant.paths, subst (λ (X : List ℕ). IsChecked p r (q, X) c.loop-number.checked) whole c.loop-number.invariant.so_far)
