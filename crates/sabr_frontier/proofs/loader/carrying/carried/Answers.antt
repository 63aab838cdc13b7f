use Rattle.sabr_frontier.proofs.Names.{◌&&◌, ◌∙◌, true, sym, ap, subst, ◌≡◌, ℕ, ◌<◌, List, [], ◌∷◌, ◌++◌, length, take, refl, arith, length-append, option_copied, option_map_or, IfSome, ContactPlan, RouteRequest, goes_on, in_part, take_at, IsPathEnd, number_after_some}
use Rattle.sabr_model.proofs.RouteLemmas.Faults.{fault_is_no_route}
use Rattle.sabr_frontier.specs.declared.loader.path_end.PathEnd.{PathEnd}
use Rattle.sabr_frontier.proofs.ListingLemmas.AllRoutes.{goes_on_within}
use Rattle.sabr_frontier.proofs.loader.carrying.carried.Goals as goal
use Rattle.sabr_frontier.proofs.loader.carrying.carried.Goals.{in-Some-end, in-None}

-- the first numbers of a route lead there, and more come after them
record IsKnown (p : ContactPlan) (r : RouteRequest) (s : List ℕ) (known : PathEnd × ℕ) : Type 0 where
  longer : known.1 < length s
  end : IsPathEnd p r (take known.1 s) known.0

module _ (p : ContactPlan) (r : RouteRequest) (q X s : List ℕ) (goes : goes_on q X s ≡ true) (end : PathEnd) where
  split : (x : ℕ) × (rest : List ℕ) × (s ≡ q ++ x ∷ rest)
  split = let w = goes_on_within q X s goes in let v = number_after_some q s w.0 w.1 in (w.0, v.0, v.1)

  longer_than : length q < length s
  longer_than = omega (arith, length-append q (split.0 ∷ split.1), ap (length {A = ℕ}) split.2)

  -- a list that goes on after a prefix begins with it, and with nothing
  after_prefix : IsPathEnd p r q end → IsKnown p r s (end, length q)
  after_prefix is = record { longer = longer_than; end = subst (λ q. IsPathEnd p r q end) (sym (ap (take (length q)) split.2 ∙ take_at q (split.0 ∷ split.1) (length q) refl)) is }

  after_nothing : IsPathEnd p r [] end → IsKnown p r s (end, 0)
  after_nothing is = record { longer = omega (arith, longer_than); end = is }

pub follow_after-requires : goal.follow_after-requires
follow_after-requires g c =
    let p = c.args.question.now.plan.now.plan in
    let r = c.args.question.now.request in
    let s = c.in-Some.route.now in
    let goes = sym c.goes_on.ensures ∙ c.if-not-goes_on.false in
    let known : IsKnown p r s c.match-end.first = elim c.match-end.branch [
      | in-Some-end w ↦ subst (IsKnown p r s) (sym w.first-is) (after_prefix p r c.args.prefix.now c.args.excluded.now s goes w.in-Some-end.end (subst (λ o. IfSome o (IsPathEnd p r c.args.prefix.now)) w.in-Some-end.is c.requires))
      | in-None w ↦ subst (IsKnown p r s) (sym w.first-is) (after_nothing p r c.args.prefix.now c.args.excluded.now s goes w.at_source.result w.at_source.ensures)
    ] in
    record { longer = known.longer; path = known.end.path; reached = known.end.reached }

pub summary_of-summary-requires : goal.summary_of-summary-requires
summary_of-summary-requires g c =
    let p = c.args.question.now.plan.now.plan in
    let r = c.args.question.now.request in
    let s = c.in-Some.route.now in
    let goes = sym c.goes_on.ensures ∙ c.if-not-goes_on.false in
    let known : IsKnown p r s c.match-end.first = elim c.match-end.branch [
      | in-Some-end w ↦ subst (IsKnown p r s) (sym w.first-is) (after_prefix p r c.args.prefix.now c.args.excluded.now s goes w.in-Some-end.end (subst (λ o. IfSome o (IsPathEnd p r c.args.prefix.now)) w.in-Some-end.is c.requires))
      | in-None w ↦ subst (IsKnown p r s) (sym w.first-is) (after_nothing p r c.args.prefix.now c.args.excluded.now s goes w.at_source.result w.at_source.ensures)
    ] in
    record { within = omega (arith, known.longer); front = known.end.summary }

pub returns-in_default-follow_after-clause-err : goal.returns-in_default-follow_after-clause-err
returns-in_default-follow_after-clause-err g c =
    let p = c.args.question.now.plan.now.plan in
    let r = c.args.question.now.request in
    ap (λ o. option_map_or (in_part p r c.args.prefix.now c.args.excluded.now) (option_copied o) true) c.in-Some.is
    ∙ ap (λ b. b && goes_on c.args.prefix.now c.args.excluded.now c.in-Some.route.now) (fault_is_no_route p r c.in-Some.route.now c.in_default-follow_after.field-0 c.in_default-follow_after.ensures.fault)
