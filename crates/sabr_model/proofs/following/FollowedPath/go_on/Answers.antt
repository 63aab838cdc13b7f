use Rattle.sabr_model.proofs.ListLemmas.Names.{◌≡◌, ◌++◌, ◌∷◌, [], IfSome, Option, Some, None, refl, sym, subst, AreMet, IsFollowedPath}
use Rattle.sabr_model.proofs.RouteLemmas.Follows.{met_more, path_goes_on}
use Rattle.sabr_model.proofs.following.FollowedPath.go_on.Goals as goal
use Rattle.sabr_model.proofs.following.FollowedPath.go_on.Goals.{in-Some, in_default}

none_here : {X : Type 0} (o : Option X) (P : X → Type 0) → ((x : X) → o ≡ Some x → ⊥) → IfSome o P
none_here None P none = tt
none_here (Some x) P none = absurd (none x refl)

pub returns-clause-path : goal.returns-clause-path
returns-clause-path g c =
    let p = c.args.plan.now in
    let r = c.args.request.now in
    let front = c.args.front.now in
    let n = c.args.number in
    let old = c.args.self.now in
    let path = c.requires.path in
    let hop = c.in_ok-hop.ensures {u = tt} in
    elim c.match-self.branch [
      | in-Some w ↦
          let before = subst (λ o. IfSome o (λ met. AreMet p met front)) w.in-Some.is path.nodes in
          subst (IsFollowedPath p r (front ++ n ∷ [])) (sym w.self-is)
          (path_goes_on p r front n old _ path hop.good hop.reached (met_more p front n c.in_ok-hop.hop.receiver c.in_ok-hop.hop.contact.now w.in-Some.set w.insert.new.self path.tabled hop.contact hop.receiver before w.insert.ensures.this w.insert.ensures.others))
      | in_default w ↦
          subst (IsFollowedPath p r (front ++ n ∷ [])) (sym w.self-is)
          (path_goes_on p r front n old _ path hop.good hop.reached (none_here old.met _ w.in_default.not-Some))
    ]
