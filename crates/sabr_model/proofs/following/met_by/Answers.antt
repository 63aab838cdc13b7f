use Rattle.sabr_model.proofs.ListLemmas.Names.{◌≡◌, ◌+◌, ◌++◌, ◌∷◌, [], take, get_or, sym, subst, take_more, AreMet}
use Rattle.sabr_model.proofs.RouteLemmas.Follows.{met_more, met_still}
use Rattle.sabr_model.proofs.following.met_by.Goals as goal
use Rattle.sabr_model.proofs.following.met_by.Goals.{in-Some, in_default}

pub loop-number-preserved : goal.loop-number-preserved
loop-number-preserved g c =
    let p = c.args.plan.now in
    let s = c.args.numbers.now in
    let i = c.loop-number.number-index in
    let n = get_or s i 0 in
    let before = c.loop-number.invariant in
    let more : take (i + 1) s ≡ take i s ++ n ∷ [] = take_more s i 0 c.loop-number-test.true in
    elim c.match-hop.branch [
      | in-Some w ↦
          let hop = w.in-Some.ensures {u = tt} in
          subst (λ met. AreMet p met (take (i + 1) s)) (sym w.met-is) (rw more (met_more p (take i s) n w.in-Some.hop.receiver hop.contact c.loop-number.met w.insert.new.self c.nodes.ensures.tabled hop.named hop.is.receiver before w.insert.ensures.this w.insert.ensures.others))
      | in_default w ↦
          subst (λ met. AreMet p met (take (i + 1) s)) (sym w.met-is) (rw more (met_still p (take i s) n c.loop-number.met w.in_default.ensures before))
    ]
