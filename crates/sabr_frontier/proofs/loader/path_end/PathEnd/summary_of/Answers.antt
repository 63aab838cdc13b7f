use Rattle.sabr_frontier.proofs.Names.{◌≡◌, ◌+◌, ◌++◌, ◌∷◌, [], take, get_or, ap, ◌∙◌, take_all, take_more}
use Rattle.sabr_model.specs.routes.Telling.{summary_of}
use Rattle.sabr_frontier.proofs.loader.path_end.PathEnd.summary_of.Goals as goal

pub loop-place-preserved : goal.loop-place-preserved
loop-place-preserved g c =
    let s = c.args.numbers.now in
    let i = c.loop-place.place in
    let more : take (i + 1) s ≡ take i s ++ get_or s i 0 ∷ [] = take_more s i 0 c.loop-place-test.true in
    rw more c.extended-summary.ensures

pub returns : goal.returns
returns g c = c.loop-place.invariant ∙ ap (summary_of c.args.plan.now.plan) (take_all c.loop-place.place c.args.numbers.now c.loop-place-test.false)
