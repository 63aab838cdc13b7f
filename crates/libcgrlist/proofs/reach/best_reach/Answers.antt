use Rattle.std.proofs.Common.{◌∙◌, inl}
use Rattle.sabr_model.specs.routes.Listing.{routes}
use Rattle.sabr_model.specs.routes.Record.{record_of}
use Rattle.libcgrlist.proofs.AnswerLemmas.{first_reach_is}
use Rattle.libcgrlist.specs.Answers.{none_or_one}
use Rattle.libcgrlist.proofs.reach.best_reach.Goals as goal

pub returns-in-Ok : goal.returns-in-Ok
returns-in-Ok c =
    let p = c.args.index.now.plan in
    let r = c.args.request.now in
    inl (c.of.ensures ∙ first_reach_is (record_of p r) (routes p r) (none_or_one c.in-Ok.best) c.in-Ok.ensures)
