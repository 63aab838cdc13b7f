use Rattle.std.proofs.Common.{refl, sym, subst, ◌∙◌, inl}
use Rattle.std.proofs.lemmas.Result.{err_from_is_err_and}
use Rattle.std.specs.Prelude.{All}
use Rattle.sabr_model.specs.plan.Plan.{TabledPlan, IsPlan}
use Rattle.sabr_model.specs.routes.Asking.{IsRequest}
use Rattle.sabr_session.specs.ReportText.{HasSpelledTimes}
use Rattle.commands.proofs.Explained.{records_spelled}
use Rattle.commands.proofs.RunLemmas.PageTexts.{report_of_page}
use Rattle.commands.proofs.runs.pages.write_last_page.Goals as goal

pub send_report-requires-clause-times : goal.send_report-requires-clause-times
send_report-requires-clause-times g c =
    let listing = c.args.listing in
    subst (All HasSpelledTimes) (sym (c.routes.ensures ∙ (c.in_ok-last.ensures {u = tt}).routes))
    (records_spelled listing.plan.plan listing.request _
    (subst (λ (q : TabledPlan). IsPlan q.plan) c.plan.ensures c.rules_hold.ensures)
    (subst IsRequest c.request.ensures c.limits_hold.ensures))

pub returns-in_err-send_report : goal.returns-in_err-send_report
returns-in_err-send_report g c = λ kept.
    let last = c.in_ok-last.ensures {u = tt} in
    let report = report_of_page c.args.listing c.args.count _ _ _ (c.routes.ensures ∙ last.routes) c.emitted-first_rank.ensures.count (c.more.ensures ∙ last.more) in
    let (failure, is, same) = err_from_is_err_and c.from_residual-in_err-send_report.result c.from_residual-in_err-send_report.ensures.1 in
    rw (is, same) (inl (rw report at (c.in_err-send_report.ensures).text, refl))

pub returns-in_err-last : goal.returns-in_err-last
returns-in_err-last g c = λ kept.
    let (failure, is, same) = err_from_is_err_and c.from_residual.result c.from_residual.ensures.1 in
    rw (is, same) (refl, refl)

pub returns : goal.returns
returns g c = λ kept.
    let last = c.in_ok-last.ensures {u = tt} in
    let report = report_of_page c.args.listing c.args.count _ _ _ (c.routes.ensures ∙ last.routes) c.emitted-first_rank.ensures.count (c.more.ensures ∙ last.more) in
    let sent = c.in_ok-send_report.ensures in
    ((rw report at sent.text, sent.flushed), refl)
