use Rattle.std.proofs.Common.{refl, sym, subst, ◌∙◌, inl, inr}
use Rattle.std.proofs.lemmas.Result.{err_from_is_err_and}
use Rattle.std.specs.Prelude.{All}
use Rattle.sabr_model.specs.plan.Plan.{TabledPlan, IsPlan}
use Rattle.sabr_model.specs.routes.Asking.{IsRequest}
use Rattle.sabr_session.specs.ReportText.{HasSpelledTimes}
use Rattle.commands.proofs.Explained.{records_spelled}
use Rattle.commands.proofs.RunLemmas.PageTexts.{left_after_page, report_of_page, text_of_page}
use Rattle.commands.proofs.runs.pages.write_kept_page.Goals as goal

pub returns-in_err-routes : goal.returns-in_err-routes
returns-in_err-routes g c =
    let (failure, is, same) = err_from_is_err_and c.from_residual.result c.from_residual.ensures.1 in
    rw (is, same) (refl, refl)

pub send_report-requires-clause-times : goal.send_report-requires-clause-times
send_report-requires-clause-times g c =
    let listing = c.args.listing.now in
    subst (All HasSpelledTimes) (sym (c.as_slice.ensures.value ∙ (c.in_ok-routes.ensures {u = tt}).routes))
    (records_spelled listing.plan.plan listing.request _
    (subst (λ (q : TabledPlan). IsPlan q.plan) c.plan.ensures c.rules_hold.ensures)
    (subst IsRequest c.request.ensures c.limits_hold.ensures))

pub returns-in_err-send_report : goal.returns-in_err-send_report
returns-in_err-send_report g c =
    let paged = c.in_ok-routes.ensures {u = tt} in
    let left = left_after_page c.args.listing.now c.page.new.self c.args.count c.page.ensures.plan c.page.ensures.request paged.state in
    let report = report_of_page c.args.listing.now c.args.count _ _ _ (c.as_slice.ensures.value ∙ paged.routes) c.emitted-first_rank.ensures.count (c.more.ensures ∙ left) in
    let (failure, is, same) = err_from_is_err_and c.from_residual-in_err-send_report.result c.from_residual-in_err-send_report.ensures.1 in
    rw (is, same) (inl (rw report at (c.in_err-send_report.ensures).text, refl))

pub returns-in_err-send_session : goal.returns-in_err-send_session
returns-in_err-send_session g c =
    let paged = c.in_ok-routes.ensures {u = tt} in
    let left = left_after_page c.args.listing.now c.page.new.self c.args.count c.page.ensures.plan c.page.ensures.request paged.state in
    let report = report_of_page c.args.listing.now c.args.count _ _ _ (c.as_slice.ensures.value ∙ paged.routes) c.emitted-first_rank.ensures.count (c.more.ensures ∙ left) in
    let sent = c.in_ok-send_report.ensures in
    let text = text_of_page c.args.listing.now c.page.new.self c.args.count c.page.ensures.plan c.page.ensures.request paged.state in
    let (failure, is, same) = err_from_is_err_and c.from_residual-in_err-send_session.result c.from_residual-in_err-send_session.ensures.1 in
    rw (is, same) (inr (refl, (rw report at sent.text, sent.flushed), rw text at (c.in_err-send_session.ensures).text))
