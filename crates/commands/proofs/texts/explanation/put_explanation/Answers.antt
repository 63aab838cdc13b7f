use Rattle.std.proofs.Common.{◌∙◌}
use Rattle.std.proofs.lemmas.Result.{err_from_is_err_and}
use Rattle.sabr_session.specs.Hops.{ListQuestion, hops_left}
use Rattle.sabr_session.proofs.TextLemmas.Gathering.{HasPut-append, StopsIn-after, StopsIn-before}
use Rattle.commands.specs.texts.PlanTexts.{explanation_text}
use Rattle.commands.proofs.Explained.{answered, ending_is, ends_as, ends_in_spelled_time, lines_of}
use Rattle.commands.proofs.texts.explanation.put_explanation.Goals as goal

pub put_ending-requires : goal.put_ending-requires
put_ending-requires g c =
    let q : ListQuestion = record { plan = c.args.plan.now; request = c.args.request.now; contacts = c.args.contacts.now } in
    let ends = ends_as c.put_hops.new.hops.question q c.ending-ending.result (c.in_ok-put_hops.ensures.question ∙ c.new-hops.ensures.question) (record { route = c.ending-ending.ensures.route; delivery = c.ending-ending.ensures.delivery; summary = c.ending-ending.ensures.summary; fault = c.ending-ending.ensures.fault }) in
    ends_in_spelled_time c.args.plan.now.plan c.args.request.now c.args.contacts.now c.ending-ending.result c.rules_hold.ensures c.limits_hold.ensures ends

pub returns-in_err-put_hops-clause-text : goal.returns-in_err-put_hops-clause-text
unfolding explanation_text
returns-in_err-put_hops-clause-text g c =
    let failed = err_from_is_err_and c.from_residual.result c.from_residual.ensures.1 in
    let lines = lines_of c.args.plan.now.plan c.args.request.now c.args.contacts.now (hops_left c.new-hops.result) c.new-hops.ensures.left in
    rw failed.1 (StopsIn-before _ _ (rw lines at c.in_err-put_hops.ensures.lines))

pub returns-in_err-put_ending-clause-text : goal.returns-in_err-put_ending-clause-text
unfolding explanation_text
returns-in_err-put_ending-clause-text g c =
    let failed = err_from_is_err_and c.from_residual-in_err-put_ending.result c.from_residual-in_err-put_ending.ensures.1 in
    let lines = lines_of c.args.plan.now.plan c.args.request.now c.args.contacts.now (hops_left c.new-hops.result) c.new-hops.ensures.left in
    let q : ListQuestion = record { plan = c.args.plan.now; request = c.args.request.now; contacts = c.args.contacts.now } in
    let ends = ends_as c.put_hops.new.hops.question q c.ending-ending.result (c.in_ok-put_hops.ensures.question ∙ c.new-hops.ensures.question) (record { route = c.ending-ending.ensures.route; delivery = c.ending-ending.ensures.delivery; summary = c.ending-ending.ensures.summary; fault = c.ending-ending.ensures.fault }) in
    rw failed.1 (StopsIn-after _ _ (rw lines at c.in_ok-put_hops.ensures.lines) (rw (ending_is c.args.plan.now.plan c.args.request.now c.args.contacts.now c.ending-ending.result ends) at c.in_err-put_ending.ensures))

pub returns-clause-text : goal.returns-clause-text
unfolding explanation_text
returns-clause-text g c =
    let lines = lines_of c.args.plan.now.plan c.args.request.now c.args.contacts.now (hops_left c.new-hops.result) c.new-hops.ensures.left in
    let q : ListQuestion = record { plan = c.args.plan.now; request = c.args.request.now; contacts = c.args.contacts.now } in
    let ends = ends_as c.put_hops.new.hops.question q c.ending-ending.result (c.in_ok-put_hops.ensures.question ∙ c.new-hops.ensures.question) (record { route = c.ending-ending.ensures.route; delivery = c.ending-ending.ensures.delivery; summary = c.ending-ending.ensures.summary; fault = c.ending-ending.ensures.fault }) in
    HasPut-append _ _ (rw lines at c.in_ok-put_hops.ensures.lines) (rw (ending_is c.args.plan.now.plan c.args.request.now c.args.contacts.now c.ending-ending.result ends) at c.in_ok-put_ending.ensures)

pub returns-clause-route : goal.returns-clause-route
returns-clause-route g c =
    let q : ListQuestion = record { plan = c.args.plan.now; request = c.args.request.now; contacts = c.args.contacts.now } in
    let ends = ends_as c.put_hops.new.hops.question q c.ending-ending.result (c.in_ok-put_hops.ensures.question ∙ c.new-hops.ensures.question) (record { route = c.ending-ending.ensures.route; delivery = c.ending-ending.ensures.delivery; summary = c.ending-ending.ensures.summary; fault = c.ending-ending.ensures.fault }) in
    c.is_ok.ensures.value ∙ answered c.args.plan.now.plan c.args.request.now c.args.contacts.now c.ending-ending.result ends
