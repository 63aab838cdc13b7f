use Rattle.std.proofs.Common.{◌<◌, length, ap, arith}
use Rattle.sabr_search.proofs.AnswerLemmas.CachedAnswers.{on_way_first, on_way_more}
use Rattle.sabr_search.proofs.early.answers.Answer.leads.Goals as goal

pub loop-place-init : goal.loop-place-init
loop-place-init g c =
    let task = c.args.task.now in
    rw c.beginning-from.ensures (on_way_first task c.requires.task c.requires.goal c.args.self.now c.requires.answer c.requires.node c.requires.same c.args.delivery c.requires.way)

pub loop-place-preserved : goal.loop-place-preserved
loop-place-preserved g c =
    let task = c.args.task.now in
    let way = c.args.self.now.lists.way in
    let i = c.loop-place.place in
    let within : i < length way = omega (arith, c.loop-place-test.true, ap length c.way-way.ensures) in
    on_way_more task c.requires.task way i c.loop-place.from.node c.loop-place.from.at within c.loop-place.invariant c.in-Some.next (rw c.way-way.ensures at c.in-Some.ensures.some)
