use Rattle.std.proofs.Common.{◌≡◌, ◌+◌, slice_index, arith}
use Rattle.std.proofs.lemmas.List.{get_or-set_same}
use Rattle.sabr_search.proofs.ForwardLemmas.LayerEntries.{read_at}
use Rattle.sabr_search.proofs.BackwardLemmas.LateLists.{sound_back}
use Rattle.sabr_search.proofs.BackwardLemmas.Relaxing.{late_rises}
use Rattle.sabr_search.proofs.WholeLemmas.Chained.{AreNoted, grown_none, head_within, late_noted}
use Rattle.sabr_search.specs.declared.backward.deadlines.Deadlines.{Deadlines}
use Rattle.sabr_search.specs.layers.Deadlines.{head_of}
use Rattle.sabr_search.specs.layers.Late.{IsNotedDeadline}
use Rattle.sabr_search.proofs.backward.deadlines.Deadlines.take_sender.Given.{Over}
use Rattle.sabr_search.proofs.backward.deadlines.Deadlines.take_sender.Goals.{After-index-begin}
use Rattle.sabr_search.proofs.backward.deadlines.Deadlines.take_sender.Goals as goal

pub returns-then-last-max-clause-in_time : goal.returns-then-last-max-clause-in_time
returns-then-last-max-clause-in_time g c = λ n t w b has s less permitted other soon.
    let latest = read_at c.args.self.now.deadline.items c.args.from.node c.index-latest.result.now (omega (arith, c.requires.node, c.requires.growing.lists.many)) c.index-latest.ensures in
    omega (arith, c.leave_over-last.ensures.full n t w b has s less, latest, soon, c.at.ensures, c.max.ensures, c.if-last-max.true)

pub note_deadline-requires-clause-placed : goal.note_deadline-requires-clause-placed
note_deadline-requires-clause-placed g c = head_within c.args.aim.now.task.now _ _ c.args.self.now.deadline.items c.args.self.now.place.items c.args.self.now.entries.items c.requires.growing.lists c.args.from.node c.requires.node

-- the lists with the sender noted
noted : (g : Over) (c : After-index-begin g) (new : Deadlines g.row.A.Denot) →
    IsNotedDeadline (head_of c.args.self.now.deadline.items c.args.self.now.place.items c.args.from.node) c.index-begin.result.now c.args.from.node c.leave_over-last.result c.args.self.now new →
    AreNoted c.args.aim.now.task.now (slice_index c.args.self.now.ends.items c.args.left) (slice_index c.args.self.now.ends.items (c.args.left + 1)) c.args.from.node c.leave_over-last.result c.args.self.now new
noted g c new how =
    let task = c.args.aim.now.task.now in
    let own = c.args.self.now in
    let latest = read_at own.deadline.items c.args.from.node c.index-latest.result.now (omega (arith, c.requires.node, c.requires.growing.lists.many)) c.index-latest.ensures in
    let begin : c.index-begin.result.now ≡ slice_index own.ends.items (c.args.left + 1) = read_at own.ends.items (c.args.left + 1) c.index-begin.result.now c.requires.growing.bounded c.index-begin.ensures in
    late_noted task _ _ own new c.requires.growing.lists c.requires.growing.linked c.args.from.node c.leave_over-last.result c.requires.node c.requires.permitted c.requires.other (omega (arith, latest, c.max.ensures, c.if-last-max.false))
    (sound_back task c.requires.growing.task c.args.from.node c.args.to.node c.index-latest.result.now c.leave_over-last.result c.args.to.before _ _ own.entries.items (λ t from less. c.leave_over-last.ensures.sound t from less) (omega (arith, c.max.ensures, c.if-last-max.false)) c.requires.receiver c.requires.given)
    (rw begin at how)

pub returns-then-last-max-clause-grown : goal.returns-then-last-max-clause-grown
returns-then-last-max-clause-grown g c = grown_none _ _ _ c.requires.growing

pub returns-clause-grown : goal.returns-clause-grown
returns-clause-grown g c =
    let new = c.in_ok-note_deadline.ensures in
    let noted = noted g (goal.at.returns-clause-grown g c).After-index-begin c.note_deadline.new.self new.noted in
    let latest = read_at c.args.self.now.deadline.items c.args.from.node c.index-latest.result.now (omega (arith, c.requires.node, c.requires.growing.lists.many)) c.index-latest.ensures in
    record {
      growing = record {
        task = c.requires.growing.task;
        arrivals = c.requires.growing.arrivals;
        bounded = rw c.note_deadline.ensures.ends c.requires.growing.bounded;
        lists = rw (c.note_deadline.ensures.ends, new.deadline) noted.lists;
        linked = noted.linked;
      };
      rises = rw new.deadline (late_rises c.args.self.now.deadline.items c.args.from.node c.leave_over-last.result (omega (arith, c.requires.node, c.requires.growing.lists.many)) (omega (arith, latest, c.max.ensures, c.if-last-max.false)));
      ends = c.note_deadline.ensures.ends;
      before = noted.kept;
    }

pub returns-clause-in_time : goal.returns-clause-in_time
returns-clause-in_time g c = λ n t w b has s less permitted other soon.
    rw c.in_ok-note_deadline.ensures.deadline (omega (arith, get_or-set_same c.args.self.now.deadline.items c.args.from.node c.leave_over-last.result 0 (omega (arith, c.requires.node, c.requires.growing.lists.many)), c.leave_over-last.ensures.full n t w b has s less))
