use Rattle.std.proofs.Common.{inl, inr, slice_index, arith}
use Rattle.std.proofs.lemmas.Bool.{cases_lt, not-true}
use Rattle.sabr_search.proofs.LinkLemmas.OverLinks.{ruled_out}
use Rattle.sabr_search.proofs.ForwardLemmas.LayerEntries.{read_at}
use Rattle.sabr_search.proofs.backward.deadlines.Deadlines.brings_nothing.Goals as goal

pub returns-then-rules_out-clause-in_time : goal.returns-then-rules_out-clause-in_time
returns-then-rules_out-clause-in_time g c = λ in_time to passes link n t w b has s less permitted other soon.
    let deadline = read_at c.args.self.now.deadline.items c.args.head.node c.index-deadline.result.now (omega (arith, c.requires.many, c.requires.node)) c.index-deadline.ensures in
    elim (cases_lt t (slice_index c.args.self.now.deadline.items c.args.head.node)) [
      | inl before ↦ before
      | inr behind ↦
          absurd (omega (arith, less, ruled_out c.args.aim.now.task.now c.requires.task c.args.head.node to passes link.0 c.args.head.bounds link.1 c.index-deadline.result.now c.args.before (c.rules_out.ensures.ruled_out c.if-rules_out.true) n t w b has (omega (arith, behind, deadline)) s))
    ]

pub returns-then-rules_out-2-clause-in_time : goal.returns-then-rules_out-2-clause-in_time
returns-then-rules_out-2-clause-in_time g c = λ in_time to passes link n t w b has s less permitted other soon.
    absurd (omega (arith, less, ruled_out c.args.aim.now.task.now c.requires.task c.args.head.node to passes link.0 c.args.head.bounds link.1 c.at-since.result c.args.before (c.rules_out-2.ensures.ruled_out c.if-rules_out-2.true) n t w b has (omega (arith, soon, c.at-since.ensures)) s))

pub returns-clause-in_time : goal.returns-clause-in_time
returns-clause-in_time g c = λ in_time to passes link n t w b has s less permitted other soon. absurd (other (c.is_between.ensures.closed (not-true c.is_between.result in_time) permitted))
