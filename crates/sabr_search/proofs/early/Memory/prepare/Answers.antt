use Rattle.std.proofs.Common.{refl}
use Rattle.sabr_search.proofs.WayLemmas.Prefixes.{empty_fits}
use Rattle.sabr_search.proofs.early.Memory.prepare.Goals.{then-are_bounds_due, else-are_bounds_due, then-are_deadlines_due+in_ok-make, else-are_deadlines_due}
use Rattle.sabr_search.proofs.early.Memory.prepare.Goals as goal

pub go-requires-clause-fits : goal.go-requires-clause-fits
go-requires-clause-fits g c = empty_fits c.plan-plan.result.now.plan c.request-request.result.now _ refl

pub find-requires-clause-asked : goal.find-requires-clause-asked
find-requires-clause-asked g c =
    let both = c.in_ok-source.ensures.entered _ in
    rw c.new-whole_graph.ensures (record { task_is = both.0; behind = both.1; fits = empty_fits _ _ _ refl })

pub make-requires-clause-asked : goal.make-requires-clause-asked
make-requires-clause-asked g c =
    let both = c.in_ok-source.ensures.entered _ in
    rw c.new-whole_graph.ensures (record { task_is = both.0; behind = both.1; fits = empty_fits _ _ _ refl })

pub make-requires-clause-soon : goal.make-requires-clause-soon
make-requires-clause-soon g c =
    rw c.deref.ensures.value (elim c.if-are_bounds_due.branch [
      | then-are_bounds_due w ↦ rw w.self-is w.find.ensures.soon
      | else-are_bounds_due w ↦ rw (w.self-is, c.new-whole_graph.ensures, c.plan-plan.ensures, c.request-request.ensures) (c.is_due-are_bounds_due.ensures _ _ c.requires.memory.0).soon
    ])

pub returns-in_err-make : goal.returns-in_err-make
returns-in_err-make g c =
    let deadlines = rw (c.new-whole_graph.ensures, c.plan-plan.ensures, c.request-request.ensures) at c.make.ensures in
    elim c.if-are_bounds_due.branch [
      | then-are_bounds_due w ↦ rw w.self-is (rw (c.new-whole_graph.ensures, c.plan-plan.ensures, c.request-request.ensures) at w.find.ensures, deadlines, c.requires.memory.2)
      | else-are_bounds_due w ↦ rw w.self-is (c.is_due-are_bounds_due.ensures _ _ c.requires.memory.0, deadlines, c.requires.memory.2)
    ]

pub returns : goal.returns
returns g c =
    elim c.if-are_deadlines_due.branch [
      | then-are_deadlines_due+in_ok-make w ↦
          let deadlines = rw (c.new-whole_graph.ensures, c.plan-plan.ensures, c.request-request.ensures) at w.make.ensures in
          rw w.self-is (elim c.if-are_bounds_due.branch [
            | then-are_bounds_due v ↦ rw v.self-is (rw (c.new-whole_graph.ensures, c.plan-plan.ensures, c.request-request.ensures) at v.find.ensures, deadlines, c.requires.memory.2)
            | else-are_bounds_due v ↦ rw v.self-is (c.is_due-are_bounds_due.ensures _ _ c.requires.memory.0, deadlines, c.requires.memory.2)
          ])
      | else-are_deadlines_due w ↦
          let deadlines = c.is_due-are_deadlines_due.ensures _ _ c.requires.memory.1 in
          rw w.self-is (elim c.if-are_bounds_due.branch [
            | then-are_bounds_due v ↦ rw v.self-is (rw (c.new-whole_graph.ensures, c.plan-plan.ensures, c.request-request.ensures) at v.find.ensures, deadlines, c.requires.memory.2)
            | else-are_bounds_due v ↦ rw v.self-is (c.is_due-are_bounds_due.ensures _ _ c.requires.memory.0, deadlines, c.requires.memory.2)
          ])
    ]
