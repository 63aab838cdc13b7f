use Rattle.std.proofs.Common.{arith}
use Rattle.sabr_search.proofs.ForwardLemmas.Forward.{known_later, known_old}
use Rattle.sabr_search.proofs.LinkLemmas.OverLinks.{over_pass, step_over}
use Rattle.sabr_search.proofs.forward.settling.Settling.take_link.Goals as goal

pub returns-then-at-before-clause-known : goal.returns-then-at-before-clause-known
returns-then-at-before-clause-known g c = λ n w x has s.
    let task = c.args.forward.now.task.now in
    let u = c.args.link.from in
    let t = c.args.event.at in
    let over = over_pass task c.requires.task u c.args.link.to t has.1 w x (c.requires.link.0.each has.0 has.1 has.2) (step_over task c.args.link.passes.now n u t w x has s) in
    rw over.receiver (known_old task.goal c.args.self.now.arrival.items _ c.args.link.to x (omega (arith, c.requires.state.goal_late)) (omega (arith, rw c.deref.ensures.value at c.news_before-before.ensures, c.if-at-before.true, c.arrive_over-at.ensures.full n w x has s)))

pub returns-clause-known : goal.returns-clause-known
returns-clause-known g c = λ n w x has s.
    let task = c.args.forward.now.task.now in
    let u = c.args.link.from in
    let t = c.args.event.at in
    let over = over_pass task c.requires.task u c.args.link.to t has.1 w x (c.requires.link.0.each has.0 has.1 has.2) (step_over task c.args.link.passes.now n u t w x has s) in
    rw over.receiver (known_later task.goal _ _ c.args.link.to c.arrive_over-at.result x (c.arrive_over-at.ensures.full n w x has s) c.in_ok-earliest.ensures.known)
