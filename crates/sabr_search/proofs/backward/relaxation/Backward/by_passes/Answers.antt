use Rattle.std.proofs.Common.{◌≡◌, inl, inr, sym, ◌∙◌, arith}
use Rattle.std.proofs.lemmas.Bool.{cases_lt}
use Rattle.sabr_search.proofs.LinkLemmas.OverLinks.{ruled_out}
use Rattle.sabr_search.proofs.WayLemmas.RoutesAndWays.{same_some}
use Rattle.sabr_search.proofs.backward.relaxation.Backward.by_passes.Goals as goal

pub returns-then-rules_out : goal.returns-then-rules_out
returns-then-rules_out g c = λ s at n t b has step open' other less.
    let task = c.args.self.now.task.now in
    let here = c.head-head.ensures in
    let head = c.head-head.result in
    let is : s ≡ record { sender = head.node; passes = here.0 } = same_some (sym at ∙ here.1) in
    let link = c.requires.senders.each c.args.place _ here.1 in
    elim (cases_lt t c.args.latest) [
      | inl early ↦ early
      | inr late ↦
          absurd (omega (arith, less, ruled_out task c.requires.task head.node c.args.to.node here.0 link head.bounds here.2 c.args.latest c.args.to.before (c.rules_out.ensures.ruled_out c.if-rules_out.true) n t c.args.to.node b (rw is at has) late (rw is at step)))
    ]

pub returns-then-not-is_between : goal.returns-then-not-is_between
returns-then-not-is_between g c = λ s at n t b has step open' other less.
    let is : s ≡ record { sender = c.head-head.result.node; passes = c.head-head.ensures.0 } = same_some (sym at ∙ c.head-head.ensures.1) in
    absurd (other (rw is (c.is_between.ensures.closed c.if-not-is_between.true (rw is at open'))))

pub returns : goal.returns
returns g c = λ s at n t b has step open' other less.
    let is : s ≡ record { sender = c.at-from.result.node; passes = c.at-from.result.passes.now } = same_some (sym at ∙ c.at-from.ensures.link) in
    c.leave_over.ensures.full n t c.args.to.node b (rw is at has) (rw is at step) less
