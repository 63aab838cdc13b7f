use Rattle.std.proofs.Common.{◌-◌, inl, inr, arith}
use Rattle.std.proofs.lemmas.Bool.{cases_lt, cases_eq}
use Rattle.sabr_search.proofs.LinkLemmas.PlanFacts.{hop_at_window}
use Rattle.sabr_search.proofs.ForwardLemmas.Forward.{step_of_hop}
use Rattle.sabr_search.proofs.LinkLemmas.OverLinks.{looked, starts_late, none_later, pass_takes, step_at, step_over}
use Rattle.sabr_search.proofs.task.Task.leave_over.Goals as goal

pub loop-back-init : goal.loop-back-init
loop-back-init g c = record {
  counted = omega arith;
  looked = omega arith;
  some_looks = λ later. absurd (omega (arith, later));
  lower = omega arith;
  sound = λ t from less. absurd (omega (arith, from, less));
  full = λ k x t w b le at s less.
      absurd (omega (arith, less, c.begun-end.ensures.late k x (omega (arith, le)) at, (starts_late c.args.self.now c.requires.task c.args.link.from c.args.link.to c.args.link.passes.now c.requires.link.0 t k x w b at s).0));
}

pub returns-then-leaves_no_later-clause-full : goal.returns-then-leaves_no_later-clause-full
returns-then-leaves_no_later-clause-full g c = λ n t w b has s less.
    let task = c.args.self.now in
    let i = c.begun-end.result - 1 - c.loop-back.back in
    let here = looked c.args.link.passes.now i c.look-pass.result (omega (arith, c.loop-back-test.true, c.begun-end.ensures.within)) c.look-pass.ensures.same in
    let step = step_over task c.args.link.passes.now n c.args.link.from t w b has s in
    elim (cases_lt i has.0) [
      | inl above ↦ c.loop-back.invariant.full has.0 has.1 t w b (omega (arith, above, c.loop-back-test.true)) has.2 step less
      | inr below ↦
          none_later task c.requires.task c.args.link.from c.args.link.to c.args.link.passes.now c.requires.link.0 c.loop-back.last c.args.before i c.look-pass.result here
          (rw c.pass.ensures at (c.leaves_no_later.ensures c.if-leaves_no_later.true)) has.0 has.1 t w b below has.2 step less
    ]

pub hop_over-hop-requires-clause-pass : goal.hop_over-hop-requires-clause-pass
hop_over-hop-requires-clause-pass g c =
    let i = c.begun-end.result - 1 - c.loop-back.back in
    let here = looked c.args.link.passes.now i c.look-pass.result (omega (arith, c.loop-back-test.true, c.begun-end.ensures.within)) c.look-pass.ensures.same in
    (c.args.link.from, c.requires.link.0.each i c.look-pass.result here)

pub leave_before-requires-clause-window : goal.leave_before-requires-clause-window
leave_before-requires-clause-window g c = hop_at_window c.args.self.now c.requires.task _ c.hop_over-hop.result c.hop_over-hop.ensures.value

pub loop-back-preserved : goal.loop-back-preserved
loop-back-preserved g c =
    let task = c.args.self.now in
    let i = c.begun-end.result - 1 - c.loop-back.back in
    let u = c.args.link.from in
    let here = looked c.args.link.passes.now i c.look-pass.result (omega (arith, c.loop-back-test.true, c.begun-end.ensures.within)) c.look-pass.ensures.same in
    let so_far = c.loop-back.invariant in
    let hop = c.hop_over-hop.result in
    let is_hop = c.hop_over-hop.ensures.value in
    record {
      counted = omega (arith, so_far.counted, c.look-pass.ensures.counted);
      looked = omega (arith, so_far.looked, c.look-pass.ensures.counted);
      some_looks = λ later. omega (arith, so_far.looked, c.look-pass.ensures.counted);
      lower = omega (arith, so_far.lower, c.max-last.ensures);
      sound = λ t from less. elim (cases_lt t c.loop-back.last) [
        | inl before ↦ so_far.sound t from before
        | inr behind ↦
            (let sent = c.leave_before.ensures.in_time t (omega (arith, c.max-last.ensures, less, behind)) in
            (sent.0, sent.2, λ open'. (c.look-pass.result.number, pass_takes task c.requires.task u c.args.link.to t c.look-pass.result sent.0 hop (c.requires.link.0.each i c.look-pass.result here) c.hop_over-hop.ensures.receiver is_hop open' (λ same. absurd (c.requires.other same)) sent.1)))
      ];
      full = λ k x t w b le at s less. elim (cases_eq k i) [
        | inl same ↦
            (let step = step_of_hop task c.requires.task c.look-pass.result.number hop is_hop u t w b (step_at task c.args.link.passes.now u t i k c.look-pass.result x w b here at same s) in
            elim (cases_lt t c.leave_before.result) [
              | inl before ↦ omega (arith, c.max-last.ensures, before)
              | inr behind ↦ absurd (omega (arith, less, c.leave_before.ensures.missed t b behind step.1))
            ])
        | inr other ↦ omega (arith, c.max-last.ensures, so_far.full k x t w b (omega (arith, le, other, c.loop-back-test.true)) at s less)
      ];
    }

pub returns-clause-full : goal.returns-clause-full
returns-clause-full g c = λ n t w b has s less.
    c.loop-back.invariant.full has.0 has.1 t w b (omega (arith, c.loop-back-test.false)) has.2 (step_over c.args.self.now c.args.link.passes.now n c.args.link.from t w b has s) less

pub returns-then-leaves_no_later-clause-some_looks : goal.returns-then-leaves_no_later-clause-some_looks
returns-then-leaves_no_later-clause-some_looks g c = λ later. omega (arith, c.loop-back.invariant.looked, c.look-pass.ensures.counted)
