use Rattle.std.proofs.Common.{inl, inr, refl, arith}
use Rattle.std.proofs.lemmas.Option.{slice_get_within}
use Rattle.std.proofs.lemmas.Bool.{cases_lt}
use Rattle.sabr_search.proofs.ForwardLemmas.Forward.{step_of_hop, last_or_before}
use Rattle.sabr_search.proofs.LinkLemmas.OverLinks.{looked, none_ended, none_excluded, late_over, ruled_out, pass_takes, step_at, step_over, same_number, at_most_more}
use Rattle.sabr_search.proofs.task.Task.least_over.Goals as goal

pub returns-then-rules_out-clause-full : goal.returns-then-rules_out-clause-full
returns-then-rules_out-clause-full g c = λ n w b has s less.
    absurd (omega (arith, less, ruled_out c.args.self.now c.requires.task c.args.link.from c.args.link.to c.args.link.passes.now c.requires.link.0 c.args.link.bounds c.requires.link.1 c.args.at c.args.before (c.rules_out.ensures.ruled_out c.if-rules_out.true) n c.args.at w b has (omega arith) s))

pub loop-place-init : goal.loop-place-init
loop-place-init g c = record {
  within = c.first_unended-place.ensures.within;
  counted = omega arith;
  looked = omega arith;
  some_looks = inl refl;
  lower = λ n h. h;
  sound = inl refl;
  full = λ k x w b less at s early. absurd (none_ended c.args.self.now c.requires.task c.args.link.from c.args.link.to c.args.link.passes.now c.requires.link.0 c.args.at k x w b at (c.first_unended-place.ensures.ended k x less at) s);
}

pub returns-then-comes_late-clause-full : goal.returns-then-comes_late-clause-full
returns-then-comes_late-clause-full g c = λ n w b has s early.
    let task = c.args.self.now in
    let here = looked c.args.link.passes.now c.loop-place.place c.look-pass.result c.loop-place-test.true c.look-pass.ensures.same in
    let step = step_over task c.args.link.passes.now n c.args.link.from c.args.at w b has s in
    rw (← has.3) (elim (cases_lt has.0 c.loop-place.place) [
      | inl before ↦ c.loop-place.invariant.full has.0 has.1 w b before has.2 step early
      | inr behind ↦
          (let deadline = late_over task c.requires.task c.args.link.from c.args.link.to c.args.link.passes.now c.requires.link.0 c.args.at c.args.before c.loop-place.place c.look-pass.result here
          (c.comes_late.ensures c.if-comes_late.true) has.0 has.1 w b behind has.2 step in
          absurd (omega (arith, deadline, early)))
    ])

pub returns-then-is_at_most-clause-full : goal.returns-then-is_at_most-clause-full
returns-then-is_at_most-clause-full g c = λ n w b has s early.
    let task = c.args.self.now in
    let here = looked c.args.link.passes.now c.loop-place.place c.look-pass.result c.loop-place-test.true c.look-pass.ensures.same in
    let step = step_over task c.args.link.passes.now n c.args.link.from c.args.at w b has s in
    rw (← has.3) (elim (cases_lt has.0 c.loop-place.place) [
      | inl before ↦ c.loop-place.invariant.full has.0 has.1 w b before has.2 step early
      | inr behind ↦ at_most_more c.loop-place.chosen c.look-pass.result.least_number_after has.1.number (c.requires.link.0.kept c.loop-place.place has.0 c.look-pass.result has.1 behind here has.2).number_after (rw c.pass.ensures at (c.is_at_most.ensures.at_most c.if-is_at_most.true))
    ])

pub hop_over-hop-requires-clause-pass : goal.hop_over-hop-requires-clause-pass
hop_over-hop-requires-clause-pass g c =
    let here = looked c.args.link.passes.now c.loop-place.place c.look-pass.result c.loop-place-test.true c.look-pass.ensures.same in
    (c.args.link.from, c.requires.link.0.each c.loop-place.place c.look-pass.result here)

pub loop-place-preserved-then-is_at_most-2 : goal.loop-place-preserved-then-is_at_most-2
loop-place-preserved-then-is_at_most-2 g c =
    let here = looked c.args.link.passes.now c.loop-place.place c.look-pass.result c.loop-place-test.true c.look-pass.ensures.same in
    let so_far = c.loop-place.invariant in
    record {
      within = omega (arith, c.loop-place-test.true);
      counted = omega (arith, so_far.counted, c.look-pass.ensures.counted);
      looked = omega (arith, so_far.looked, c.look-pass.ensures.counted);
      some_looks = inr (omega (arith, so_far.looked, c.look-pass.ensures.counted));
      lower = so_far.lower;
      sound = so_far.sound;
      full = λ k x w b less at s early. elim (last_or_before k c.loop-place.place less) [
        | inl before ↦ so_far.full k x w b before at s early
        | inr same ↦ rw (← same_number c.args.link.passes.now c.loop-place.place k c.look-pass.result x here at same) (rw c.number-number.ensures at (c.is_at_most-in-loop-place.ensures.at_most c.if-is_at_most-2.true))
      ];
    }

pub loop-place-preserved-then-excluded-gt0 : goal.loop-place-preserved-then-excluded-gt0
loop-place-preserved-then-excluded-gt0 g c =
    let task = c.args.self.now in
    let here = looked c.args.link.passes.now c.loop-place.place c.look-pass.result c.loop-place-test.true c.look-pass.ensures.same in
    let so_far = c.loop-place.invariant in
    record {
      within = omega (arith, c.loop-place-test.true);
      counted = omega (arith, so_far.counted, c.look-pass.ensures.counted);
      looked = omega (arith, so_far.looked, c.look-pass.ensures.counted);
      some_looks = inr (omega (arith, so_far.looked, c.look-pass.ensures.counted));
      lower = so_far.lower;
      sound = so_far.sound;
      full = λ k x w b less at s early. elim (cases_lt k c.loop-place.place) [
        | inl before ↦ so_far.full k x w b before at s early
        | inr behind ↦ absurd (none_excluded task c.requires.task c.args.link.from c.args.link.to c.args.link.passes.now c.requires.link.0 c.args.at c.loop-place.place k c.excluded_from-excluded.result c.look-pass.result x w b here behind (omega (arith, less)) at c.excluded_from-excluded.ensures.in_row c.excluded_from-excluded.ensures.some s)
      ];
    }

pub loop-place-preserved-in-Some : goal.loop-place-preserved-in-Some
loop-place-preserved-in-Some g c =
    let task = c.args.self.now in
    let u = c.args.link.from in
    let t = c.args.at in
    let here = looked c.args.link.passes.now c.loop-place.place c.look-pass.result c.loop-place-test.true c.look-pass.ensures.same in
    let so_far = c.loop-place.invariant in
    let hop = c.hop_over-hop.result in
    let got = c.in-Some.ensures.some in
    record {
      within = omega (arith, c.loop-place-test.true);
      counted = omega (arith, so_far.counted, c.look-pass.ensures.counted);
      looked = omega (arith, so_far.looked, c.look-pass.ensures.counted);
      some_looks = inr (omega (arith, so_far.looked, c.look-pass.ensures.counted));
      lower = λ n h. c.is_at_most-in-loop-place.ensures.above c.if-is_at_most-2.false n (so_far.lower n h);
      sound = rw c.number-number.ensures (inr (refl, got.1, λ open'. pass_takes task c.requires.task u c.args.link.to t c.look-pass.result c.in-Some.arrival hop (c.requires.link.0.each c.loop-place.place c.look-pass.result here) c.hop_over-hop.ensures.receiver c.hop_over-hop.ensures.value open' (c.excluded_from-excluded.ensures.none (omega (arith, c.if-excluded-gt0.false))) got.0));
      full = λ k x w b less at s early. elim (last_or_before k c.loop-place.place less) [
        | inl before ↦ c.is_at_most-in-loop-place.ensures.above c.if-is_at_most-2.false x.number (so_far.full k x w b before at s early)
        | inr same ↦ omega (arith, same_number c.args.link.passes.now c.loop-place.place k c.look-pass.result x here at same, c.number-number.ensures)
      ];
    }

pub loop-place-preserved : goal.loop-place-preserved
loop-place-preserved g c =
    let task = c.args.self.now in
    let u = c.args.link.from in
    let t = c.args.at in
    let here = looked c.args.link.passes.now c.loop-place.place c.look-pass.result c.loop-place-test.true c.look-pass.ensures.same in
    let so_far = c.loop-place.invariant in
    let hop = c.hop_over-hop.result in
    record {
      within = omega (arith, c.loop-place-test.true);
      counted = omega (arith, so_far.counted, c.look-pass.ensures.counted);
      looked = omega (arith, so_far.looked, c.look-pass.ensures.counted);
      some_looks = inr (omega (arith, so_far.looked, c.look-pass.ensures.counted));
      lower = so_far.lower;
      sound = so_far.sound;
      full = λ k x w b less at s early. elim (last_or_before k c.loop-place.place less) [
        | inl before ↦ so_far.full k x w b before at s early
        | inr same ↦
            (let step = step_of_hop task c.requires.task c.look-pass.result.number hop c.hop_over-hop.ensures.value u t w b (step_at task c.args.link.passes.now u t c.loop-place.place k c.look-pass.result x w b here at same s) in
            absurd (omega (arith, early, c.in_default.ensures.none b step.1)))
      ];
    }

pub returns-clause-full : goal.returns-clause-full
returns-clause-full g c = λ n w b has s early.
    rw (← has.3) (c.loop-place.invariant.full has.0 has.1 w b (omega (arith, slice_get_within c.args.link.passes.now has.0 has.1 has.2, c.loop-place-test.false)) has.2 (step_over c.args.self.now c.args.link.passes.now n c.args.link.from c.args.at w b has s) early)

pub returns-then-comes_late-clause-some_looks : goal.returns-then-comes_late-clause-some_looks
returns-then-comes_late-clause-some_looks g c = inr (omega (arith, c.loop-place.invariant.looked, c.look-pass.ensures.counted))

pub returns-then-is_at_most-clause-some_looks : goal.returns-then-is_at_most-clause-some_looks
returns-then-is_at_most-clause-some_looks g c = inr (omega (arith, c.loop-place.invariant.looked, c.look-pass.ensures.counted))
