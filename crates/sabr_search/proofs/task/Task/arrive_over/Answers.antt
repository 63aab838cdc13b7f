use Rattle.std.proofs.Common.{inl, inr, sym, ◌∙◌, arith}
use Rattle.std.proofs.lemmas.Option.{slice_get_within}
use Rattle.std.proofs.lemmas.Bool.{cases_lt}
use Rattle.sabr_search.proofs.LinkLemmas.PlanFacts.{hop_arrives}
use Rattle.sabr_search.proofs.ForwardLemmas.Forward.{step_of_hop, last_or_before}
use Rattle.sabr_search.proofs.LinkLemmas.OverLinks.{looked, none_ended, none_excluded, late_over, ruled_out, pass_takes, step_at, step_over}
use Rattle.sabr_search.proofs.task.Task.arrive_over.Goals as goal
use Rattle.sabr_search.proofs.task.Task.arrive_over.Goals.{in-Some+else-arrives_no_sooner, in_default}
use Rattle.sabr_search.proofs.WayLemmas.RoutesAndWays.{same_some}

pub returns-then-rules_out-clause-full : goal.returns-then-rules_out-clause-full
returns-then-rules_out-clause-full g c = λ n w b has s.
    ruled_out c.args.self.now c.requires.task c.args.link.from c.args.link.to c.args.link.passes.now c.requires.link.0 c.args.link.bounds c.requires.link.1 c.args.at c.args.before (c.rules_out.ensures.ruled_out c.if-rules_out.true) n c.args.at w b has (omega arith) s

pub loop-place-init : goal.loop-place-init
loop-place-init g c = record {
  within = c.first_unended-place.ensures.within;
  counted = omega arith;
  looked = omega arith;
  some_looks = λ less. absurd (omega (arith, less));
  later = omega (arith, c.rules_out.ensures.early c.if-rules_out.false);
  upper = omega arith;
  sound = λ less. absurd (omega (arith, less));
  full = λ k x w b less at s. absurd (none_ended c.args.self.now c.requires.task c.args.link.from c.args.link.to c.args.link.passes.now c.requires.link.0 c.args.at k x w b at (c.first_unended-place.ensures.ended k x less at) s);
}

pub returns-then-comes_late-clause-full : goal.returns-then-comes_late-clause-full
returns-then-comes_late-clause-full g c = λ n w b has s.
    let task = c.args.self.now in
    let here = looked c.args.link.passes.now c.loop-place.place c.look-pass.result c.loop-place-test.true c.look-pass.ensures.same in
    let step = step_over task c.args.link.passes.now n c.args.link.from c.args.at w b has s in
    elim (cases_lt has.0 c.loop-place.place) [
      | inl before ↦ c.loop-place.invariant.full has.0 has.1 w b before has.2 step
      | inr behind ↦
          late_over task c.requires.task c.args.link.from c.args.link.to c.args.link.passes.now c.requires.link.0 c.args.at c.loop-place.earliest c.loop-place.place c.look-pass.result here
          (c.comes_late.ensures c.if-comes_late.true) has.0 has.1 w b behind has.2 step
    ]

pub hop_over-hop-requires-clause-pass : goal.hop_over-hop-requires-clause-pass
hop_over-hop-requires-clause-pass g c =
    let here = looked c.args.link.passes.now c.loop-place.place c.look-pass.result c.loop-place-test.true c.look-pass.ensures.same in
    (c.args.link.from, c.requires.link.0.each c.loop-place.place c.look-pass.result here)

pub loop-place-preserved-then-excluded-gt0 : goal.loop-place-preserved-then-excluded-gt0
loop-place-preserved-then-excluded-gt0 g c =
    let task = c.args.self.now in
    let here = looked c.args.link.passes.now c.loop-place.place c.look-pass.result c.loop-place-test.true c.look-pass.ensures.same in
    let so_far = c.loop-place.invariant in
    record {
      within = omega (arith, c.loop-place-test.true);
      counted = omega (arith, so_far.counted, c.look-pass.ensures.counted);
      looked = omega (arith, so_far.looked, c.look-pass.ensures.counted);
      some_looks = λ less. omega (arith, so_far.looked, c.look-pass.ensures.counted);
      later = so_far.later;
      upper = so_far.upper;
      sound = so_far.sound;
      full = λ k x w b less at s. elim (cases_lt k c.loop-place.place) [
        | inl before ↦ so_far.full k x w b before at s
        | inr behind ↦ absurd (none_excluded task c.requires.task c.args.link.from c.args.link.to c.args.link.passes.now c.requires.link.0 c.args.at c.loop-place.place k c.excluded_from-excluded.result c.look-pass.result x w b here behind (omega (arith, less)) at c.excluded_from-excluded.ensures.in_row c.excluded_from-excluded.ensures.some s)
      ];
    }

pub loop-place-preserved : goal.loop-place-preserved
loop-place-preserved g c =
    let task = c.args.self.now in
    let u = c.args.link.from in
    let t = c.args.at in
    let here = looked c.args.link.passes.now c.loop-place.place c.look-pass.result c.loop-place-test.true c.look-pass.ensures.same in
    let so_far = c.loop-place.invariant in
    let hop = c.hop_over-hop.result in
    let is_hop = c.hop_over-hop.ensures.value in
    elim c.match-arrive_before.branch [
      | in-Some+else-arrives_no_sooner z ↦
          (let got = z.in-Some.ensures.some in
          rw z.earliest-is (record {
            within = omega (arith, c.loop-place-test.true);
            counted = omega (arith, so_far.counted, c.look-pass.ensures.counted);
            looked = omega (arith, so_far.looked, c.look-pass.ensures.counted);
            some_looks = λ less. omega (arith, so_far.looked, c.look-pass.ensures.counted);
            later = omega (arith, (hop_arrives task.request.margin t z.in-Some.arrival hop got.0).sum);
            upper = omega (arith, so_far.upper, got.1);
            sound = λ less open'.
                (c.look-pass.result.number, pass_takes task c.requires.task u c.args.link.to t c.look-pass.result z.in-Some.arrival hop (c.requires.link.0.each c.loop-place.place c.look-pass.result here) c.hop_over-hop.ensures.receiver is_hop open' (c.excluded_from-excluded.ensures.none (omega (arith, c.if-excluded-gt0.false))) got.0);
            full = λ k x w b less at s. elim (last_or_before k c.loop-place.place less) [
              | inl before ↦ omega (arith, so_far.full k x w b before at s, got.1)
              | inr same ↦
                  (let step = step_of_hop task c.requires.task c.look-pass.result.number hop is_hop u t w b (step_at task c.args.link.passes.now u t c.loop-place.place k c.look-pass.result x w b here at same s) in
                  omega (arith, same_some (sym got.0 ∙ step.1)))
            ];
          }))
      | in_default z ↦
          rw z.earliest-is (record {
            within = omega (arith, c.loop-place-test.true);
            counted = omega (arith, so_far.counted, c.look-pass.ensures.counted);
            looked = omega (arith, so_far.looked, c.look-pass.ensures.counted);
            some_looks = λ less. omega (arith, so_far.looked, c.look-pass.ensures.counted);
            later = so_far.later;
            upper = so_far.upper;
            sound = so_far.sound;
            full = λ k x w b less at s. elim (last_or_before k c.loop-place.place less) [
              | inl before ↦ so_far.full k x w b before at s
              | inr same ↦
                  (let step = step_of_hop task c.requires.task c.look-pass.result.number hop is_hop u t w b (step_at task c.args.link.passes.now u t c.loop-place.place k c.look-pass.result x w b here at same s) in
                  z.in_default.ensures.none b step.1)
            ];
          })
    ]

pub returns-then-arrives_no_sooner-clause-sound : goal.returns-then-arrives_no_sooner-clause-sound
returns-then-arrives_no_sooner-clause-sound g c = λ less open'.
    let task = c.args.self.now in
    let here = looked c.args.link.passes.now c.loop-place.place c.look-pass.result c.loop-place-test.true c.look-pass.ensures.same in
    let got = c.in-Some.ensures.some in (
      c.look-pass.result.number,
      pass_takes task c.requires.task c.args.link.from c.args.link.to c.args.at c.look-pass.result c.in-Some.arrival c.hop_over-hop.result (c.requires.link.0.each c.loop-place.place c.look-pass.result here) c.hop_over-hop.ensures.receiver c.hop_over-hop.ensures.value open' (c.excluded_from-excluded.ensures.none (omega (arith, c.if-excluded-gt0.false))) got.0,
    )

pub returns-then-arrives_no_sooner-clause-full : goal.returns-then-arrives_no_sooner-clause-full
returns-then-arrives_no_sooner-clause-full g c = λ n w b has s.
    ruled_out c.args.self.now c.requires.task c.args.link.from c.args.link.to c.args.link.passes.now c.requires.link.0 c.args.link.bounds c.requires.link.1 c.args.at c.in-Some.arrival (inr (c.arrives_no_sooner.ensures.no_sooner c.if-arrives_no_sooner.true)) n c.args.at w b has (omega arith) s

pub returns-clause-full : goal.returns-clause-full
returns-clause-full g c = λ n w b has s.
    c.loop-place.invariant.full has.0 has.1 w b (omega (arith, slice_get_within c.args.link.passes.now has.0 has.1 has.2, c.loop-place-test.false)) has.2 (step_over c.args.self.now c.args.link.passes.now n c.args.link.from c.args.at w b has s)
