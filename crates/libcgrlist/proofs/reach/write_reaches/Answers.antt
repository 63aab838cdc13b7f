use Rattle.std.proofs.Common.{◌≡◌, ◌<◌, drop, get_or, length, length-set, arith, subst}
use Rattle.libcgrlist.proofs.AnswerLemmas.{each_more, rest_more}
use Rattle.libcgrlist.specs.Answers.{IsReachOf, asked_to, unreached, asked_request}
use Rattle.libcgrlist.proofs.reach.write_reaches.Goals as goal

pub loop-place-preserved : goal.loop-place-preserved
loop-place-preserved c =
    let p = c.args.index.now.plan in
    let d = c.args.destinations.now in
    let count = c.loop-place.invariant.count in
    let some = c.loop-place-test.true in
    let room = c.requires in
    let among : c.loop-place.place < length c.args.reaches.now = omega (arith, some, room) in
    let within : c.loop-place.place < length c.loop-place.reaches = omega (arith, count, among) in
    let one = subst (λ asked. IsReachOf p asked c.asked_reach.result) c.request.ensures c.asked_reach.ensures in record {
      count = simp length-set count;
      each = each_more (λ k row. IsReachOf p (asked_request (asked_to d.asked.now (get_or d.to.now k 0)) d.avoid.now) row) c.loop-place.reaches c.loop-place.place c.asked_reach.result (unreached 0) within c.loop-place.invariant.each one;
      rest = rest_more c.loop-place.reaches c.args.reaches.now c.loop-place.place c.asked_reach.result (unreached 0) within among c.loop-place.invariant.rest;
    }

pub returns : goal.returns
returns c =
    let all : c.loop-place.place ≡ length c.args.destinations.now.to.now = omega (arith, c.loop-place-test.false, c.loop-place.auto.place-end) in record {
      count = c.loop-place.invariant.count;
      each = λ k below. c.loop-place.invariant.each k (omega (arith, all, below));
      rest = subst (λ n. drop n c.loop-place.reaches ≡ drop n c.args.reaches.now) all c.loop-place.invariant.rest;
    }
