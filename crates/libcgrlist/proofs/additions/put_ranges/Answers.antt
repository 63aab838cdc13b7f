use Rattle.std.proofs.Common.{inl, inr, ⊎_elim, arith}
use Rattle.libcgrlist.specs.Additions.{over_ranges, row_put}
use Rattle.libcgrlist.proofs.AdditionLemmas.{put_end, put_more, put_refused}
use Rattle.libcgrlist.proofs.additions.put_ranges.Goals as goal

pub returns-in-Err : goal.returns-in-Err
returns-in-Err c = λ p.
    ⊎_elim (λ m. inl m)
    (λ e. inr (put_refused row_put (over_ranges p c.loop-place.growing) c.args.ranges.now c.loop-place.place c.in-Err.status (record { one = 0; other = 0; start = 0; end = 0; light = 0 }) _ c.loop-place-test.true e (c.loop-place.invariant p)))
    (c.in-Err.ensures p)

pub loop-place-preserved : goal.loop-place-preserved
loop-place-preserved c = λ p.
    put_more row_put (over_ranges p c.loop-place.growing) (over_ranges p c.put_range.new.growing) c.args.ranges.now c.loop-place.place (record { one = 0; other = 0; start = 0; end = 0; light = 0 }) _ c.loop-place-test.true (c.in_default.ensures p) (c.loop-place.invariant p)

pub returns : goal.returns
returns c = λ p. put_end row_put (over_ranges p c.loop-place.growing) c.args.ranges.now c.loop-place.place _ (omega (arith, c.loop-place-test.false)) (c.loop-place.invariant p)
