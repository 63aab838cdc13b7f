-- Each LF of a piece ends a line, and what comes after the last is held.
use Rattle.sabr_plan.proofs.Names.{◌≡◌, ℕ, Bool, List, ◌++◌, length, subst, arith, nat_tests, nil_from_length}
use Rattle.sabr_plan.specs.Feeding.{Fed, outcome}
use Rattle.sabr_plan.proofs.Outcomes.{still_lf_at_end}
use Rattle.sabr_plan.proofs.Held.{parted_on, line_refused, line_read, line_grows, rest_held}
use Rattle.sabr_plan.proofs.feed.PlanFeed.feed.Goals as goal

pub returns-in-Err-clause-fed : goal.returns-in-Err-clause-fed
returns-in-Err-clause-fed g c =
    let h = c.feed_line-ended.ensures in
    let e = rw c.in-Err.is at h.ended in
    rw (c.fault.ensures, e.refused) (line_refused _ _ _ _ c.loop-rest.invariant.same e.one _ _ h.line (parted_on _ _ _ _ h.parts) c.in-Err.kind e.value)

pub loop-rest-preserved : goal.loop-rest-preserved
loop-rest-preserved g c =
    let h = c.feed_line-ended.ensures in
    let e = rw c.in_default.is at h.ended in
    let cut = parted_on _ _ _ c.ended_lines.result.1.now h.parts in
    record {
      same = line_read _ _ _ _ c.loop-rest.invariant.same e.one _ _ h.line cut c.feed_line-ended.new.self e.value e.rest.0 e.rest.1;
      grows = line_grows _ _ _ _ c.loop-rest.invariant.same e.one _ _ h.line cut c.feed_line-ended.new.self e.rest.0 e.rest.1 e.fits c.loop-rest.invariant.grows;
      ended = still_lf_at_end _ _ _ h.parts c.loop-rest.invariant.ended;
    }

pub returns-clause-fed : goal.returns-clause-fed
returns-clause-fed g c =
    let rest = c.loop-rest.rest.now in
    let tail = c.ended_lines.result.1.now in
    let none : length rest ≡ 0 = grind (arith, nat_tests) in
    let same : (more : List ℕ) (ended : Bool) → outcome c.args.self.now (c.args.piece.now ++ more) ended ≡ outcome c.loop-rest.self (tail ++ more) ended = rw (nil_from_length rest none) at c.loop-rest.invariant.same in
    rest_held c.args.self.now c.args.piece.now c.loop-rest.self tail same c.hold.ensures.held c.hold.new.self c.hold.result c.ended_lines.ensures.line c.hold.ensures.ok c.hold.ensures.err
