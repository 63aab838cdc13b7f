-- The date of the day's number has the day's year, month and day.
use Rattle.sabr_plan.proofs.Names.{ℕ, ◌/◌, ◌≤◌, refl, arith}
use Rattle.jiff_core.proofs.SignedLemmas.{signed_arith}
use Rattle.sabr_plan.specs.Times.{fields_of}
use Rattle.sabr_plan.proofs.Days.{day_after_epoch_is, date_of_day}
use Rattle.sabr_plan.proofs.time.fields_of.Goals as goal

pub overflow_cast-result : goal.overflow_cast-result
overflow_cast-result c =
    let n : ℕ = c.args.second / 86400 in
    let h : n ≤ 2932896 = omega arith in
    rw (date_of_day n c.from_days_since_min-date.result h c.from_days_since_min-date.ensures).0 (tt, let day = day_after_epoch_is n h in omega (arith, signed_arith, day.civil.0))

pub returns : goal.returns
unfolding fields_of
returns c =
    let is = date_of_day (c.args.second / 86400) c.from_days_since_min-date.result (omega arith) c.from_days_since_min-date.ensures in
    rw (is.0, is.1, is.2) refl
