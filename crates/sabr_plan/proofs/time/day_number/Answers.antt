-- The calendar has a day if jiff has its date, and the date's number is the day's.
use Rattle.sabr_plan.proofs.Names.{false≢true}
use Rattle.sabr_plan.proofs.Days.{is_date, numbered}
use Rattle.sabr_plan.proofs.time.day_number.Goals as goal

pub returns-in_default-clause-none : goal.returns-in_default-clause-none
returns-in_default-clause-none c i n k e =
    false≢true (c.in_default.ensures.succeeds.1 (is_date c.args.year c.args.month c.args.day c.requires.year c.requires.month c.requires.day n k e))

pub returns : goal.returns
returns c =
    let h = c.in-Ok.ensures.value in
    let since = c.days_since_min.ensures in
    let is = numbered c.args.year c.args.month c.args.day c.requires.year c.requires.month c.requires.day c.in-Ok.date h.0 h.1 h.2 c.days_since_min.result since.value since.bound c.checked_sub.result c.checked_sub.ensures in
    record { some = is.0; none = is.1 }
