-- A second is a day's number and the time of day.
use Rattle.sabr_plan.proofs.Names.{◌≡◌, ℕ, ◌+◌, ◌*◌, ◌/◌, ◌≤◌, refl, sym, ap, ◌∙◌, arith}
use Rattle.sabr_plan.specs.declared.time.TimeFields.{TimeFields}
use Rattle.sabr_plan.specs.Times.{day_after_epoch, fields_of}
use Rattle.sabr_plan.proofs.Spelling.{fields_of-clock, fields_of_injective, day_of, day_of-fields_of}
use Rattle.sabr_plan.proofs.time.second_of.Goals as goal

pub returns-in_err-days-clause-none : goal.returns-in_err-days-clause-none
returns-in_err-days-clause-none c i t k e =
    c.in_err-days.ensures.none refl (t / 86400) (omega arith) (sym (day_of-fields_of t) ∙ ap day_of e)

-- the second of a day's number and a time of day has that day and time as its fields
shown : (n : ℕ) (f : TimeFields) → day_after_epoch n ≡ day_of f → f.hour ≤ 23 → f.minute ≤ 59 → f.second ≤ 59 → fields_of (n * 86400 + (f.hour * 3600 + f.minute * 60 + f.second)) ≡ f
shown n f e h m s = rw e at (fields_of-clock n f.hour f.minute f.second h m s)

pub returns-then-second-gt-LAST_TIME-clause-none : goal.returns-then-second-gt-LAST_TIME-clause-none
returns-then-second-gt-LAST_TIME-clause-none c i t k e =
    let day = c.in_ok-days.ensures.some in
    let f = c.args.fields in
    let is = shown c.in_ok-days.days f day.1 c.if-fields-gt23.false c.if-fields-gt59.false c.if-fields-gt59-2.false in
    let same = fields_of_injective t (c.in_ok-days.days * 86400 + (f.hour * 3600 + f.minute * 60 + f.second)) (omega arith) (omega (arith, day.0)) (e ∙ sym is) in
    omega (arith, same)

pub returns-clause-some : goal.returns-clause-some
returns-clause-some c =
    let day = c.in_ok-days.ensures.some in
    (shown c.in_ok-days.days c.args.fields day.1 c.if-fields-gt23.false c.if-fields-gt59.false c.if-fields-gt59-2.false, c.if-second-gt-LAST_TIME.false)
