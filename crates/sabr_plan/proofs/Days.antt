-- The days of the calendar, one after another, and their numbers.
use Rattle.sabr_plan.proofs.Names.{◌≡◌, ℕ, zero, suc, ◌+◌, ◌<◌, ◌≤◌, inl, inr, sym, ap, ◌∙◌, arith, rules, pos, ◌-◌, ◌+ℤ◌, ◌≢◌, subst, w16, w8, to_z, of_z, Option, Some, None, IfSome, IsNone, SomeIff, cases_lt, lt-ltb, le-ltb}
use Rattle.jiff_core.specs.declared.civil.date.Date.{Date}
use Rattle.jiff_core.specs.Calendar.{days_from_civil, days_in_month, IsCivilDate, IsDate}
use Rattle.jiff_core.specs.Date.{epoch_day}
use Rattle.jiff_core.proofs.SignedLemmas.{signed_arith}
use Rattle.jiff_core.proofs.CalendarLemmas.{days_in_month_bounds}
use Rattle.jiff_core.proofs.DateLemmas.{epoch_day_injective, days_from_civil-day, days_from_civil-next_month, days_from_civil-next_year, days_from_civil-max}
use Rattle.sabr_plan.specs.Times.{CalendarDay, next_day, day_after_epoch}
use Rattle.std.proofs.lemmas.Int.{to_z_pos}

-- the calendar has the day, it is not before 1970, and n is its number
pub record IsDay (n : ℕ) (d : CalendarDay) : Type 0 where
  pub since : 1970 ≤ d.year
  pub civil : IsCivilDate (pos d.year) d.month d.day
  pub number : days_from_civil (pos d.year) d.month d.day ≡ pos n

within_month : (n : ℕ) (d : CalendarDay) → IsDay n d → d.day < days_in_month (pos d.year) d.month → IsDay (suc n) (record { year = d.year; month = d.month; day = d.day + 1 })
within_month n d is h =
    record {
      since = is.since;
      civil = (is.civil.0, is.civil.1, (omega arith, omega arith));
      number = omega (arith, signed_arith, is.number, days_from_civil-day (pos d.year) d.month d.day (d.day + 1) is.civil.2.0 (omega arith));
    }

next_month : (n : ℕ) (d : CalendarDay) → IsDay n d → days_in_month (pos d.year) d.month ≤ d.day → d.month < 12 → IsDay (suc n) (record { year = d.year; month = d.month + 1; day = 1 })
next_month n d is last h =
    let full : d.day ≡ days_in_month (pos d.year) d.month = omega (arith, is.civil.2.1) in
    record {
      since = is.since;
      civil = (is.civil.0, (omega arith, omega arith), (omega arith, omega (arith, days_in_month_bounds (pos d.year) (d.month + 1))));
      number = omega (arith, signed_arith, is.number, days_from_civil-next_month (pos d.year) d.month d.day is.civil.1.0 full);
    }

next_year : (n : ℕ) (d : CalendarDay) → n < 2932896 → IsDay n d → days_in_month (pos d.year) d.month ≤ d.day → 12 ≤ d.month → IsDay (suc n) (record { year = d.year + 1; month = 1; day = 1 })
next_year n d early is last h =
    let month : d.month ≡ 12 = omega (arith, is.civil.1.1) in
    let full : days_in_month (pos d.year) d.month ≡ 31 = ap (days_in_month (pos d.year)) month in
    let day : d.day ≡ 31 = omega (arith, is.civil.2.1) in
    let eve : days_from_civil (pos d.year) 12 31 ≡ pos n = rw (month, day) at is.number in
    let apart : ¬ (d.year ≡ 9999) = λ e. let last = rw e at eve in omega (arith, signed_arith, last, days_from_civil-max) in
    let year : d.year < 9999 = omega (arith, signed_arith, is.civil.0) in
    record {
      since = omega (arith, is.since);
      civil = ((search rules, omega (arith, signed_arith)), (omega arith, omega arith), (omega arith, omega (arith, days_in_month_bounds (pos (d.year + 1)) 1)));
      number = omega (arith, signed_arith, eve, days_from_civil-next_year (pos d.year) (pos (d.year + 1)) (omega (arith, signed_arith)) (omega (arith, signed_arith)));
    }

first_day : IsDay 0 (record { year = 1970; month = 1; day = 1 })
unfolding days_from_civil
first_day = record { since = omega arith; civil = search rules; number = omega (arith, signed_arith) }

day_after : (n : ℕ) (d : CalendarDay) → n < 2932896 → IsDay n d → IsDay (suc n) (next_day d)
day_after n d early is =
    elim (cases_lt d.day (days_in_month (pos d.year) d.month)) [
      | inl h ↦ rw (lt-ltb _ _ h) (within_month n d is h)
      | inr last ↦ elim (cases_lt d.month 12) [
        | inl h ↦ rw (le-ltb _ _ last, lt-ltb _ _ h) (next_month n d is last h)
        | inr h ↦ rw (le-ltb _ _ last, le-ltb _ _ h) (next_year n d early is last h)
      ]
    ]

-- the days from 1970/01/01 to 9999/12/31 have their numbers
pub day_after_epoch_is : (n : ℕ) → n ≤ 2932896 → IsDay n (day_after_epoch n)
unfolding day_after_epoch
day_after_epoch_is zero h = first_day
day_after_epoch_is (suc n) h = day_after n (day_after_epoch n) (omega arith) (day_after_epoch_is n (omega arith))

-- a date of that number has the same year, month and day
pub same_day : (n : ℕ) (date : Date) → n ≤ 2932896 → epoch_day date ≡ pos n → (date.year ≡ pos (day_after_epoch n).year) × (date.month ≡ (day_after_epoch n).month) × (date.day ≡ (day_after_epoch n).day)
same_day n date h e =
    let d = day_after_epoch n in
    let is = day_after_epoch_is n h in
    let other : Date = record { year = pos d.year; month = d.month; day = d.day; year_in = is.civil.0; month_in = is.civil.1; day_in = is.civil.2 } in
    epoch_day_injective date other (e ∙ sym is.number)

-- ---- days of the calendar, and jiff's dates made from their year, month and day

module _ (year month day : ℕ) (y : year < 10000) (m : month < 100) (d : day < 100) where
  -- the numbers as jiff sees them
  seen : (to_z w16 year ≡ pos year) × (to_z w8 month ≡ pos month) × (to_z w8 day ≡ pos day)
  seen = (to_z_pos w16 year (omega arith), to_z_pos w8 month (omega arith), to_z_pos w8 day (omega arith))

  -- a day of the calendar is a date
  pub is_date : (n : ℕ) → n ≤ 2932896 → day_after_epoch n ≡ record { year = year; month = month; day = day } → IsDate (to_z w16 year) (to_z w8 month) (to_z w8 day)
  is_date n h e =
      let civil = (subst (IsDay n) e (day_after_epoch_is n h)).civil in
      rw (seen.0, seen.1, seen.2) (civil.0, (omega (arith, signed_arith, civil.1), omega (arith, signed_arith, civil.1)), (omega (arith, signed_arith, civil.2), omega (arith, signed_arith, civil.2)))

  module _ (date : Date) (a : date.year ≡ to_z w16 year) (b : pos date.month ≡ to_z w8 month) (c : pos date.day ≡ to_z w8 day) where
    date_is : (date.year ≡ pos year) × (date.month ≡ month) × (date.day ≡ day)
    date_is = (a ∙ seen.0, let k : pos date.month ≡ pos month = b ∙ seen.1 in cc, let k : pos date.day ≡ pos day = c ∙ seen.2 in cc)

    -- the day of its number is that day
    pub day_is_of : (n : ℕ) → n ≤ 2932896 → epoch_day date ≡ pos n → day_after_epoch n ≡ record { year = year; month = month; day = day }
    day_is_of n h e =
        let same = same_day n date h e in
        let same_year : (day_after_epoch n).year ≡ year = let k : pos (day_after_epoch n).year ≡ pos year = sym same.0 ∙ date_is.0 in cc in
        λ i. record { year = same_year i; month = (sym same.1 ∙ date_is.1) i; day = (sym same.2 ∙ date_is.2) i }

    -- from its days since the calendar's first, the day's number, if there is one
    pub numbered : (since : ℕ) → (epoch_day date +ℤ pos 4371587) ≡ pos since → since ≤ 7304483 → (o : Option ℕ) → SomeIff o (4371587 ≤ since) (since - 4371587)
        → IfSome o (λ n. (n ≤ 2932896) × (day_after_epoch n ≡ record { year = year; month = month; day = day })) × (IsNone o → (n : ℕ) → n ≤ 2932896 → day_after_epoch n ≢ record { year = year; month = month; day = day })
    numbered since is high None early = (tt, λ none n h e. let number : epoch_day date ≡ pos n = rw (date_is.0, date_is.1, date_is.2) (subst (IsDay n) e (day_after_epoch_is n h)).number in early (omega (arith, signed_arith)))
    numbered since is high (Some n) (late, number) =
        let small : n ≤ 2932896 = omega arith in
        ((small, day_is_of n small (omega (arith, signed_arith))), λ none. absurd cc)

-- the date this many days after the calendar's first has the day's month and day, and its year, also when cast
pub date_of_day : (n : ℕ) (date : Date) → n ≤ 2932896 → (epoch_day date +ℤ pos 4371587) ≡ pos (n + 4371587) → (to_z w16 (of_z w16 date.year) ≡ pos (day_after_epoch n).year) × (date.month ≡ (day_after_epoch n).month) × (date.day ≡ (day_after_epoch n).day)
date_of_day n date h e =
    let same = same_day n date h (omega (arith, signed_arith)) in
    let is = day_after_epoch_is n h in
    (omega (arith, signed_arith, same.0, is.civil.0), same.1, same.2)
