-- Absolute times: UTC without leap seconds, written in 19 bytes as `yyyy/mm/dd-hh:mm:ss`.
use Rattle.std.specs.Prelude.{ℕ, zero, suc, ◌+◌, ◌-◌, ◌*◌, ◌/◌, ◌%◌, pos, unsigned_abs, nat_lt, nat_le, ◌&&◌, List, [], ◌∷◌, ◌++◌, slice_index, if◌then◌else◌, ◌≡◌, ◌<◌, ◌≤◌, ◌==◌, Bool, length, take}
use Rattle.std.specs.Str.{bytes_eq}
use Rattle.std.specs.declared.option.Option.{Option}
use Rattle.std.specs.declared.option.Option.TheVariants.{Some, None}
use Rattle.jiff_core.specs.Calendar.{days_in_month, days_from_civil}
use Rattle.sabr_model.specs.plan.Plan.{last_time}
use Rattle.sabr_plan.specs.declared.time.TimeFields.{TimeFields}
use Rattle.sabr_plan.specs.Digits.{is_digit}

-- a day of the Gregorian calendar
pub record CalendarDay : Type 0 where
  pub year : ℕ
  pub month : ℕ
  pub day : ℕ

-- the day after it
abbrev pub next_day : CalendarDay → CalendarDay
next_day d =
    if nat_lt d.day (days_in_month (pos d.year) d.month) then record { year = d.year; month = d.month; day = d.day + 1 }
    else if nat_lt d.month 12 then record { year = d.year; month = d.month + 1; day = 1 }
    else record { year = d.year + 1; month = 1; day = 1 }

-- the day this many days after 1970/01/01
unfoldable pub day_after_epoch : ℕ → CalendarDay
day_after_epoch zero = record { year = 1970; month = 1; day = 1 }
day_after_epoch (suc n) = next_day (day_after_epoch n)

-- the date and time of day, t seconds after 1970/01/01-00:00:00; each day has 86400 seconds
unfoldable pub fields_of : ℕ → TimeFields
fields_of t =
    let d = day_after_epoch (t / 86400) in
    let s = t % 86400 in
    record { year = d.year; month = d.month; day = d.day; hour = s / 3600; minute = s % 3600 / 60; second = s % 60 }

-- a number below 100 in two digits
abbrev pub two_digits : ℕ → List ℕ
two_digits n = (48 + n / 10) ∷ (48 + n % 10) ∷ []

-- the fields in full width, with `/`, `-` and `:` between them
abbrev pub spelled : TimeFields → List ℕ
spelled f =
    two_digits (f.year / 100) ++ two_digits (f.year % 100) ++ 47 ∷ two_digits f.month ++ 47 ∷ two_digits f.day
    ++ 45 ∷ two_digits f.hour ++ 58 ∷ two_digits f.minute ++ 58 ∷ two_digits f.second

-- the last second that has a text, the last of the year 9999
abbrev pub last_spelled : ℕ
last_spelled = 253402300799

-- the text of a second, up to that one
unfoldable pub time_text_of : ℕ → List ℕ
time_text_of t = spelled (fields_of t)

-- the value of the two digits from index i on
abbrev pub pair_at : List ℕ → ℕ → ℕ
pair_at word i = (slice_index word i - 48) * 10 + (slice_index word (i + 1) - 48)

-- the second that the digits of a word name
unfoldable pub second_named : List ℕ → ℕ
second_named word =
    unsigned_abs (days_from_civil (pos (pair_at word 0 * 100 + pair_at word 2)) (pair_at word 5) (pair_at word 8)) * 86400
    + pair_at word 11 * 3600 + pair_at word 14 * 60 + pair_at word 17

-- a word is a time if it is the text of the second of its digits
unfoldable pub time_of : List ℕ → Option ℕ
time_of word =
    let t = second_named word in
    if nat_le t last_time && bytes_eq word (time_text_of t) then Some t else None

-- ---- the shape of a time's text: digits in pairs, with bytes between them

-- whether there are two digits from index i on
abbrev pub is_pair : List ℕ → ℕ → Bool
is_pair word i = is_digit (slice_index word i) && is_digit (slice_index word (i + 1))

-- whether there are pairs of digits with `/`, `-` and `:` where a time has them
abbrev pub has_shape : List ℕ → Bool
has_shape word =
    (length word == 19) && is_pair word 0 && is_pair word 2 && (slice_index word 4 == 47) && is_pair word 5
    && (slice_index word 7 == 47) && is_pair word 8 && (slice_index word 10 == 45) && is_pair word 11
    && (slice_index word 13 == 58) && is_pair word 14 && (slice_index word 16 == 58) && is_pair word 17

-- the values of the pairs as fields
abbrev pub fields_at : List ℕ → TimeFields
fields_at word = record {
  year = pair_at word 0 * 100 + pair_at word 2;
  month = pair_at word 5;
  day = pair_at word 8;
  hour = pair_at word 11;
  minute = pair_at word 14;
  second = pair_at word 17;
}

-- each field fits its width
pub record HasWidth (f : TimeFields) : Type 0 where
  pub year : f.year < 10000
  pub month : f.month < 100
  pub day : f.day < 100
  pub hour : f.hour < 100
  pub minute : f.minute < 100
  pub second : f.second < 100

-- these bytes are the date of the day that begins with this second, `yyyy/mm/dd`
pub record IsDate (date : List ℕ) (begin : ℕ) : Type 0 where
  pub spelled : date ≡ take 10 (time_text_of begin)
  pub whole : begin % 86400 ≡ 0
  pub within : begin ≤ last_time
