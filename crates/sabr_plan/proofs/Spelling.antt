-- Times as texts: the spelling of calendar and clock in 19 bytes, seconds and their fields, and days that are known.
use Rattle.sabr_plan.proofs.Names.{◌≡◌, ℕ, ◌+◌, ◌-◌, ◌*◌, ◌/◌, ◌%◌, ◌<◌, true, List, length, get_or, refl, arith, ◌≤◌, sym, ap, ◌∙◌, subst, pos, unsigned_abs, Option, Some, None, IfSome, false, eqb, [], ◌∷◌, ◌++◌, take, drop, append_assoc, Ok, ok_or, and_parts, ne_eqb, nat_tests, text_from_reads, bytes_eq-Decides, eqb-true, le-leb, bytes_eq, last_time, take_more, number_l, digits_l}
use Rattle.sabr_plan.specs.declared.time.TimeFields.{TimeFields}
use Rattle.sabr_plan.specs.Times.{pair_at, spelled, CalendarDay, day_after_epoch, fields_of, last_spelled, time_text_of, second_named, time_of, is_pair, has_shape, fields_at, HasWidth, IsDate}
use Rattle.jiff_core.specs.Calendar.{days_from_civil}
use Rattle.jiff_core.proofs.SignedLemmas.{signed_arith}
use Rattle.jiff_core.proofs.CalendarLemmas.{days_in_month_bounds}
use Rattle.sabr_plan.proofs.Days.{day_after_epoch_is}
use Rattle.core.specs.Dec2flt.Digits.{IsEightBytes}
use Rattle.sabr_plan.specs.declared.fault.PlanKind.TheVariants.{BadTime}
use Rattle.sabr_plan.specs.Operands.{relative_of, after_reference, absolute_time, time_at}
use Rattle.sabr_plan.specs.PlainWords.{is_graphic_word}
use Rattle.sabr_plan.proofs.SpelledNumbers.{bytes_are}

-- the bytes of two digits, by the number that they stand for
pair_bytes : (word : List ℕ) (i : ℕ) → is_pair word i ≡ true → (get_or word i 0 ≡ 48 + pair_at word i / 10) × (get_or word (i + 1) 0 ≡ 48 + pair_at word i % 10) × (pair_at word i < 100)
pair_bytes word i h = grind (arith, nat_tests)

-- the parts of the shape
pub record HasParts (word : List ℕ) : Type 0 where
  pub long : length word ≡ 19
  pub century : is_pair word 0 ≡ true
  pub year : is_pair word 2 ≡ true
  pub first : get_or word 4 0 ≡ 47
  pub month : is_pair word 5 ≡ true
  pub second : get_or word 7 0 ≡ 47
  pub day : is_pair word 8 ≡ true
  pub third : get_or word 10 0 ≡ 45
  pub hour : is_pair word 11 ≡ true
  pub fourth : get_or word 13 0 ≡ 58
  pub minute : is_pair word 14 ≡ true
  pub fifth : get_or word 16 0 ≡ 58
  pub clock : is_pair word 17 ≡ true

pub shape_parts : (word : List ℕ) → has_shape word ≡ true → HasParts word
shape_parts word h =
    let p12 = and_parts _ _ h in
    let p11 = and_parts _ _ p12.0 in
    let p10 = and_parts _ _ p11.0 in
    let p9 = and_parts _ _ p10.0 in
    let p8 = and_parts _ _ p9.0 in
    let p7 = and_parts _ _ p8.0 in
    let p6 = and_parts _ _ p7.0 in
    let p5 = and_parts _ _ p6.0 in
    let p4 = and_parts _ _ p5.0 in
    let p3 = and_parts _ _ p4.0 in
    let p2 = and_parts _ _ p3.0 in
    let p1 = and_parts _ _ p2.0 in
    record {
      long = eqb-true _ _ p1.0;
      century = p1.1;
      year = p2.1;
      first = eqb-true _ _ p3.1;
      month = p4.1;
      second = eqb-true _ _ p5.1;
      day = p6.1;
      third = eqb-true _ _ p7.1;
      hour = p8.1;
      fourth = eqb-true _ _ p9.1;
      minute = p10.1;
      fifth = eqb-true _ _ p11.1;
      clock = p12.1;
    }

-- a text of that shape is the spelling of its fields
pub fields_at_spelled : (word : List ℕ) → has_shape word ≡ true → word ≡ spelled (fields_at word)
fields_at_spelled word h =
    let p = shape_parts word h in
    let c = pair_bytes word 0 p.century in
    let y = pair_bytes word 2 p.year in
    let m = pair_bytes word 5 p.month in
    let d = pair_bytes word 8 p.day in
    let hour = pair_bytes word 11 p.hour in
    let minute = pair_bytes word 14 p.minute in
    let s = pair_bytes word 17 p.clock in
    let high : (pair_at word 0 * 100 + pair_at word 2) / 100 ≡ pair_at word 0 = omega (arith, y.2) in
    let low : (pair_at word 0 * 100 + pair_at word 2) % 100 ≡ pair_at word 2 = omega (arith, y.2) in
    text_from_reads word (spelled (fields_at word)) p.long
    (rw high c.0, (rw high c.1, (rw low y.0, (rw low y.1, (p.first, (m.0, (m.1, (p.second, (d.0, (d.1, (p.third, (hour.0, (hour.1, (p.fourth, (minute.0, (minute.1, (p.fifth, (s.0, (s.1, tt)))))))))))))))))))

-- a spelling has the shape
pub spelled_has_shape : (f : TimeFields) → HasWidth f → has_shape (spelled f) ≡ true
spelled_has_shape f w = grind (arith, nat_tests)

-- the fields of a spelling are those that were spelled
pub fields_at-spelled : (f : TimeFields) → fields_at (spelled f) ≡ f
fields_at-spelled f =
    let year : f.year / 100 * 100 + f.year % 100 ≡ f.year = omega arith in
    let two : (n : ℕ) → (48 + n / 10 - 48) * 10 + (48 + n % 10 - 48) ≡ n = λ n. omega arith in
    simp (two, year)

-- ---- seconds, their calendar and clock fields, and their text

-- two days that are equal have one number
pub day_after_epoch_injective : (m n : ℕ) → m ≤ 2932896 → n ≤ 2932896 → day_after_epoch m ≡ day_after_epoch n → m ≡ n
day_after_epoch_injective m n h k e =
    let P : CalendarDay → Type 0 = λ d. days_from_civil (pos d.year) d.month d.day ≡ pos m in
    let is : days_from_civil (pos (day_after_epoch n).year) (day_after_epoch n).month (day_after_epoch n).day ≡ pos m = subst P e (day_after_epoch_is m h).number in
    let same : pos m ≡ pos n = sym is ∙ (day_after_epoch_is n k).number in
    omega (arith, signed_arith)

-- the fields of a second up to the year 9999 fit their widths
pub fields_of_width : (t : ℕ) → t ≤ last_spelled → HasWidth (fields_of t)
unfolding fields_of
fields_of_width t h =
    let is = day_after_epoch_is (t / 86400) (omega arith) in
    let d = day_after_epoch (t / 86400) in
    let long = days_in_month_bounds (pos d.year) d.month in
    record {
      year = omega (arith, signed_arith, is.civil.0);
      month = omega (arith, is.civil.1);
      day = omega (arith, is.civil.2, long);
      hour = omega arith;
      minute = omega arith;
      second = omega arith;
    }

-- the fields n days and some hours, minutes and seconds after 1970/01/01-00:00:00
pub fields_of-clock : (n hour minute second : ℕ) → hour ≤ 23 → minute ≤ 59 → second ≤ 59 → fields_of (n * 86400 + (hour * 3600 + minute * 60 + second)) ≡ record { year = (day_after_epoch n).year; month = (day_after_epoch n).month; day = (day_after_epoch n).day; hour = hour; minute = minute; second = second }
unfolding fields_of
fields_of-clock n hour minute second h m s =
    let t = n * 86400 + (hour * 3600 + minute * 60 + second) in
    let day : t / 86400 ≡ n = omega arith in
    let clock : t % 86400 ≡ hour * 3600 + minute * 60 + second = omega arith in
    let a : (hour * 3600 + minute * 60 + second) / 3600 ≡ hour = omega arith in
    let b : (hour * 3600 + minute * 60 + second) % 3600 / 60 ≡ minute = omega arith in
    let c : (hour * 3600 + minute * 60 + second) % 60 ≡ second = omega arith in
    rw (day, clock, a, b, c)

-- the clock's second of the day
clock_of : TimeFields → ℕ
clock_of f = f.hour * 3600 + f.minute * 60 + f.second

-- the fields' day
abbrev pub day_of : TimeFields → CalendarDay
day_of f = record { year = f.year; month = f.month; day = f.day }

pub day_of-fields_of : (t : ℕ) → day_of (fields_of t) ≡ day_after_epoch (t / 86400)
unfolding fields_of
day_of-fields_of t = refl

clock_of-fields_of : (t : ℕ) → clock_of (fields_of t) ≡ t % 86400
unfolding fields_of clock_of
clock_of-fields_of t = omega arith

-- the bounds of clock fields
pub fields_clock : (t : ℕ) (f : TimeFields) → fields_of t ≡ f → (f.hour ≤ 23) × (f.minute ≤ 59) × (f.second ≤ 59)
unfolding fields_of
fields_clock t f e = rw (← e) (omega arith, omega arith, omega arith)

-- two seconds with the same fields are the same
pub fields_of_injective : (t u : ℕ) → t ≤ last_spelled → u ≤ last_spelled → fields_of t ≡ fields_of u → t ≡ u
fields_of_injective t u h k e =
    let day : day_after_epoch (t / 86400) ≡ day_after_epoch (u / 86400) = sym (day_of-fields_of t) ∙ ap day_of e ∙ day_of-fields_of u in
    let same : t / 86400 ≡ u / 86400 = day_after_epoch_injective _ _ (omega arith) (omega arith) day in
    let clock : t % 86400 ≡ u % 86400 = sym (clock_of-fields_of t) ∙ ap clock_of e ∙ clock_of-fields_of u in
    omega arith

-- a time's text has the shape
pub text_has_shape : (t : ℕ) → t ≤ last_spelled → has_shape (time_text_of t) ≡ true
unfolding time_text_of
text_has_shape t h = spelled_has_shape (fields_of t) (fields_of_width t h)

-- and it has the fields of the second
pub fields_at-text : (t : ℕ) → fields_at (time_text_of t) ≡ fields_of t
unfolding time_text_of
fields_at-text t = fields_at-spelled (fields_of t)

-- the digits of a time's text name its second
pub second_named-text : (t : ℕ) → t ≤ last_spelled → second_named (time_text_of t) ≡ t
unfolding second_named fields_of
second_named-text t h =
    let named : TimeFields → ℕ = λ f. unsigned_abs (days_from_civil (pos f.year) f.month f.day) * 86400 + f.hour * 3600 + f.minute * 60 + f.second in
    let is = (day_after_epoch_is (t / 86400) (omega arith)).number in
    ap named (fields_at-text t) ∙ rw is (omega arith)

-- the time of a text
pub time_of-text : (t : ℕ) → t ≤ last_time → time_of (time_text_of t) ≡ Some t
unfolding time_of
time_of-text t h =
    let within : t ≤ last_spelled = omega arith in
    rw (second_named-text t within, le-leb t last_time h, (bytes_eq-Decides (time_text_of t) (time_text_of t)).1 refl) refl

-- a word that has a time is its text
pub time_of_tells : (word : List ℕ) (t : ℕ) → time_of word ≡ Some t → (word ≡ time_text_of t) × (t ≤ last_time)
unfolding time_of
time_of_tells word t e =
    let u = second_named word in
    let found : (bytes_eq word (time_text_of u) ≡ true) × (u ≡ t) × (u ≤ last_time) = grind (arith, nat_tests) in
    (rw found.1 at ((bytes_eq-Decides word (time_text_of u)).0 found.0), rw found.1 at found.2)

-- a result that is exactly the time of a text is the time of the word
pub time_of_is : (word : List ℕ) (r : Option ℕ) → IfSome r (λ t. (word ≡ time_text_of t) × (t ≤ last_time)) → ((t : ℕ) → t ≤ last_time → word ≡ time_text_of t → r ≡ Some t) → r ≡ time_of word
time_of_is word (Some t) some all = sym (ap time_of some.0 ∙ time_of-text t some.1)
time_of_is word None some all =
    (elim (time_of word) as (λ o. time_of word ≡ o → None ≡ o) [
      | None ↦ λ e. refl
      | Some t ↦ λ e. let tells = time_of_tells word t e in all t tells.1 tells.0
    ]) refl

-- ---- the text of a time is that of its day and of a second of that day; it is a word of a line

-- a second of a known day
pub known_text : (date clock : List ℕ) (begin s : ℕ) → IsDate date begin → clock ≡ drop 10 (time_text_of s) → s < 86400 → (date ++ clock ≡ time_text_of (begin + s)) × (begin + s ≤ last_time)
unfolding time_text_of fields_of
known_text date clock begin s is e h =
    let day : (begin + s) / 86400 ≡ begin / 86400 = omega (arith, is.whole) in
    let rest : (begin + s) % 86400 ≡ s % 86400 = omega (arith, is.whole) in
    (rw (is.spelled, e, day, rest) refl, omega (arith, is.whole, is.within))

-- the day of a second
pub date_of : (text : List ℕ) (t : ℕ) → text ≡ time_text_of t → t ≤ last_time → IsDate (take 10 text) (t - t % 86400)
unfolding time_text_of fields_of
date_of text t e h =
    let day : (t - t % 86400) / 86400 ≡ t / 86400 = omega arith in
    record {
      spelled = ap (take 10) e ∙ rw day refl;
      whole = omega arith;
      within = omega arith;
    }

-- ten bytes, of which the first eight make a number
pub date_bytes : (text : List ℕ) → IsEightBytes (take 8 text) → 9 < length text → take 10 text ≡ digits_l 256 8 (number_l 256 (take 8 text)) ++ get_or text 8 0 ∷ get_or text 9 0 ∷ []
date_bytes text eight long =
    let front = bytes_are (take 8 text) 8 (number_l 256 (take 8 text)) eight refl in
    take_more text 9 0 long ∙ ap (λ f. f ++ get_or text 9 0 ∷ []) (take_more text 8 0 (omega arith) ∙ ap (λ f. f ++ get_or text 8 0 ∷ []) front) ∙ append_assoc (digits_l 256 8 (number_l 256 (take 8 text))) (get_or text 8 0 ∷ []) (get_or text 9 0 ∷ [])

graphic_spelled : (f : TimeFields) → HasWidth f → is_graphic_word (spelled f) ≡ true
graphic_spelled f w = grind (arith, nat_tests)

pub graphic_time : (t : ℕ) → t ≤ last_time → is_graphic_word (time_text_of t) ≡ true
unfolding time_text_of
graphic_time t h = graphic_spelled (fields_of t) (fields_of_width t (omega arith))

-- it is an absolute time in any line
pub time_at-text : (reference : Option ℕ) (t : ℕ) → t ≤ last_time → time_at reference (time_text_of t) ≡ Ok t
unfolding time_at time_text_of
time_at-text reference t h =
    let digit : eqb (48 + (fields_of t).year / 100 / 10) 43 ≡ false = ne_eqb _ 43 (omega arith) in
    let none : relative_of (time_text_of t) ≡ None = rw digit refl in
    ap (λ o. elim o [ Some seconds ↦ after_reference reference seconds | None ↦ absolute_time (time_text_of t) ]) none
    ∙ ap (λ o. ok_or o BadTime) (time_of-text t h)
