-- No byte but `:` is above that of midnight by ten or more, so none of the differences borrows from the next one.
use Rattle.sabr_plan.proofs.Names.{◌≡◌, ℕ, ◌+◌, ◌-◌, ◌*◌, ◌/◌, ◌%◌, ◌^◌, ◌<◌, ◌≤◌, List, [], ◌∷◌, length, take, drop, get_or, refl, sym, ap, ◌∙◌, arith, length-drop, bit_and, take_all, text_from_reads, and_block, and_mask, number_l, digits_l}
use Rattle.core.specs.Dec2flt.Digits.{IsEightBytes}
use Rattle.core.specs.Int.Digits.{AllBelowBase}
use Rattle.core.proofs.dec2flt.Eight.{eight_at}
use Rattle.sabr_plan.specs.Times.{fields_of, time_text_of}
use Rattle.sabr_plan.proofs.SpelledNumbers.{bytes_are}
use Rattle.sabr_plan.proofs.known_day.clock_of.Goals as goal

-- the bytes that stand for `:`
colons : (x : ℕ) → bit_and x 0x0000_ff00_00ff_0000 ≡ 0 → (x / 2 ^ 16 % 256 ≡ 0) × (x / 2 ^ 40 % 256 ≡ 0)
colons x none =
    let y = x / 2 ^ 16 in
    let e : x ≡ y * 2 ^ 16 + x % 2 ^ 16 = omega arith in
    let f : y ≡ y / 2 ^ 24 * 2 ^ 24 + y % 2 ^ 24 = omega arith in
    let low : bit_and y 0xff00_00ff ≡ y / 2 ^ 24 % 256 * 2 ^ 24 + y % 2 ^ 24 % 256 =
    ap (λ z. bit_and z 0xff00_00ff) f ∙ and_block 24 (y / 2 ^ 24) 255 (y % 2 ^ 24) 255 (omega arith) (omega arith) ∙ (λ i. and_mask (y / 2 ^ 24) 8 i * 2 ^ 24 + and_mask (y % 2 ^ 24) 8 i) in
    let all : bit_and x 0x0000_ff00_00ff_0000 ≡ bit_and y 0xff00_00ff * 2 ^ 16 + bit_and (x % 2 ^ 16) 0 =
    ap (λ z. bit_and z 0x0000_ff00_00ff_0000) e ∙ and_block 16 y 0xff00_00ff (x % 2 ^ 16) 0 (omega arith) (omega arith) in
    (omega (arith, low, all, none), omega (arith, low, all, none))

-- eight bytes, by what each is above that of midnight
bytes : (text : List ℕ) → IsEightBytes text → number_l 256 text < 2 ^ 64 → (a b c d e f g h : ℕ) → a < 10 → b < 10 → c < 10 → d < 10 → e < 10 → f < 10 → g < 10 → h < 10
    → a + 256 * (b + 256 * (c + 256 * (d + 256 * (e + 256 * (f + 256 * (g + 256 * h)))))) ≡ (number_l 256 text + (2 ^ 64 - 0x3030_3a30_303a_3030)) % 2 ^ 64
    → text ≡ (48 + a) ∷ (48 + b) ∷ (58 + c) ∷ (48 + d) ∷ (48 + e) ∷ (58 + f) ∷ (48 + g) ∷ (48 + h) ∷ []
bytes text eight fits a b c d e f g h A B C D E F G H is =
    let above = (48 + a) ∷ (48 + b) ∷ (58 + c) ∷ (48 + d) ∷ (48 + e) ∷ (58 + f) ∷ (48 + g) ∷ (48 + h) ∷ [] in
    let small : AllBelowBase 256 above = (omega arith, (omega arith, (omega arith, (omega arith, (omega arith, (omega arith, (omega arith, (omega arith, tt)))))))) in
    let same : number_l 256 above ≡ number_l 256 text = omega (arith, is, fits) in
    bytes_are text 8 (number_l 256 text) eight refl ∙ sym (bytes_are above 8 (number_l 256 text) (refl, small) same)

-- the pairs of digits
values : (a b d e g h lanes : ℕ) → a < 10 → b < 10 → d < 10 → e < 10 → g < 10 → h < 10
    → lanes ≡ a + 256 * (b + 256 * (0 + 256 * (d + 256 * (e + 256 * (0 + 256 * (g + 256 * h))))))
    → let pairs = (lanes * 10 % 2 ^ 64 + lanes / 2 ^ 8) % 2 ^ 64 in (pairs % 256 ≡ 10 * a + b) × (pairs / 2 ^ 24 % 256 ≡ 10 * d + e) × (pairs / 2 ^ 48 % 256 ≡ 10 * g + h)
values a b d e g h lanes A B D E G H is = (omega arith, omega arith, omega arith)

-- the text of the second that they name
spelled : (a b d e g h s : ℕ) → a < 10 → b < 10 → d < 10 → e < 10 → g < 10 → h < 10 → 10 * d + e ≤ 59 → 10 * g + h ≤ 59 → s ≡ (10 * a + b) * 3600 + (10 * d + e) * 60 + (10 * g + h) → s < 86400
    → 45 ∷ (48 + a) ∷ (48 + b) ∷ 58 ∷ (48 + d) ∷ (48 + e) ∷ 58 ∷ (48 + g) ∷ (48 + h) ∷ [] ≡ drop 10 (time_text_of s)
unfolding time_text_of fields_of
spelled a b d e g h s A B D E G H M S is day =
    let hour : s % 86400 / 3600 ≡ 10 * a + b = omega arith in
    let minute : s % 86400 % 3600 / 60 ≡ 10 * d + e = omega arith in
    let second : s % 86400 % 60 ≡ 10 * g + h = omega arith in
    rw (hour, minute, second) (text_from_reads _ _ refl (refl, (omega arith, (omega arith, (refl, (omega arith, (omega arith, (refl, (omega arith, (omega arith, tt))))))))))

-- the first byte and the others
first_of : (text : List ℕ) → length text ≡ 9 → get_or text 0 0 ≡ 45 → text ≡ 45 ∷ take 8 (drop 1 text)
first_of [] long dash = absurd (omega (arith, long))
first_of (b ∷ bs) long dash = λ i. dash i ∷ sym (take_all 8 bs (omega (arith, long))) i

clock : (text : List ℕ) (lanes a b x d e y g h hour minute second : ℕ) → length text ≡ 9 → get_or text 0 0 ≡ 45 → IsEightBytes (take 8 (drop 1 text)) → number_l 256 (take 8 (drop 1 text)) < 2 ^ 64
    → lanes ≡ (number_l 256 (take 8 (drop 1 text)) + (2 ^ 64 - 0x3030_3a30_303a_3030)) % 2 ^ 64 → AllBelowBase 10 (a ∷ b ∷ x ∷ d ∷ e ∷ y ∷ g ∷ h ∷ []) → bit_and lanes 0x0000_ff00_00ff_0000 ≡ 0
    → a + 256 * (b + 256 * (x + 256 * (d + 256 * (e + 256 * (y + 256 * (g + 256 * h)))))) ≡ lanes
    → let pairs = (lanes * 10 % 2 ^ 64 + lanes / 2 ^ 8) % 2 ^ 64 in hour ≡ pairs % 256 → minute ≡ pairs / 2 ^ 24 % 256 → second ≡ pairs / 2 ^ 48 % 256 → hour ≤ 23 → minute ≤ 59 → second ≤ 59
    → (text ≡ drop 10 (time_text_of (hour * 3600 + minute * 60 + second))) × (hour * 3600 + minute * 60 + second < 86400)
clock text lanes a b x d e y g h hour minute second long dash eight fits is (A, (B, (X, (D, (E, (Y, (G, (H, _)))))))) none whole hours minutes seconds h59 m59 s59 =
    let colon = colons lanes none in
    let p : x ≡ 0 = omega (arith, colon.0, whole, A, B, X, D, E, Y, G, H) in
    let q : y ≡ 0 = omega (arith, colon.1, whole, A, B, X, D, E, Y, G, H) in
    let v = values a b d e g h lanes A B D E G H (sym whole ∙ (λ i. a + 256 * (b + 256 * (p i + 256 * (d + 256 * (e + 256 * (q i + 256 * (g + 256 * h)))))))) in
    let day : hour * 3600 + minute * 60 + second < 86400 = omega (arith, h59, m59, s59) in (
      first_of text long dash ∙ ap (λ f. 45 ∷ f) (bytes (take 8 (drop 1 text)) eight fits a b x d e y g h A B X D E Y G H (whole ∙ is))
          ∙ (λ i. 45 ∷ (48 + a) ∷ (48 + b) ∷ (58 + p i) ∷ (48 + d) ∷ (48 + e) ∷ (58 + q i) ∷ (48 + g) ∷ (48 + h) ∷ [])
          ∙ spelled a b d e g h (hour * 3600 + minute * 60 + second) A B D E G H (omega (arith, minutes, v.1, m59)) (omega (arith, seconds, v.2, s59)) (λ i. (hours ∙ v.0) i * 3600 + (minutes ∙ v.1) i * 60 + (seconds ∙ v.2) i) day,
      day,
    )

pub returns : goal.returns
returns c =
    let text = c.args.text.now in
    let back : take (length text - 1) (drop 1 text) ≡ drop 1 text = take_all (length text - 1) (drop 1 text) (omega (arith, length-drop 1 text)) in
    let word = c.first_eight-lanes.ensures ∙ ap (λ t. number_l 256 (take 8 t)) back in
    let eight = eight_at text 1 (λ i. (c.type_inv.text i).fits) (omega (arith, c.requires)) in
    let lanes = (c.first_eight-lanes.result + 14974404782364938192) % 2 ^ 64 in
    clock text lanes (lanes % 256) (lanes / 256 % 256) (lanes / 256 / 256 % 256) (lanes / 256 / 256 / 256 % 256) (lanes / 256 / 256 / 256 / 256 % 256) (lanes / 256 / 256 / 256 / 256 / 256 % 256) (lanes / 256 / 256 / 256 / 256 / 256 / 256 % 256) (lanes / 256 / 256 / 256 / 256 / 256 / 256 / 256 % 256) _ _ _ c.requires c.if-text-ne45.false eight (rw word at c.first_eight-lanes.type_inv) (ap (λ w. (w + 14974404782364938192) % 2 ^ 64) word)
    (c.mark_from_ten.ensures.none c.if-mark_from_ten-ne0.false) c.if-lanes-ne0.false (omega arith) refl refl refl c.if-hour-gt23.false c.if-minute-gt59.false c.if-second-gt59.false
