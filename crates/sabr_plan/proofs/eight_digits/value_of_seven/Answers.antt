-- Each multiplication adds to a lane the one before it, times 10 or 100.
use Rattle.sabr_plan.proofs.Names.{◌≡◌, ℕ, ◌+◌, ◌*◌, ◌/◌, ◌%◌, ◌^◌, ◌<◌, [], ◌∷◌, refl, ap, ◌∙◌, arith, bit_and, and_block, and_mask}
use Rattle.sabr_plan.proofs.eight_digits.value_of_seven.Goals as goal

-- the mask keeps the first of two bytes
masked : (x m : ℕ) → bit_and x (m * 2 ^ 16 + 255) ≡ bit_and (x / 2 ^ 16) m * 2 ^ 16 + x % 256
masked x m =
    let e : x ≡ x / 2 ^ 16 * 2 ^ 16 + x % 2 ^ 16 = omega arith in
    ap (λ y. bit_and y (m * 2 ^ 16 + 255)) e ∙ and_block 16 (x / 2 ^ 16) m (x % 2 ^ 16) 255 (omega arith) (omega arith)
    ∙ ap (λ y. bit_and (x / 2 ^ 16) m * 2 ^ 16 + y) (and_mask (x % 2 ^ 16) 8 ∙ omega arith)

all : (x : ℕ) → bit_and x 0x00ff_00ff_00ff_00ff ≡ ((x / 2 ^ 48 % 256 * 2 ^ 16 + x / 2 ^ 32 % 256) * 2 ^ 16 + x / 2 ^ 16 % 256) * 2 ^ 16 + x % 256
all x =
    let a : x / 2 ^ 16 / 2 ^ 16 ≡ x / 2 ^ 32 = omega arith in
    let b : x / 2 ^ 32 / 2 ^ 16 ≡ x / 2 ^ 48 = omega arith in
    rw (masked x 0x00ff_00ff_00ff, masked (x / 2 ^ 16) 0x00ff_00ff, a, masked (x / 2 ^ 32) 255, b, and_mask (x / 2 ^ 48) 8) refl

-- a, b, c and d are a digit and three pairs of digits
joined : (a b c d : ℕ) → a < 10 → b < 100 → c < 100 → d < 100
    → let fours = (((d * 2 ^ 16 + c) * 2 ^ 16 + b) * 2 ^ 16 + a) * 6553601 % 2 ^ 64 in fours / 65536 % 65536 * 10000 + fours / 2 ^ 48 ≡ a * 1000000 + b * 10000 + c * 100 + d
joined a b c d A B C D = omega arith

pub returns : goal.returns
returns c (z ∷ a ∷ b ∷ d ∷ e ∷ f ∷ g ∷ h ∷ []) digits is =
    let word = c.args.word in
    let x = word * 2561 % 2 ^ 64 in
    let zero : z ≡ 0 = omega arith in
    let low : word % 2 ^ 56 ≡ a + 256 * (b + 256 * (d + 256 * (e + 256 * (f + 256 * (g + 256 * h))))) = omega arith in
    let sums : x % 2 ^ 56 ≡ a + 256 * (10 * a + b + 256 * (10 * b + d + 256 * (10 * d + e + 256 * (10 * e + f + 256 * (10 * f + g + 256 * (10 * g + h)))))) = omega arith in
    let one : x % 256 ≡ a = omega arith in
    let two : x / 2 ^ 16 % 256 ≡ 10 * b + d = omega arith in
    let three : x / 2 ^ 32 % 256 ≡ 10 * e + f = omega arith in
    let four : x / 2 ^ 48 % 256 ≡ 10 * g + h = omega arith in
    rw (all x, one, two, three, four, joined a (10 * b + d) (10 * e + f) (10 * g + h) (omega arith) (omega arith) (omega arith) (omega arith)) (omega arith)
returns c ds digits is = absurd (omega arith)
