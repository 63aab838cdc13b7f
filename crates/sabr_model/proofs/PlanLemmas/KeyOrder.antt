-- The order of keys of three numbers, as inequations.
use Rattle.std.proofs.Common.{◌≡◌, ℕ, ◌+◌, ◌≤◌, Bool, true, false, refl, sym, ap, arith}
use Rattle.std.specs.Cmp.{IsTotalOrder}
use Rattle.std.specs.Ordering.{ordering_then, partial_ordering_then, is_lt, is_le, is_some_and}
use Rattle.std.specs.declared.cmp.Ordering.{Ordering}
use Rattle.std.specs.declared.cmp.Ordering.TheVariants.{Less, Equal, Greater}
use Rattle.std.specs.declared.option.Option.TheVariants.{Some}
use Rattle.std.proofs.lemmas.Cmp.{nat_cmp_total, on_total, then_total, tied_itself}
use Rattle.std.proofs.lemmas.Bool.Decides.{nat_tests}
use Rattle.sabr_model.specs.Order.{by_key}

pub by_key_total : IsTotalOrder by_key
by_key_total = then_total (then_total (on_total (λ x. x.0) nat_cmp_total) (on_total (λ x. x.1) nat_cmp_total)) (on_total (λ x. x.2) nat_cmp_total)

-- a key comes no later than another, and with a gap of 1 before it
pub record IsBy (gap : ℕ) (x y : ℕ × ℕ × ℕ) : Type 0 where
  pub first : x.0 ≤ y.0
  pub second : x.0 ≡ y.0 → x.1 ≤ y.1
  pub third : x.0 ≡ y.0 → x.1 ≡ y.1 → x.2 + gap ≤ y.2

pub less_is : (x y : ℕ × ℕ × ℕ) → by_key x y ≡ Less → IsBy 1 x y
less_is x y h = record { first = grind (arith, nat_tests); second = λ e. grind (arith, nat_tests); third = λ e f. grind (arith, nat_tests) }

pub le_is : (x y : ℕ × ℕ × ℕ) → is_le (by_key x y) ≡ true → IsBy 0 x y
le_is x y h = record { first = grind (arith, nat_tests); second = λ e. grind (arith, nat_tests); third = λ e f. grind (arith, nat_tests) }

pub not_less_is : (x y : ℕ × ℕ × ℕ) → is_lt (by_key x y) ≡ false → IsBy 0 y x
not_less_is x y h = record { first = grind (arith, nat_tests); second = λ e. grind (arith, nat_tests); third = λ e f. grind (arith, nat_tests) }

pub is_le_by : (x y : ℕ × ℕ × ℕ) → IsBy 0 x y → is_le (by_key x y) ≡ true
is_le_by x y h = grind (arith, nat_tests)

pub le_itself : (x : ℕ × ℕ × ℕ) → is_le (by_key x x) ≡ true
le_itself x = ap is_le (tied_itself by_key_total x)

pub by_more : {gap more : ℕ} {x y z : ℕ × ℕ × ℕ} → IsBy gap x y → IsBy more y z → IsBy 0 x z
by_more a b = record { first = omega (arith, a.first, b.first); second = λ e. omega (arith, a.first, a.second, b.first, b.second, e); third = λ e f. omega (arith, a.first, a.second, a.third, b.first, b.second, b.third, e, f) }

pub not_both : {x y : ℕ × ℕ × ℕ} → IsBy 0 x y → IsBy 1 y x → ⊥
not_both {x} {y} a b =
    let one : x.0 ≡ y.0 = omega (arith, a.first, b.first) in
    let other : x.1 ≡ y.1 = omega (arith, a.second one, b.second (sym one)) in
    omega (arith, a.third one other, b.third (sym one) (sym other))

-- what a comparison of two keys tells
pub told_by : (test : Ordering → Bool) (o p q : Ordering) → is_some_and test (partial_ordering_then (partial_ordering_then (Some o) (Some p)) (Some q)) ≡ test (ordering_then (ordering_then o p) q)
told_by test Less p q = refl
told_by test Greater p q = refl
told_by test Equal Less q = refl
told_by test Equal Greater q = refl
told_by test Equal Equal q = refl
