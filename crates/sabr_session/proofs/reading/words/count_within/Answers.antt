use Rattle.std.proofs.Common.{◌≡◌, ℕ, ◌<◌, List, ap, sym, ◌∙◌, decimal, arith, None}
use Rattle.std.specs.Cmp.Lexicographic.{other_text, same_text}
use Rattle.std.specs.Str.{IsUtf8}
use Rattle.std.proofs.lemmas.Str.{IsUtf8-from_ascii}
use Rattle.std.proofs.lemmas.Fmt.{parse-decimal_wide, IsAscii-decimal_wide}
use Rattle.sabr_plan.specs.Numbers.{number_within}
use Rattle.sabr_plan.proofs.SpelledNumbers.{short128, number_within-unspelled, number_within-spelled_within}
use Rattle.sabr_session.proofs.reading.words.count_within.Goals as goal

unspelled : (text : List ℕ) → ((n : ℕ) → n < 340282366920938463463374607431768211456 → text ≡ decimal n → ⊥) → None ≡ number_within 0 340282366920938463463374607431768211455 text
unspelled text none = sym (number_within-unspelled 340282366920938463463374607431768211456 0 340282366920938463463374607431768211455 text (omega arith) none)

is_text : (bs : List ℕ) (n : ℕ) → n < 340282366920938463463374607431768211456 → bs ≡ decimal n → IsUtf8 bs
is_text bs n h e = rw e (IsUtf8-from_ascii (decimal n) (IsAscii-decimal_wide n (short128 n h)))

pub returns-in_default : goal.returns-in_default
returns-in_default c = unspelled c.args.text.now (λ n h e. c.in_default.ensures.cases.0 (is_text c.args.text.now n h e))

pub returns-in_default-parse : goal.returns-in_default-parse
returns-in_default-parse c =
    unspelled c.args.text.now (λ n h e. c.in_default-parse.not-Ok n (parse-decimal_wide 128 n c.in-Ok.digits.now c.parse.result h (short128 n h) (c.in-Ok.ensures.cases.0 ∙ e) c.parse.ensures.value.0))

pub returns-then-eq : goal.returns-then-eq
returns-then-eq c =
    let spelled : c.args.text.now ≡ decimal c.in-Ok-parse.count = sym (same_text _ _ (c.if-eq.ensures {u = tt})) ∙ c.as_bytes.ensures.value ∙ c.format.ensures.text in
    sym (number_within-spelled_within 0 340282366920938463463374607431768211455 c.args.text.now c.in-Ok-parse.count (short128 c.in-Ok-parse.count (omega arith)) spelled (omega arith) (omega arith))

pub returns-else-eq : goal.returns-else-eq
returns-else-eq c =
    unspelled c.args.text.now (λ n h e.
    let ok = parse-decimal_wide 128 n c.in-Ok.digits.now c.parse.result h (short128 n h) (c.in-Ok.ensures.cases.0 ∙ e) c.parse.ensures.value.0 in
    let is : c.in-Ok-parse.count ≡ n = cc (c.in-Ok-parse.is, ok) in
    let text : c.as_bytes.result.now ≡ c.args.text.now = c.as_bytes.ensures.value ∙ c.format.ensures.text ∙ ap decimal is ∙ sym e in
    other_text _ _ (c.if-eq.ensures {u = tt}) text)
