-- A number has at most 20 digits.
use Rattle.sabr_plan.proofs.Names.{◌≡◌, ℕ, ◌<◌, ◌≤◌, ◌+◌, ◌++◌, ◌∙◌, List, length, decimal, ap, arith, length-append, length-drop}
use Rattle.std.proofs.lemmas.Fmt.{length-decimal-le}
use Rattle.sabr_plan.proofs.record_line.RecordLine.put_number.Goals as goal

few : (n : ℕ) → n < 18446744073709551616 → length (decimal n) ≤ 20
few n h = length-decimal-le 20 n (omega arith) (omega (arith, h)) (omega (arith, h))

-- a line and what was put before it
more : (old new back digits : List ℕ) → back ≡ old → new ≡ digits ++ back → length new ≡ length digits + length old
more old new back digits same is = ap length is ∙ length-append digits back ∙ ap (λ (xs : List ℕ). length digits + length xs) same

pub write_digits-self-inside-requires : goal.write_digits-self-inside-requires
write_digits-self-inside-requires c =
    let back = length-drop c.self.inside.start c.self.inside.bytes in
    let same = ap (λ (xs : List ℕ). length xs) c.self.view_is in
    (omega (arith, few c.args.number c.ranges.number.fits, back, same, c.requires), omega (arith, c.self.invariant))

pub put-requires : goal.put-requires
put-requires c =
    let long = more _ _ _ _ c.self.view_is c.write_digits-self-inside.ensures.written in
    omega (arith, few c.args.number c.ranges.number.fits, long, c.requires)

pub returns-clause-bound : goal.returns-clause-bound
returns-clause-bound c =
    let long = more _ _ _ _ c.self.view_is c.write_digits-self-inside.ensures.written in
    let all = ap (λ (xs : List ℕ). length xs) c.put.ensures in
    omega (arith, few c.args.number c.ranges.number.fits, long, all)
