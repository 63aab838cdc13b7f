use Rattle.std.proofs.Common.{◌≡◌, ◌-◌, ◌<◌, length, ap, sym, ◌∙◌, arith}
use Rattle.std.proofs.lemmas.Grind.{common_steps}
use Rattle.std.proofs.lemmas.List.{take_rest}
use Rattle.commands.specs.words.Lines.{asked_at, fault_of}
use Rattle.commands.proofs.WordLemmas.TextLines.{last_bad, last_good, none_left}
use Rattle.commands.proofs.words.lines.last_fault.Goals as goal

pub returns-then-is_empty : goal.returns-then-is_empty
returns-then-is_empty c =
    let none : length c.args.text.now - c.args.judged.bytes ≡ 0 = grind (arith, common_steps, c.is_empty.ensures, c.if-is_empty.true) in
    sym (none_left c.args.form c.args.text.now c.args.judged c.requires.judged c.requires.rest none)

pub returns-in-Some : goal.returns-in-Some
returns-in-Some c =
    let some : 0 < length c.args.text.now - c.args.judged.bytes = grind (arith, common_steps, c.is_empty.ensures, c.if-is_empty.false) in
    let bad = ap (λ line. fault_of (asked_at c.args.form c.args.judged.number line)) (sym (take_rest c.args.text.now c.args.judged.bytes)) ∙ sym c.fault_at.ensures.value ∙ c.in-Some.is in
    sym (last_bad c.args.form c.args.text.now c.args.judged c.requires.judged c.requires.rest c.in-Some.kind some bad)

pub returns-in-None : goal.returns-in-None
returns-in-None c =
    let some : 0 < length c.args.text.now - c.args.judged.bytes = grind (arith, common_steps, c.is_empty.ensures, c.if-is_empty.false) in
    let good = ap (λ line. fault_of (asked_at c.args.form c.args.judged.number line)) (sym (take_rest c.args.text.now c.args.judged.bytes)) ∙ sym c.fault_at.ensures.value ∙ c.in-None.is in
    sym (last_good c.args.form c.args.text.now c.args.judged c.requires.judged c.requires.rest some good)
