-- A number comes after the blanks.
use Rattle.sabr_plan.proofs.PlainWords.{ended_ahead, graphic_number}
use Rattle.sabr_plan.proofs.fast_line.number_ahead.Goals as goal

pub returns-clause-word : goal.returns-clause-word
returns-clause-word c =
    let gap = c.in_ok-start.ensures.gap in
    let d = c.leading_digits-value.ensures in
    let n = c.in_ok-value.ensures in
    record { start = _; gap = gap.0; some = gap.1; front = record { word = _; parts = d.parts; graphic = graphic_number _ (n.some, d.digits.digits); holds = n.value } }

pub returns-clause-ended : goal.returns-clause-ended
returns-clause-ended c = ended_ahead (returns-clause-word c) c.requires.ended
