use Rattle.std.proofs.Common.{sym, ◌∙◌, true, false}
use Rattle.sabr_session.proofs.WordLemmas.SpacedWords.{label-short, label-front}
use Rattle.sabr_session.proofs.reading.first_lines.after_label.Goals as goal

pub returns-then-text-label : goal.returns-then-text-label
returns-then-text-label c = sym (label-short c.args.label.now c.args.text.now c.if-text-label.true)

pub returns-then-eq : goal.returns-then-eq
returns-then-eq c =
    sym (label-front c.args.label.now c.args.text.now c.split_at.result.0.now c.split_at.result.1.now true c.split_at.ensures.front c.split_at.ensures.back (sym c.eq.ensures ∙ c.if-eq.true))

pub returns-else-eq : goal.returns-else-eq
returns-else-eq c =
    sym (label-front c.args.label.now c.args.text.now c.split_at.result.0.now c.split_at.result.1.now false c.split_at.ensures.front c.split_at.ensures.back (sym c.eq.ensures ∙ c.if-eq.false))
