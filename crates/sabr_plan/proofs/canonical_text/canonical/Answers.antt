-- The four parts of the text are written in turn.
use Rattle.sabr_plan.proofs.Names.{◌++◌, append_assoc, codes, flat_map, err_from_is_err_and}
use Rattle.sabr_model.proofs.ListLemmas.WrittenTexts.{WrittenInPart-after, WrittenInPart-more, WritesText-after}
use Rattle.sabr_plan.specs.Canonical.{contact_line, range_line, canonical_text}
use Rattle.sabr_plan.proofs.canonical_text.canonical.Goals as goal

pub returns-in_err-write_text : goal.returns-in_err-write_text
unfolding canonical_text
returns-in_err-write_text g c =
    let p = err_from_is_err_and c.from_residual.result c.from_residual.ensures.1 in
    rw p.1 (simp append_assoc (WrittenInPart-more (g.W.Write.output c.args.writer.now) (g.W.Write.output c.write_text.new.writer) _ _ c.in_err-write_text.ensures))

pub returns-in_err-write_lines : goal.returns-in_err-write_lines
unfolding canonical_text
returns-in_err-write_lines g c =
    let p = err_from_is_err_and c.from_residual-in_err-write_lines.result c.from_residual-in_err-write_lines.ensures.1 in
    let shown = g.W.Write.output in
    let h = rw c.contacts.ensures.value at c.in_err-write_lines.ensures in
    rw p.1 (simp append_assoc (WrittenInPart-after (shown c.args.writer.now) (shown c.write_text.new.writer) (shown c.write_lines.new.writer) _ _ c.in_ok-write_text.ensures (WrittenInPart-more (shown c.write_text.new.writer) (shown c.write_lines.new.writer) _ _ h)))

pub returns-in_err-write_lines-2 : goal.returns-in_err-write_lines-2
unfolding canonical_text
returns-in_err-write_lines-2 g c =
    let p = err_from_is_err_and c.from_residual-in_err-write_lines-2.result c.from_residual-in_err-write_lines-2.ensures.1 in
    let shown = g.W.Write.output in
    let second = rw c.contacts.ensures.value at c.in_ok-write_lines.ensures in
    let h = rw c.ranges-2.ensures at c.in_err-write_lines-2.ensures in
    rw p.1 (simp append_assoc (WrittenInPart-after (shown c.args.writer.now) (shown c.write_text.new.writer) (shown c.write_lines-2.new.writer) _ _ c.in_ok-write_text.ensures (WrittenInPart-after (shown c.write_text.new.writer) (shown c.write_lines.new.writer) (shown c.write_lines-2.new.writer) _ _ second (WrittenInPart-more (shown c.write_lines.new.writer) (shown c.write_lines-2.new.writer) _ _ h))))

pub returns : goal.returns
unfolding canonical_text
returns g c =
    let shown = g.W.Write.output in
    let second = rw c.contacts.ensures.value at c.in_ok-write_lines.ensures in
    let third = rw c.ranges-2.ensures at c.in_ok-write_lines-2.ensures in
    simp append_assoc (WritesText-after (shown c.args.writer.now) (shown c.write_text.new.writer) (shown c.write_text-2.new.writer) _ _ _ c.in_ok-write_text.ensures (WritesText-after (shown c.write_text.new.writer) (shown c.write_lines.new.writer) (shown c.write_text-2.new.writer) _ _ _ second (WritesText-after (shown c.write_lines.new.writer) (shown c.write_lines-2.new.writer) (shown c.write_text-2.new.writer) _ _ _ third c.write_text-2.ensures)))
