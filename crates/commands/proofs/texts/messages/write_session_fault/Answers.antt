use Rattle.std.proofs.Common.{◌≡◌, Some, None, sym, ◌∙◌}
use Rattle.commands.specs.texts.Messages.{session_line}
use Rattle.commands.proofs.texts.messages.write_session_fault.Goals as goal

pub returns-in-None : goal.returns-in-None
returns-in-None g c =
    let none : session_line c.args.fault ≡ None = sym c.session_line.ensures ∙ c.in-None.is in
    rw none (rw (c.as_bytes.ensures.value, c.session_kind_text-kind.ensures) at c.write_pieces.ensures)

pub returns-in-Some : goal.returns-in-Some
returns-in-Some g c =
    let some : session_line c.args.fault ≡ Some c.in-Some.line = sym c.session_line.ensures ∙ c.in-Some.is in
    rw some (rw c.session_kind_text-kind.ensures at c.write_line.ensures)
