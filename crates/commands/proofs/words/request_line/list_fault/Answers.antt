use Rattle.std.proofs.Common.{ap, sym, ◌∙◌}
use Rattle.commands.specs.words.Lines.{fault_of}
use Rattle.commands.specs.words.Values.{texts_given}
use Rattle.commands.proofs.WordLemmas.RequestWords.{fault_listed, not_contacts, not_texts}
use Rattle.commands.proofs.words.request_line.list_fault.Goals as goal

pub returns-in_default : goal.returns-in_default
returns-in_default c = sym (ap fault_of (not_texts c.args.line.now (rw c.in_default.is at c.list_texts_in.ensures)))

pub returns-then-not-are_contacts : goal.returns-then-not-are_contacts
returns-then-not-are_contacts c =
    sym (ap fault_of (not_contacts c.args.line.now c.in-Some.contacts.now (texts_given c.in-Some.texts) (rw c.in-Some.is at c.list_texts_in.ensures) (sym c.are_contacts.ensures ∙ c.if-not-are_contacts.true)))

pub returns : goal.returns
returns c =
    c.err.ensures.value
    ∙ sym (fault_listed c.args.line.now c.in-Some.contacts.now (texts_given c.in-Some.texts) (rw c.in-Some.is at c.list_texts_in.ensures) (sym c.are_contacts.ensures ∙ c.if-not-are_contacts.false) c.request_or_kind.result (sym c.request_or_kind.ensures))
