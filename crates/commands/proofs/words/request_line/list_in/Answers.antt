use Rattle.std.proofs.Common.{Ok, Err, Some, None, ap, sym, ◌∙◌, refl}
use Rattle.std.specs.Result.{result_ok}
use Rattle.commands.specs.words.Values.{texts_given}
use Rattle.commands.proofs.WordLemmas.RequestWords.{asked_by, not_texts}
use Rattle.commands.proofs.words.request_line.list_in.Goals as goal

pub returns-in_default : goal.returns-in_default
returns-in_default g c = sym (ap result_ok (not_texts c.args.line.now (rw c.in_default.is at c.list_texts_in.ensures)))

pub returns-in_default-2 : goal.returns-in_default-2
returns-in_default-2 g c =
    sym (ap result_ok (asked_by c.args.line.now c.in-Some.contacts.now (texts_given c.in-Some.texts) (rw c.in-Some.is at c.list_texts_in.ensures) None (sym (c.in_ok-contacts.ensures {u = tt}) ∙ c.in_default-2.is) _ refl))

pub returns-in-Ok : goal.returns-in-Ok
returns-in-Ok g c =
    sym (ap result_ok (asked_by c.args.line.now c.in-Some.contacts.now (texts_given c.in-Some.texts) (rw c.in-Some.is at c.list_texts_in.ensures) (Some c.in-Some-2.contacts) (sym (c.in_ok-contacts.ensures {u = tt}) ∙ c.in-Some-2.is) (Ok c.in-Ok.request) (sym c.request_or_kind.ensures ∙ c.in-Ok.is)))

pub returns-in-Err : goal.returns-in-Err
returns-in-Err g c =
    sym (ap result_ok (asked_by c.args.line.now c.in-Some.contacts.now (texts_given c.in-Some.texts) (rw c.in-Some.is at c.list_texts_in.ensures) (Some c.in-Some-2.contacts) (sym (c.in_ok-contacts.ensures {u = tt}) ∙ c.in-Some-2.is) (Err c.in-Err._kind) (sym c.request_or_kind.ensures ∙ c.in-Err.is)))
