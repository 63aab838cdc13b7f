use Rattle.std.proofs.Common.{◌≡◌, Option, Some, None, Result, Ok, Err, refl, subst}
use Rattle.std.proofs.lemmas.Result.{err_from_is_err_and}
use Rattle.std.specs.Prelude.{IfOk, IfSome}
use Rattle.std.specs.Result.{result_ok}
use Rattle.commands.specs.declared.words.lines.LineKind.{LineKind}
use Rattle.commands.specs.words.Lines.{Asked, list_in, seen_list}
use Rattle.commands.proofs.runs.answering.answer_list.Goals as goal

-- what holds of all holds of what a line asks
of_all : (r : Result Asked LineKind) (P : Asked → Type 0) → ((a : Asked) → P a) → IfOk r P
of_all (Ok a) P all = all a
of_all (Err kind) P all = tt

-- what holds of what was read of a line, if something was, holds of what it asks
of_read : (r : Result Asked LineKind) (read : Option Asked) (P : Asked → Type 0) → read ≡ result_ok r → IfSome read P → IfOk r P
of_read (Ok a) (Some b) P is p =
    let same : b ≡ a = cc in
    subst P same p
of_read (Ok a) None P is p = absurd cc
of_read (Err kind) read P is p = tt

pub returns-in_default : goal.returns-in_default
returns-in_default g c = of_read _ None _ (rw c.in_default.is at c.in_ok-listed.ensures) tt

pub returns-in_err-listed : goal.returns-in_err-listed
returns-in_err-listed g c =
    let (failure, is, same) = err_from_is_err_and c.from_residual.result c.from_residual.ensures.1 in
    let out = g.O.Write.output c.args.out.now in
    rw (is, same) (of_all (list_in c.args.line.now) (λ a. out ≡ out) (λ a. refl))

pub returns-in_err-write_explained : goal.returns-in_err-write_explained
returns-in_err-write_explained g c =
    let (failure, is, same) = err_from_is_err_and c.from_residual-in_err-write_explained.result c.from_residual-in_err-write_explained.ensures.1 in
    rw (is, same) (of_read _ (Some (seen_list c.in-Some.listed)) _ (rw c.in-Some.is at c.in_ok-listed.ensures) c.in_err-write_explained.ensures)

pub returns : goal.returns
returns g c = of_read _ (Some (seen_list c.in-Some.listed)) _ (rw c.in-Some.is at c.in_ok-listed.ensures) c.in_ok-write_explained.ensures
