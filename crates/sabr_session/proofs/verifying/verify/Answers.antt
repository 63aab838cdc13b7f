-- Nothing was read if there is no index.
use Rattle.std.proofs.Common.{[], inr, refl}
use Rattle.std.proofs.lemmas.Result.{err_from_is_err_and}
use Rattle.sabr_model.proofs.ListLemmas.ReadTexts.{Gives-nil}
use Rattle.sabr_session.proofs.verifying.verify.Goals as goal

pub returns-in_err-index : goal.returns-in_err-index
returns-in_err-index g c =
    let p = err_from_is_err_and c.from_residual.result c.from_residual.ensures.1 in
    rw (p.1, p.2) (record { given = []; gives = Gives-nil (g.R.Read.input c.args.reader.now); told = inr (inr (refl, refl)) })
