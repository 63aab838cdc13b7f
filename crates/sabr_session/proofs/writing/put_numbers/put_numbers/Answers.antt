use Rattle.std.proofs.Common.{◌∷◌, drop, suc, add-one}
use Rattle.sabr_session.specs.SessionText.{spaced_by}
use Rattle.sabr_session.proofs.TextLemmas.Gathering.{HasPut-nil, HasPut-append, Puts-stopped, Puts-after}
use Rattle.sabr_session.proofs.WordLemmas.ReadLists.{spaced_by-at, spaced_by-take}
use Rattle.sabr_session.proofs.writing.put_numbers.put_numbers.Goals as goal

pub loop-number-init : goal.loop-number-init
loop-number-init g c = HasPut-nil c.args.text.now

pub returns-in_err-put_number : goal.returns-in_err-put_number
returns-in_err-put_number g c =
    let xs = c.args.numbers.now in
    let i = c.loop-number.number-index in
    let x = c.number-item.result in
    rw (spaced_by-at g.N.Integer.text xs i x c.loop-number-test.true, ← c.number-item.is)
    (Puts-after _ _ _ _ c.loop-number.invariant
    (Puts-stopped _ (32 ∷ g.N.Integer.text x) (spaced_by g.N.Integer.text (drop (suc i) xs)) c.from_residual.result c.from_residual.ensures.1 (c.in_err-put_number.ensures {u = tt})))

pub loop-number-preserved : goal.loop-number-preserved
loop-number-preserved g c =
    rw (add-one, spaced_by-take g.N.Integer.text c.args.numbers.now c.loop-number.number-index c.number-item.result c.loop-number-test.true, ← c.number-item.is)
    (HasPut-append _ _ c.loop-number.invariant (c.in_ok-put_number.ensures {u = tt}))
