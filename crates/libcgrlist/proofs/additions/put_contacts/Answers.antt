use Rattle.std.proofs.Common.{inl, inr, ⊎_elim, arith}
use Rattle.libcgrlist.specs.Changes.{contact_put}
use Rattle.libcgrlist.proofs.AdditionLemmas.{put_end, put_more, put_refused}
use Rattle.libcgrlist.proofs.additions.put_contacts.Goals as goal

pub returns-in-Err : goal.returns-in-Err
returns-in-Err c =
    ⊎_elim (λ m. inl m)
    (λ e. inr (put_refused contact_put c.loop-place.plan.plan c.args.contacts.now c.loop-place.place c.in-Err.status (record { from = 0; to = 0; start = 0; end = 0; rate = 0 }) _ c.loop-place-test.true e c.loop-place.invariant))
    c.in-Err.ensures

pub loop-place-preserved : goal.loop-place-preserved
loop-place-preserved c =
    put_more contact_put c.loop-place.plan.plan c.put_contact.new.plan.plan c.args.contacts.now c.loop-place.place (record { from = 0; to = 0; start = 0; end = 0; rate = 0 }) _ c.loop-place-test.true c.in_default.ensures c.loop-place.invariant

pub returns : goal.returns
returns c = put_end contact_put c.loop-place.plan.plan c.args.contacts.now c.loop-place.place _ (omega (arith, c.loop-place-test.false)) c.loop-place.invariant
