-- The bytes of a time begin with those of its day.
use Rattle.sabr_plan.proofs.Names.{arith}
use Rattle.core.proofs.dec2flt.Eight.{eight_at}
use Rattle.sabr_plan.proofs.Spelling.{date_of, date_bytes}
use Rattle.sabr_plan.proofs.known_day.KnownDay.meet.Goals as goal

pub invariant_of-self : goal.invariant_of-self
invariant_of-self c =
    let text = c.args.text.now in
    let time = c.in_ok-time.ensures.some in
    let eight = eight_at text 0 (λ i. (c.type_inv.text i).fits) (omega (arith, c.requires)) in
    let day = date_of text c.in_ok-time.time time.0 time.1 in
    record { known = rw c.first_eight.ensures (rw (date_bytes text eight (omega (arith, c.requires))) at day) }
