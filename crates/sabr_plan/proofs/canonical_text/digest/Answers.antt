-- The four parts of the text are fed in turn.
use Rattle.sabr_plan.proofs.Names.{[]}
use Rattle.sabr_plan.specs.Canonical.{canonical_text}
use Rattle.sabr_plan.proofs.canonical_text.digest.Goals as goal

pub returns : goal.returns
unfolding canonical_text
returns g c =
    let one = c.update.ensures [] c.new-hasher.ensures in
    let two = rw c.contacts.ensures.value at (c.feed_lines.ensures _ one) in
    let three = rw c.ranges-2.ensures at (c.feed_lines-2.ensures _ two) in
    c.finalize.ensures _ (c.update-2.ensures _ three)
