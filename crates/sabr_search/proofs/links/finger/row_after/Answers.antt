use Rattle.std.proofs.Common.{◌≡◌, ◌+◌, ◌-◌, get_or, ap, ◌∙◌, arith}
use Rattle.sabr_search.proofs.LinkLemmas.Rising.{row_has}
use Rattle.sabr_search.proofs.links.finger.row_after.Goals as goal

pub returns-then-numbers-place-2-clause-some : goal.returns-then-numbers-place-2-clause-some
returns-then-numbers-place-2-clause-some c = λ j less.
    let first : get_or c.args.numbers.now c.args.place 0 ≡ c.args.number + 1 = omega (arith, c.if-numbers-place.false) in
    row_has c.args.numbers.now c.requires c.args.place c.loop-more.more c.args.number j c.loop-more.invariant.within first c.if-numbers-place-2.true less

pub returns-clause-some : goal.returns-clause-some
returns-clause-some c = λ j less.
    let first : get_or c.args.numbers.now c.args.place 0 ≡ c.args.number + 1 = omega (arith, c.if-numbers-place.false) in
    let last : get_or c.args.numbers.now (c.args.place + 1 - 1) 0 ≡ c.args.number + 1 = ap (λ k. get_or c.args.numbers.now k 0) (omega arith) ∙ first in
    row_has c.args.numbers.now c.requires c.args.place 1 c.args.number j (omega (arith, c.loop-more.invariant.within, less)) first last (omega (arith, less, c.loop-more-test.false))
