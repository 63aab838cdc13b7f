use Rattle.sabr_plan.proofs.Names.{◌≡◌, ◌∙◌, ◌+◌, ◌-◌, get_or, map, drop, ap, arith, insert_entry, by_key}
use Rattle.sabr_plan.specs.Gathering.{keyed}
use Rattle.sabr_plan.proofs.SortedRanges.{no_range}
use Rattle.sabr_plan.proofs.RangeTrees.{tree_of, planted_more}
use Rattle.sabr_plan.proofs.gathering.range_tree.plant.Goals as goal

pub invariant_of-result : goal.invariant_of-result
invariant_of-result g c =
    let rs = c.args.ranges.now in
    let none : c.loop-left.left ≡ 0 = omega (arith, c.loop-left-test.false) in
    (tree_of c.loop-left.planted rs (c.loop-left.invariant.1 ∙ ap (λ k. map keyed (drop k rs)) none) c.requires).0

pub returns : goal.returns
returns g c =
    let rs = c.args.ranges.now in
    let none : c.loop-left.left ≡ 0 = omega (arith, c.loop-left-test.false) in
    (tree_of c.loop-left.planted rs (c.loop-left.invariant.1 ∙ ap (λ k. map keyed (drop k rs)) none) c.requires).1

pub loop-left-preserved : goal.loop-left-preserved
loop-left-preserved g c =
    let rs = c.args.ranges.now in
    let before = c.loop-left.planted.entries in
    let k = c.loop-left.left - 1 in
    let range = get_or rs k no_range in
    let low = c.loop-left.invariant.0 in
    let next : c.loop-left.left ≡ k + 1 = omega (arith, c.loop-left-test.true) in
    let is = ap (λ e. insert_entry by_key before e range) c.key.ensures in
    let more = planted_more rs k no_range before c.requires (omega (arith, low, next)) (c.loop-left.invariant.1 ∙ ap (λ j. map keyed (drop j rs)) next) in
    (omega (arith, low), c.in-Ok.ensures.entries ∙ is ∙ more)
