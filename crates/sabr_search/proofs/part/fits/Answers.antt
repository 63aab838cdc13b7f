use Rattle.std.proofs.Common.{◌≡◌, ◌<◌, length, sym, arith}
use Rattle.std.proofs.lemmas.Bool.Decides.{nat_tests}
use Rattle.sabr_search.proofs.WayLemmas.Prefixes.{empty_fits, route_is_no_prefix, wrong_end_tells, fault_is_no_prefix}
use Rattle.sabr_search.proofs.part.fits.Goals as goal

pub returns-then-is_empty : goal.returns-then-is_empty
returns-then-is_empty g c =
    let none : length c.args.part.prefix.now ≡ 0 = grind (arith, nat_tests) in
    sym (empty_fits c.args.plan.now.plan c.args.request.now c.args.part.prefix.now none)

pub returns-in_default : goal.returns-in_default
returns-in_default g c = sym (route_is_no_prefix c.args.plan.now.plan c.args.request.now c.args.part.prefix.now c.in_default.ensures.route)

pub returns-in-WrongEnd : goal.returns-in-WrongEnd
returns-in-WrongEnd g c =
    wrong_end_tells c.args.plan.now.plan c.args.request.now c.args.part.prefix.now c.in-Err.fault c.to.result c.enters.result c.in-Err.ensures.fault c.in-WrongEnd.is c.to.ensures.value c.enters.ensures

pub returns-in_default-fault : goal.returns-in_default-fault
returns-in_default-fault g c =
    let some : 0 < length c.args.part.prefix.now = grind (arith, nat_tests) in
    sym (fault_is_no_prefix c.args.plan.now.plan c.args.request.now c.args.part.prefix.now c.in-Err.fault some c.in-Err.ensures.fault c.in_default-fault.not-WrongEnd)
