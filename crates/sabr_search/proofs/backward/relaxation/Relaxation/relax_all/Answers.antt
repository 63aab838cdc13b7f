use Rattle.std.proofs.Common.{◌<◌, length, refl, sym, ◌∙◌, arith}
use Rattle.sabr_search.proofs.ForwardLemmas.FirstWays.{read_flag}
use Rattle.sabr_search.proofs.BackwardLemmas.Relaxing.{next_inside, skipped, begun, finished, all_relaxed}
use Rattle.sabr_search.proofs.backward.relaxation.Relaxation.relax_all.Goals as goal

pub loop-init : goal.loop-init
loop-init g c = record { relaxing = c.requires.relaxing; rises = λ k. omega arith }

pub index-requires : goal.index-requires
index-requires g c =
    let was = c.loop.invariant.relaxing in
    omega (arith, was.flags, next_inside c.args.backward.now c.loop.self c.in-Some.event _ was c.in-Some.ensures.moved)

pub index_mut-requires : goal.index_mut-requires
index_mut-requires g c =
    let was = c.loop.invariant.relaxing in
    omega (arith, was.flags, next_inside c.args.backward.now c.loop.self c.in-Some.event _ was c.in-Some.ensures.moved)

pub relax_senders-requires-clause-node : goal.relax_senders-requires-clause-node
relax_senders-requires-clause-node g c = next_inside c.args.backward.now c.loop.self c.in-Some.event _ c.loop.invariant.relaxing c.in-Some.ensures.moved

pub relax_senders-requires-clause-relaxing : goal.relax_senders-requires-clause-relaxing
relax_senders-requires-clause-relaxing g c = begun c.args.backward.now c.loop.self _ c.in-Some.event c.loop.invariant.relaxing c.in-Some.ensures.moved refl refl refl

pub returns-in_default-clause-relaxed : goal.returns-in_default-clause-relaxed
returns-in_default-clause-relaxed g c = all_relaxed c.args.backward.now c.loop.self c.loop.invariant.relaxing c.in_default.ensures.none

pub loop-preserved-then-index : goal.loop-preserved-then-index
loop-preserved-then-index g c =
    let was = c.loop.invariant.relaxing in
    let within : c.in-Some.event.node < length c.loop.self.relaxed.items = omega (arith, was.flags, next_inside c.args.backward.now c.loop.self c.in-Some.event _ was c.in-Some.ensures.moved) in
    record { rises = c.loop.invariant.rises; relaxing = skipped c.args.backward.now c.loop.self _ c.in-Some.event was c.in-Some.ensures.moved refl refl refl (sym (read_flag c.loop.self.relaxed.items c.in-Some.event.node c.index.result.now within c.index.ensures) ∙ c.if-index.true) }

pub loop-preserved : goal.loop-preserved
loop-preserved g c = record { rises = λ k. omega (arith, c.loop.invariant.rises k, c.in_ok-relax_senders.ensures.rises k); relaxing = finished c.args.backward.now _ c.in-Some.event.node c.in_ok-relax_senders.ensures.relaxing c.in_ok-relax_senders.ensures.relaxed }
