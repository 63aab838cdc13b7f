use Rattle.std.proofs.Common.{◌+◌, [], ◌∷◌, inl, inr, refl, arith}
use Rattle.sabr_search.proofs.ForwardLemmas.MadeLayers.{AreMade, layers_first, best_within, least_within, made_lists, made_sources, made_next, made_last, made_all, spent_more, spent_fewer, none_more}
use Rattle.sabr_search.proofs.forward.layers.Layers.make.Given.{Over}
use Rattle.sabr_search.proofs.forward.layers.Layers.make.Goals.{After-len-end, then-delivery-best, else-delivery-best, then-delivery-best-2, else-delivery-best-2}
use Rattle.sabr_search.proofs.forward.layers.Layers.make.Goals as goal

pub loop-hop-init : goal.loop-hop-init
loop-hop-init g c =
    let first = c.in_ok-first_layer.ensures in
    rw c.none-best.ensures (record {
      layers = (0 ∷ 1 ∷ [], refl, layers_first c.args.task.now c.args.until _ _ _ _ refl first.reached first.lists);
      counted = omega arith;
    })

pub next_layer-requires-clause-sources : goal.next_layer-requires-clause-sources
next_layer-requires-clause-sources g c = made_sources c.args.task.now c.requires.task c.args.until c.loop-hop.hop c.loop-hop.first _ _ _ _ c.loop-hop.best c.loop-hop.invariant.layers (omega (arith, c.len-begin.ensures, c.loop-hop.self.reached.ok.0))

pub next_layer-requires-clause-lists : goal.next_layer-requires-clause-lists
next_layer-requires-clause-lists g c = made_lists c.args.task.now c.requires.task c.args.until c.loop-hop.hop c.loop-hop.first _ _ _ _ c.loop-hop.best c.loop-hop.invariant.layers (omega (arith, c.len-begin.ensures, c.loop-hop.self.reached.ok.0))

-- one layer more
made : (g : Over) (c : After-len-end g) → AreMade c.args.task.now c.args.until (c.loop-hop.hop + 1) c.len-begin.result c.next_layer.new.self.arrival.items c.next_layer.new.self.place.items c.next_layer.new.self.reached.items c.if-delivery-best-2.best
made g c =
    made_next c.args.task.now c.requires.task c.args.until c.loop-hop.hop c.loop-hop.first c.len-begin.result _ _ _ c.loop-hop.best c.loop-hop.invariant.layers (omega (arith, c.len-begin.ensures, c.loop-hop.self.reached.ok.0)) _ _ _ c.in_ok-delivery.delivery c.in_ok-delivery.ensures.lowered c.in_ok-delivery.ensures.known c.if-delivery-best-2.best
    (elim c.if-delivery-best-2.branch [ then-delivery-best-2 w ↦ inl (w.if-delivery-best-2.true, w.best-is) | else-delivery-best-2 w ↦ inr (w.if-delivery-best-2.false, w.best-is) ])

pub returns-then-best-lower-clause-made : goal.returns-then-best-lower-clause-made
returns-then-best-lower-clause-made g c =
    best_within c.args.task.now c.args.until (c.loop-hop.hop + 1) _ _ _ _ _ (made g (goal.at.returns-then-best-lower-clause-made g c).After-len-end).2 c.args.hops (omega arith) (λ ns e le way. omega (arith, c.requires.lower ns e way, c.if-best-lower.true)) _ c.found-then-best-lower.ensures

pub returns-then-end-begin-clause-made : goal.returns-then-end-begin-clause-made
returns-then-end-begin-clause-made g c =
    let made = made g (goal.at.returns-then-end-begin-clause-made g c).After-len-end in
    best_within c.args.task.now c.args.until (c.loop-hop.hop + 1) _ _ _ _ _ made.2 c.args.hops (omega arith)
    (λ ns e le way. made_all c.args.task.now c.requires.task c.args.until (c.loop-hop.hop + 1) c.len-begin.result _ _ _ c.if-delivery-best-2.best made (omega (arith, c.len-end.ensures, c.next_layer.new.self.reached.ok.0, c.if-end-begin.true)) ns e way) _ c.found-then-end-begin.ensures

pub returns-then-hop-hops-clause-made : goal.returns-then-hop-hops-clause-made
returns-then-hop-hops-clause-made g c =
    let last = c.last_layer-delivery.ensures in
    made_last c.args.task.now c.requires.task c.args.until c.loop-hop.hop c.loop-hop.first _ _ _ c.loop-hop.best c.loop-hop.invariant.layers c.if-hop-gt0.true c.args.hops c.if-hop-hops.true c.last_layer-delivery.result last.lower last.known last.found c.if-delivery-best.best
    (elim c.if-delivery-best.branch [ then-delivery-best w ↦ inl (w.if-delivery-best.true, w.best-is) | else-delivery-best w ↦ inr (w.if-delivery-best.false, w.best-is) ]) _ c.found.ensures

pub loop-hop-preserved : goal.loop-hop-preserved
loop-hop-preserved g c = record {
  layers = made g (goal.at.loop-hop-preserved g c).After-len-end;
  counted = omega (arith, c.next_layer.ensures.looks, c.loop-hop.invariant.counted);
}

pub returns-clause-made : goal.returns-clause-made
returns-clause-made g c =
    let made = c.loop-hop.invariant.layers.2 in
    best_within c.args.task.now c.args.until c.loop-hop.hop _ _ _ _ _ made c.args.hops (omega arith) (λ ns e le way. least_within c.args.task.now c.requires.task c.args.until c.loop-hop.hop _ _ _ _ _ made ns e (omega (arith, le)) way) _ c.found-2.ensures

pub returns-then-one_scan-left-clause-counted : goal.returns-then-one_scan-left-clause-counted
returns-then-one_scan-left-clause-counted g c = spent_fewer _ _ _ _ _ (omega arith) c.loop-hop.invariant.counted

pub returns-then-one_scan-left-clause-stops : goal.returns-then-one_scan-left-clause-stops
returns-then-one_scan-left-clause-stops g c = none_more _ _ _ _ _ c.loop-hop-test.true c.loop-hop.invariant.counted (omega (arith, c.one_scan.ensures.value, c.if-one_scan-left.true, c.left.ensures))

pub returns-in_err-delivery-clause-counted : goal.returns-in_err-delivery-clause-counted
returns-in_err-delivery-clause-counted g c = spent_more _ _ _ _ _ _ c.loop-hop-test.true c.loop-hop.invariant.counted c.next_layer.ensures.looks

pub returns-then-best-lower-clause-counted : goal.returns-then-best-lower-clause-counted
returns-then-best-lower-clause-counted g c = spent_more _ _ _ _ _ _ c.loop-hop-test.true c.loop-hop.invariant.counted c.next_layer.ensures.looks

pub returns-then-end-begin-clause-counted : goal.returns-then-end-begin-clause-counted
returns-then-end-begin-clause-counted g c = spent_more _ _ _ _ _ _ c.loop-hop-test.true c.loop-hop.invariant.counted c.next_layer.ensures.looks

pub returns-clause-counted : goal.returns-clause-counted
returns-clause-counted g c = spent_fewer _ _ _ _ _ (omega arith) c.loop-hop.invariant.counted
