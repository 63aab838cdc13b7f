use Rattle.std.proofs.Common.{◌≡◌, false, length, replicate, refl, ap, ◌∙◌, arith}
use Rattle.std.proofs.lemmas.List.{length-replicate}
use Rattle.sabr_search.proofs.WayLemmas.EarliestSeconds.{filled}
use Rattle.sabr_search.proofs.backward.relaxation.Relaxation.begin.Goals as goal

pub returns : goal.returns
returns g c =
    let task = c.args.task.now in
    let nodes : c.node_count-nodes.result ≡ length task.forbidden = c.node_count-nodes.ensures in
    let zeros : c.resize.new.self.items ≡ replicate (length task.forbidden) 0 = filled _ _ 0 _ _ c.new-seconds.ensures.items (omega (arith, c.new-seconds.ensures.len)) c.in_ok-resize.ensures.items ∙ ap (λ n. replicate n 0) nodes in
    let hops : c.resize-2.new.self.items ≡ replicate (length task.forbidden) 0 = filled _ _ 0 _ _ c.new-hops.ensures.items (omega (arith, c.new-hops.ensures.len)) c.in_ok-resize-2.ensures.items ∙ ap (λ n. replicate n 0) nodes in
    let flags : c.resize-3.new.self.items ≡ replicate (length task.forbidden) false = filled _ _ false _ _ c.new-relaxed.ensures.items (omega (arith, c.new-relaxed.ensures.len)) c.in_ok-resize-3.ensures.items ∙ ap (λ n. replicate n false) nodes in
    record { seconds_are = rw (zeros, c.goal.ensures) refl; hops_many = ap length hops ∙ length-replicate (length task.forbidden) 0; relaxed_is = flags; waits = rw c.goal-2.ensures at (rw c.new-queue.ensures at c.in_ok-push.ensures.ok) }
