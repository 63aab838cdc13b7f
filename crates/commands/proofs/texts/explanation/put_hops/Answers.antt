use Rattle.std.proofs.Common.{refl, ◌∙◌}
use Rattle.sabr_session.specs.Hops.{hops_left, seen_hop}
use Rattle.commands.proofs.Explained.{all_put, none_put, one_put, stopped_in}
use Rattle.commands.proofs.texts.explanation.put_hops.Goals as goal

pub loop-hop-init : goal.loop-hop-init
loop-hop-init g c = record { put = none_put c.args.text.now (hops_left c.args.hops.now); question = refl }

pub returns-in_err-put_hop-clause-lines : goal.returns-in_err-put_hop-clause-lines
returns-in_err-put_hop-clause-lines g c =
    stopped_in _ (hops_left c.args.hops.now) (hops_left c.loop-hop.hops) (hops_left c.next.new.self) (seen_hop c.in-Some.hop) c.from_residual.result c.loop-hop.invariant.put (c.in-Some.ensures {u = tt}).hop c.from_residual.ensures.1 c.in_err-put_hop.ensures

pub loop-hop-preserved : goal.loop-hop-preserved
loop-hop-preserved g c = record {
  put = one_put (hops_left c.args.hops.now) (hops_left c.loop-hop.hops) (hops_left c.next.new.self) (seen_hop c.in-Some.hop) c.loop-hop.invariant.put (c.in-Some.ensures {u = tt}).hop c.in_ok-put_hop.ensures;
  question = (c.in-Some.ensures {u = tt}).question ∙ c.loop-hop.invariant.question;
}

pub returns-clause-lines : goal.returns-clause-lines
returns-clause-lines g c = all_put (hops_left c.args.hops.now) (hops_left c.loop-hop.hops) c.loop-hop.invariant.put (c.in_default.ensures {u = tt}).none
