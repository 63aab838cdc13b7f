use Rattle.std.proofs.Common.{arith}
use Rattle.sabr_index.proofs.SenderLemmas.{have_receivers}
use Rattle.sabr_index.proofs.plan_links.PlanLinks.with_ends.Goals as goal

pub incoming_links-requires : goal.incoming_links-requires
incoming_links-requires g c =
    let made = c.in_ok-linked.ensures {u = tt} in
    record {
      receivers = have_receivers c.args.plan.now c.in_ok-linked.linked made.linked made.as_many;
      nodes = omega (arith, made.as_many, c.requires.few);
      few = made.few;
    }

pub returns : goal.returns
returns g c =
    let made = c.in_ok-linked.ensures {u = tt} in
    record {
      tabled = c.requires.tabled;
      as_many = made.as_many;
      links = made.linked;
      grouped = c.in_ok-incoming.ensures {u = tt};
    }
