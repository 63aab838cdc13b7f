use Rattle.std.proofs.Common.{[], length, ◌∙◌, arith}
use Rattle.sabr_session.specs.Hops.{ListQuestion, hops_left, seen_hop}
use Rattle.libcgrlist.specs.Following.{hop_row}
use Rattle.host.proofs.BufferLemmas.{put_over-same, put_over-set}
use Rattle.libcgrlist.proofs.FollowLemmas.{fault_is_no, few_hops, none_written, one_more_counts, one_written, route_gives}
use Rattle.libcgrlist.proofs.follow.follow_contacts.Goals.{else-count-rows, then-count-rows}
use Rattle.libcgrlist.proofs.follow.follow_contacts.Goals as goal

pub loop-hop-init : goal.loop-hop-init
loop-hop-init c = record {
  written = none_written c.args.plan.now.plan c.args.request.now c.args.contacts.now (hops_left c.new-hops.result) c.args.rows.now c.new-hops.ensures.left;
  question = c.new-hops.ensures.question;
}

pub overflow_add-count : goal.overflow_add-count
overflow_add-count c =
    let few = few_hops c.args.plan.now.plan c.args.request.now [] c.args.contacts.now in
    let less = one_more_counts (length c.args.contacts.now) (hops_left c.next.new.self) (seen_hop c.in-Some.hop) c.loop-hop.invariant.written (c.in-Some.ensures {u = tt}).hop few in
    omega (arith, less)

pub loop-hop-preserved : goal.loop-hop-preserved
loop-hop-preserved c =
    let h = seen_hop c.in-Some.hop in
    let w = c.loop-hop.invariant.written in
    let next = (c.in-Some.ensures {u = tt}).hop in
    let question = (c.in-Some.ensures {u = tt}).question ∙ c.loop-hop.invariant.question in
    elim c.if-count-rows.branch [
      | then-count-rows b ↦ record {
        written = one_written (hops_left c.next.new.self) h _ w next (b.rows-is ∙ put_over-set c.args.rows.now w.done c.loop-hop.rows (hop_row h.hop) c.loop-hop.count w.written w.counted b.if-count-rows.true);
        question = question;
      }
      | else-count-rows b ↦ record {
        written = one_written (hops_left c.next.new.self) h _ w next (b.rows-is ∙ put_over-same c.args.rows.now w.done c.loop-hop.rows (hop_row h.hop) c.loop-hop.count w.written w.counted b.if-count-rows.false);
        question = question;
      }
    ]

pub returns-in-Ok-clause-outcome : goal.returns-in-Ok-clause-outcome
returns-in-Ok-clause-outcome c =
    let q : ListQuestion = record { plan = c.args.plan.now; request = c.args.request.now; contacts = c.args.contacts.now } in
    route_gives c.next.new.self.question q c.in-Ok.delivery c.in-Ok.summary ((c.in_default.ensures {u = tt}).question ∙ c.loop-hop.invariant.question) c.in-Ok.ensures.route c.in-Ok.ensures.delivery c.in-Ok.ensures.summary

pub returns-in-Err-clause-status : goal.returns-in-Err-clause-status
returns-in-Err-clause-status c =
    let q : ListQuestion = record { plan = c.args.plan.now; request = c.args.request.now; contacts = c.args.contacts.now } in
    fault_is_no c.next.new.self.question q c.in-Err.fault ((c.in_default.ensures {u = tt}).question ∙ c.loop-hop.invariant.question) c.in-Err.ensures.fault
