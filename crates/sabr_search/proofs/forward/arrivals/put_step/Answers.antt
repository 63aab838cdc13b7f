use Rattle.std.proofs.Common.{inl, inr, length, arith}
use Rattle.sabr_model.proofs.ListLemmas.Members.{push_new, push_old, push_cases}
use Rattle.sabr_search.proofs.forward.arrivals.put_step.Goals as goal

pub returns-clause-stay : goal.returns-clause-stay
returns-clause-stay g c = λ k s at. rw c.in_ok-push.ensures.items (push_old c.args.first.now.items c.args.step k s at)

pub returns-clause-put : goal.returns-clause-put
returns-clause-put g c = λ less. (length c.args.first.now.items, rw c.in_ok-push.ensures.items (push_new c.args.first.now.items c.args.step))

pub returns-clause-only : goal.returns-clause-only
returns-clause-only g c = λ k s at. elim (push_cases c.args.first.now.items c.args.step k s (rw c.in_ok-push.ensures.items at at)) [
  | inl old ↦ inl old
  | inr new ↦ inr (new.1, omega (arith, c.if-step-eq-NEVER.false))
]
