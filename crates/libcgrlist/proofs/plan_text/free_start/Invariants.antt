use Rattle.std.proofs.Common.{◌≡◌, ◌-◌, length, map}
use Rattle.libcgrlist.specs.PlanTexts.{free_from}
use Rattle.libcgrlist.proofs.plan_text.free_start.Given as goal

abbrev pub invariant-loop-place : goal.invariant-loop-place
invariant-loop-place l = free_from (length l.contacts - l.place) l.place (map (λ c. c.start) l.contacts) ≡ free_from (length l.contacts) 0 (map (λ c. c.start) l.contacts)
