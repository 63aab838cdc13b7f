use Rattle.std.proofs.Common.{◌≡◌, ◌+◌, ◌-◌, ◌≤◌, take, length, vec_len}
use Rattle.sabr_search.specs.questions.Task.{is_forbidden}
use Rattle.sabr_search.specs.questions.PrefixPath.{AreForbidden, IsStop, AreStops}
use Rattle.sabr_search.proofs.prefix_path.PrefixPath.go.Given as goal

abbrev pub invariant-loop-self : goal.invariant-loop-self
invariant-loop-self g l = record {
  front : l.front + 1 ≤ length l.self.stops.items;
  many : length l.self.stops.items ≤ length l.fn.self.numbers.items + 1;
  stops : AreStops l.fn.plan l.fn.request l.fn.self.numbers.items l.self.stops.items;
  forbids : AreForbidden l.fn.plan.table l.self.forbidden (is_forbidden l.fn.plan.plan l.fn.request (take (length l.self.stops.items - 1) l.fn.self.numbers.items));
  numbers : l.self.numbers ≡ l.fn.self.numbers;
  goal_is : l.self.goal ≡ l.fn.self.goal;
}

abbrev pub decreases-loop-self : goal.decreases-loop-self
decreases-loop-self g l = vec_len l.self.stops

abbrev pub invariant-loop-place : goal.invariant-loop-place
invariant-loop-place g l = record {
  counted : l.looks.left + l.place ≡ l.fn.looks.left + l.front;
  many : length l.self.stops.items ≡ l.place + 1;
  stops : AreStops l.plan l.request l.prefix l.self.stops.items;
  here : IsStop l.plan l.request (take l.place l.prefix) l.here;
  forbids : AreForbidden l.plan.table l.self.forbidden (is_forbidden l.plan.plan l.request (take l.place l.prefix));
  goal_is : l.self.goal ≡ l.fn.self.goal;
}
