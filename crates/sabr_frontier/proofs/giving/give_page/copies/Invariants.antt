use Rattle.std.proofs.Common.{◌≡◌, ◌≤◌, length, take, vec_len, vec_capacity}
use Rattle.sabr_frontier.proofs.giving.give_page.copies.Given as goal

abbrev pub invariant-loop-place : goal.invariant-loop-place
invariant-loop-place g l = record {
  items : l.copies.items ≡ take l.place l.routes;
  count : vec_len l.copies ≡ l.place;
  room : length l.routes ≤ vec_capacity l.copies;
}
