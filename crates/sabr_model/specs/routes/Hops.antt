-- The arrival over a contact as a search reads it, and its bounds.
use Rattle.std.specs.Prelude.{ℕ, ◌+◌, ◌≤◌, max, nat_lt, IfSome, if◌then◌else◌}
use Rattle.std.specs.Option.{option_map}
use Rattle.std.specs.declared.option.Option.{Option}
use Rattle.std.specs.declared.option.Option.TheVariants.{None}
use Rattle.sabr_model.specs.declared.hop.Hop.{Hop}
use Rattle.sabr_model.specs.plan.Plan.{last_time, most_light}
use Rattle.sabr_model.specs.routes.Arrival.{cost}

-- the arrival over the hop, with a margin in parts per million, of a bundle that is at its sender at t
abbrev pub hop_arrival : ℕ → ℕ → Hop → Option ℕ
hop_arrival margin t h = if nat_lt (max t h.start) h.end then option_map (λ l. max t h.start + cost margin l) h.light else None

-- the hop ends by the last second, and its light time is at most the largest
pub record IsSmall (h : Hop) : Type 0 where
  pub ends : h.end ≤ last_time
  pub near : IfSome h.light (λ l. l ≤ most_light)
