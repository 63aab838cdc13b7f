use Rattle.std.proofs.Common.{◌<◌, ◌≤◌, ◌-◌, slice_index, arith}
use Rattle.sabr_search.proofs.WayLemmas.EarliestSeconds.{since_many, since_read, first_before, first_after}
use Rattle.sabr_search.proofs.backward.since.Since.at.Goals as goal

pub returns-then-arrival-last : goal.returns-then-arrival-last
returns-then-arrival-last g =
    let own = g.self.inside in
    let k = g.args.node in
    let within = rw (← g.self.view_is) at g.requires in
    let read = since_read own.nodes own.arrival.now own.costs.now own.soon.now own.delivery k (omega (arith, within, since_many own.nodes own.arrival.now own.costs.now own.soon.now own.delivery)) in
    let less : slice_index own.arrival.now k < own.delivery - slice_index own.costs.now k = omega (arith, g.if-arrival-last.true, g.seconds_of-arrival.ensures, g.saturating_sub-last.ensures, g.seconds_of.ensures) in
    rw (← g.self.view_is) (omega (arith, read, first_before (slice_index own.arrival.now k) (own.delivery - slice_index own.costs.now k) (slice_index own.soon.now k) less, g.seconds_of-arrival.ensures))

pub returns : goal.returns
returns g =
    let own = g.self.inside in
    let k = g.args.node in
    let within = rw (← g.self.view_is) at g.requires in
    let read = since_read own.nodes own.arrival.now own.costs.now own.soon.now own.delivery k (omega (arith, within, since_many own.nodes own.arrival.now own.costs.now own.soon.now own.delivery)) in
    let le : own.delivery - slice_index own.costs.now k ≤ slice_index own.arrival.now k = omega (arith, g.if-arrival-last.false, g.seconds_of-arrival.ensures, g.saturating_sub-last.ensures, g.seconds_of.ensures) in
    rw (← g.self.view_is) (omega (arith, read, first_after (slice_index own.arrival.now k) (own.delivery - slice_index own.costs.now k) (slice_index own.soon.now k) le, g.max.ensures, g.seconds_of-2.ensures, g.saturating_sub-last.ensures, g.seconds_of.ensures))
