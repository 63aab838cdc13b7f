-- A route and its record, and the order of such records.
use Rattle.std.specs.Prelude.{ℕ, List, ◌∷◌, length}
use Rattle.std.specs.Ordering.{nat_cmp, on, then_cmp}
use Rattle.std.specs.declared.cmp.Ordering.{Ordering}
use Rattle.std.specs.Cmp.{IsTotalOrder, then_total, on_total, nat_cmp_total}
use Rattle.std.specs.Cmp.Lexicographic.{on_texts}
use Rattle.sabr_model.specs.Order.{by_numbers}
use Rattle.sabr_model.specs.plan.Plan.{ContactPlan}
use Rattle.sabr_model.specs.routes.Arrival.{RouteRequest}
use Rattle.sabr_model.specs.routes.Route.{delivery_of, until_of, entry_of}

-- the contacts by number, the best-case delivery time, the termination time and the entry node
pub record RouteRecord : Type 0 where
  pub contacts : List ℕ
  pub delivery : ℕ
  pub until : ℕ
  pub entry : ℕ

-- the record of a list of numbers
abbrev pub record_of : ContactPlan → RouteRequest → List ℕ → RouteRecord
record_of p r s = record { contacts = s; delivery = delivery_of p r s; until = until_of p s; entry = entry_of p s }

-- its key: delivery, number of hops, and the numbers from the front
abbrev pub record_key : RouteRecord → List ℕ
record_key a = a.delivery ∷ length a.contacts ∷ a.contacts

-- its termination time
abbrev pub summary_until : RouteRecord → ℕ
summary_until a = a.until

-- its entry node
abbrev pub summary_entry : RouteRecord → ℕ
summary_entry a = a.entry

-- by key, then by termination time, then by entry node; less is better
abbrev pub by_record : RouteRecord → RouteRecord → Ordering
by_record = then_cmp (on record_key by_numbers) (then_cmp (on summary_until nat_cmp) (on summary_entry nat_cmp))

-- the order of records is total
pub by_record_total : IsTotalOrder by_record
by_record_total = then_total (on_texts record_key) (then_total (on_total summary_until nat_cmp_total) (on_total summary_entry nat_cmp_total))
