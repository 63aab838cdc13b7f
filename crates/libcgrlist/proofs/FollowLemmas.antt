-- What following a list of contacts gives, and its hops up to the first fault.
use Rattle.std.proofs.Common.{◌≡◌, ℕ, List, ap, sym, ◌∙◌, suc, ◌<◌, ◌≤◌, ◌+◌, true, false, cond, [], ◌∷◌, ◌++◌, append_assoc, arith, length, length-append, refl}
use Rattle.std.specs.Prelude.{IsTrue, is_none, unwrap_or}
use Rattle.std.specs.List.{flat_map}
use Rattle.std.specs.Option.{option_map_or}
use Rattle.std.specs.declared.option.Option.TheVariants.{Some, None}
use Rattle.sabr_model.specs.declared.contact.Contact.{Contact}
use Rattle.sabr_model.specs.declared.fault.HopFault.{HopFault}
use Rattle.sabr_model.specs.declared.route_summary.RouteSummary.{RouteSummary}
use Rattle.sabr_model.specs.plan.Plan.{ContactPlan, contact_named}
use Rattle.sabr_model.specs.routes.Arrival.{RouteRequest, arrival_after}
use Rattle.sabr_model.specs.routes.Fault.{fault_of, fault_at}
use Rattle.sabr_model.specs.routes.Record.{record_of}
use Rattle.sabr_model.specs.routes.Route.{entry_of, is_route, until_of}
use Rattle.sabr_model.specs.routes.Telling.{summary_of}
use Rattle.sabr_model.proofs.RouteLemmas.Faults.{fault_is_no_route, route_has_no_fault}
use Rattle.sabr_session.specs.Hops.{ListQuestion, PlacedHop, hop_after, placed_after, told_after, told_of}
use Rattle.sabr_session.proofs.HopLemmas.{told_of-each}
use Rattle.host.specs.Buffers.{put_over}
use Rattle.host.proofs.BufferLemmas.{put_over-nothing}
use Rattle.libcgrlist.specs.Following.{outcome_of, outcome_of_fault, outcome_of_route, route_status, hop_row, hops_of, row_alone}
use Rattle.libcgrlist.specs.declared.follow.HopRow.{HopRow}
use Rattle.libcgrlist.specs.declared.follow.Outcome.{Outcome}

-- ---- hops

-- the row of a hop
abbrev pub placed_row : PlacedHop → List HopRow
placed_row h = hop_row h.hop ∷ []

-- the rows of all hops before those that are left were written to the front of a buffer, as many as there is room for
pub record AreWritten (all : List HopRow) (left : List PlacedHop) (before now : List HopRow) (count : ℕ) : Type 0 where
  pub done : List HopRow
  pub parts : all ≡ done ++ flat_map placed_row left
  pub written : now ≡ put_over before done
  pub counted : length done ≡ count

-- none at first
pub none_written : (p : ContactPlan) (r : RouteRequest) (s : List ℕ) (left : List PlacedHop) (before : List HopRow) → left ≡ told_of placed_after p r [] s
    → AreWritten (hops_of p r s) left before before 0
none_written p r s left before is = record {
  done = [];
  parts = told_of-each placed_row p r [] s ∙ ap (flat_map placed_row) (sym is);
  written = sym (put_over-nothing before);
  counted = refl;
}

-- one more, whether there was room or not
pub one_written : {all : List HopRow} {left : List PlacedHop} {before now : List HopRow} {count : ℕ} (more : List PlacedHop) (h : PlacedHop) (new : List HopRow)
    (w : AreWritten all left before now count) → left ≡ h ∷ more → new ≡ put_over before (w.done ++ placed_row h) → AreWritten all more before new (count + 1)
one_written more h new w next is = record {
  done = w.done ++ placed_row h;
  parts = w.parts ∙ ap (λ l. w.done ++ flat_map placed_row l) next ∙ sym (append_assoc w.done (placed_row h) (flat_map placed_row more));
  written = is;
  counted = length-append w.done (placed_row h) ∙ ap (λ k. k + 1) w.counted;
}

-- there are no more hops than contacts
pub few_hops : (p : ContactPlan) (r : RouteRequest) (q s : List ℕ) → length (told_of row_alone p r q s) ≤ length s
few_hops p r q [] = omega arith
few_hops p r q (n ∷ s) =
    let rest = few_hops p r (q ++ n ∷ []) s in
    elim (is_none (fault_at p r q n)) as (λ b. length (cond b (told_after row_alone p r q n ++ told_of row_alone p r (q ++ n ∷ []) s) []) ≤ suc (length s)) [
      | true ↦ elim (contact_named p n) as (λ o. length (option_map_or (λ (c : Contact). row_alone q (hop_after p r q n c)) o [] ++ told_of row_alone p r (q ++ n ∷ []) s) ≤ suc (length s)) [
        | None ↦ omega (arith, rest)
        | Some c ↦ omega (arith, rest)
      ]
      | false ↦ omega arith
    ]

-- so one more can be counted
pub one_more_counts : {all : List HopRow} {left : List PlacedHop} {before now : List HopRow} {count : ℕ} (n : ℕ) (more : List PlacedHop) (h : PlacedHop) → AreWritten all left before now count → left ≡ h ∷ more
    → length all ≤ n → count < n
one_more_counts {left = left} n more h w next few =
    let all = ap length w.parts ∙ length-append w.done (flat_map placed_row left) in
    let one : length (flat_map placed_row left) ≡ suc (length (flat_map placed_row more)) = ap (λ l. length (flat_map placed_row l)) next in
    omega (arith, all, one, few, w.counted)

-- ---- how the list ends

-- a route gives its record
pub route_gives : (v q : ListQuestion) (d : ℕ) (t : RouteSummary) → v ≡ q → IsTrue (is_route v.plan.plan v.request v.contacts) → arrival_after v.plan.plan v.request v.request.at v.contacts ≡ Some d
    → t ≡ summary_of v.plan.plan v.contacts → record { delivery = d; until = t.until; entry = t.entry; place = 0; fault = 0 } ≡ outcome_of q.plan.plan q.request q.contacts
route_gives v q d t same route there summed =
    let p = v.plan.plan in
    let r = v.request in
    let s = v.contacts in
    let outcome : RouteSummary → Outcome = λ u. record { delivery = d; until = u.until; entry = u.entry; place = 0; fault = 0 } in
    let whole : outcome_of p r s ≡ outcome (summary_of p s) =
    ap (λ o. option_map_or outcome_of_fault o (outcome_of_route (record_of p r s))) (route_has_no_fault p r s route)
    ∙ ap (λ o. outcome_of_route (record { contacts = s; delivery = unwrap_or o 0; until = until_of p s; entry = entry_of p s })) there in
    ap outcome summed ∙ sym whole ∙ ap (λ (x : ListQuestion). outcome_of x.plan.plan x.request x.contacts) same

-- another list is no route
pub fault_is_no : (v q : ListQuestion) (f : HopFault) → v ≡ q → fault_of v.plan.plan v.request v.contacts ≡ Some f → 1 ≡ route_status (is_route q.plan.plan q.request q.contacts)
fault_is_no v q f same is =
    sym (ap route_status (fault_is_no_route v.plan.plan v.request v.contacts f is)) ∙ ap (λ (x : ListQuestion). route_status (is_route x.plan.plan x.request x.contacts)) same
