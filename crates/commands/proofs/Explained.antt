-- The lines of a list of contacts: those of its hops up to the first fault, and how it ends; and that their times can
-- be spelled.
use Rattle.std.proofs.Common.{◌≤◌, ℕ, min, List, [], ◌∷◌, get_or, map, arith, ◌≡◌, ◌++◌, refl, sym, ap, subst, ◌∙◌, append_assoc, append-nil}
use Rattle.std.specs.Prelude.{All, IfErr, IfOk, IsTrue, Result, Ok, Err, is_ok, unwrap_or}
use Rattle.std.specs.List.{fold, flat_map}
use Rattle.std.proofs.lemmas.List.Elements.{All-map}
use Rattle.sabr_model.specs.declared.contact.Contact.{Contact}
use Rattle.sabr_model.specs.plan.Plan.{ContactPlan, IsPlan, last_time}
use Rattle.sabr_model.specs.routes.Arrival.{RouteRequest, arrival_after}
use Rattle.sabr_model.specs.routes.Asking.{IsRequest}
use Rattle.sabr_model.specs.routes.Route.{contacts_of, is_route, until_of, entry_of}
use Rattle.sabr_model.specs.routes.Record.{record_of}
use Rattle.sabr_frontier.proofs.GivingLemmas.KeptKeys.{delivered_early}
use Rattle.sabr_session.specs.ReportText.{HasSpelledTimes, route_line}
use Rattle.std.specs.Option.{option_map_or}
use Rattle.std.specs.declared.option.Option.TheVariants.{Some}
use Rattle.std.specs.Result.{IsErrAnd}
use Rattle.sabr_model.specs.declared.fault.HopFault.{HopFault}
use Rattle.sabr_model.specs.declared.route_summary.RouteSummary.{RouteSummary}
use Rattle.sabr_model.specs.Devices.{Output}
use Rattle.sabr_model.specs.routes.Fault.{fault_of}
use Rattle.sabr_model.specs.routes.Telling.{summary_of}
use Rattle.sabr_model.proofs.RouteLemmas.Faults.{route_has_no_fault, fault_is_no_route}
use Rattle.sabr_plan.specs.Times.{last_spelled}
use Rattle.sabr_session.specs.Gathering.{HasPut, Puts, StopsIn}
use Rattle.sabr_session.specs.Hops.{ListQuestion, PlacedHop, placed_after, told_of}
use Rattle.sabr_session.specs.declared.writing.text_buffer.TextBuffer.{TextBuffer}
use Rattle.sabr_session.proofs.HopLemmas.{told_of-each}
use Rattle.sabr_session.proofs.TextLemmas.Gathering.{HasPut-append, HasPut-nil, Puts-after, Puts-stopped}
use Rattle.commands.specs.texts.PlanTexts.{ending_line, ending_text, fault_line, hop_lines, placed_line}

-- ---- the times of every record of an accepted plan and request can be spelled

least_end : (m : ℕ) (cs : List Contact) → fold (λ k c. min k c.end) m cs ≤ m
least_end m [] = omega arith
least_end m (c ∷ cs) = let less = least_end (min m c.end) cs in omega (arith, less)

-- the record of any list of contacts has times before the end of year 9999
pub record_spelled : (p : ContactPlan) (r : RouteRequest) (s : List ℕ) → IsPlan p → IsRequest r → HasSpelledTimes (record_of p r s)
record_spelled p r s h q =
    let delivery = delivered_early p r s h q in
    let until = least_end last_time (contacts_of p s) in
    (omega (arith, delivery), omega (arith, until))

-- and so have the records of all lists
pub records_spelled : (p : ContactPlan) (r : RouteRequest) (ss : List (List ℕ)) → IsPlan p → IsRequest r → All HasSpelledTimes (map (record_of p r) ss)
records_spelled p r ss h q = All-map HasSpelledTimes (record_of p r) ss (λ k d lt. record_spelled p r (get_or ss k d) h q)

-- ---- hop by hop

-- the lines of the hops before those that are left were put
pub record PutBefore {W : Type 0} (output : W → Output) (start : TextBuffer W) (all left : List PlacedHop) (text : TextBuffer W) : Type 0 where
  pub done : List ℕ
  pub parts : flat_map placed_line all ≡ done ++ flat_map placed_line left
  pub put : HasPut output start done text

module _ {W : Type 0} {output : W → Output} where
  pub none_put : (start : TextBuffer W) (all : List PlacedHop) → PutBefore output start all all start
  none_put start all = record { done = []; parts = refl; put = HasPut-nil start }

  -- one more line
  pub one_put : {start a b : TextBuffer W} (all left more : List PlacedHop) (h : PlacedHop) → PutBefore output start all left a → left ≡ h ∷ more → HasPut output a (placed_line h) b → PutBefore output start all more b
  one_put all left more h before next put = record {
    done = before.done ++ placed_line h;
    parts = before.parts ∙ ap (λ l. before.done ++ flat_map placed_line l) next ∙ sym (append_assoc before.done (placed_line h) (flat_map placed_line more));
    put = HasPut-append before.done (placed_line h) before.put put;
  }

  -- the writer fails in a line
  pub stopped_in : {A E : Type 0} (P : E → Type 0) {start a b : TextBuffer W} (all left more : List PlacedHop) (h : PlacedHop) (r : Result A E) → PutBefore output start all left a → left ≡ h ∷ more
      → IsErrAnd r P → StopsIn output a (a.held.items ++ placed_line h) b → Puts output start (flat_map placed_line all) r b
  stopped_in P {b = b} all left more h r before next is stops =
      rw (before.parts, next)
      (Puts-after b before.done (placed_line h ++ flat_map placed_line more) r before.put (Puts-stopped P (placed_line h) (flat_map placed_line more) r is stops))

  -- all lines were put
  pub all_put : {start a : TextBuffer W} (all left : List PlacedHop) → PutBefore output start all left a → left ≡ [] → HasPut output start (flat_map placed_line all) a
  all_put {start} {a} all left before none =
      let whole : flat_map placed_line all ≡ before.done = before.parts ∙ ap (λ l. before.done ++ flat_map placed_line l) none ∙ append-nil before.done in
      subst (λ t. HasPut output start t a) (sym whole) before.put

-- the lines of all hops
pub lines_of : (p : ContactPlan) (r : RouteRequest) (s : List ℕ) (all : List PlacedHop) → all ≡ told_of placed_after p r [] s → flat_map placed_line all ≡ hop_lines p r [] s
lines_of p r s all is = ap (flat_map placed_line) is ∙ sym (told_of-each placed_line p r [] s)

-- ---- how it ends

ending_of_route : (p : ContactPlan) (r : RouteRequest) (s : List ℕ) (d : ℕ) → IsTrue (is_route p r s) → arrival_after p r r.at s ≡ Some d
    → ending_line p r s ≡ route_line (record { contacts = s; delivery = d; until = until_of p s; entry = entry_of p s })
ending_of_route p r s d route there =
    ap (λ o. option_map_or fault_line o (route_line (record_of p r s))) (route_has_no_fault p r s route)
    ∙ ap (λ o. route_line (record { contacts = s; delivery = unwrap_or o 0; until = until_of p s; entry = entry_of p s })) there

-- the delivery and the summary of a route, or the fault of another list
pub record Ends (p : ContactPlan) (r : RouteRequest) (s : List ℕ) (ending : Result (ℕ × RouteSummary) HopFault) : Type 0 where
  pub route : IfOk ending (λ _. IsTrue (is_route p r s))
  pub delivery : IfOk ending (λ e. arrival_after p r r.at s ≡ Some e.0)
  pub summary : IfOk ending (λ e. e.1 ≡ summary_of p s)
  pub fault : IfErr ending (λ f. fault_of p r s ≡ Some f)

-- the same, of what is the same list
pub ends_as : (v q : ListQuestion) (ending : Result (ℕ × RouteSummary) HopFault) → v ≡ q → Ends v.plan.plan v.request v.contacts ending → Ends q.plan.plan q.request q.contacts ending
ends_as v q ending same ends = subst (λ (x : ListQuestion). Ends x.plan.plan x.request x.contacts ending) same ends

-- it is written as the line of the list
pub ending_is : (p : ContactPlan) (r : RouteRequest) (s : List ℕ) (ending : Result (ℕ × RouteSummary) HopFault) → Ends p r s ending → ending_text s ending ≡ ending_line p r s
ending_is p r s (Ok e) h =
    ap (λ (t : RouteSummary). route_line (record { contacts = s; delivery = e.0; until = t.until; entry = t.entry })) h.summary
    ∙ sym (ending_of_route p r s e.0 h.route h.delivery)
ending_is p r s (Err f) h = sym (ap (λ o. option_map_or fault_line o (route_line (record_of p r s))) h.fault)

-- its times can be spelled
pub ends_in_spelled_time : (p : ContactPlan) (r : RouteRequest) (s : List ℕ) (ending : Result (ℕ × RouteSummary) HopFault) → IsPlan p → IsRequest r → Ends p r s ending
    → IfOk ending (λ e. (e.0 ≤ last_spelled) × (e.1.until ≤ last_spelled))
ends_in_spelled_time p r s (Ok e) rules limits h =
    let spelled = record_spelled p r s rules limits in
    (subst (λ o. unwrap_or o 0 ≤ last_spelled) h.delivery spelled.0, subst (λ (t : RouteSummary). t.until ≤ last_spelled) (sym h.summary) spelled.1)
ends_in_spelled_time p r s (Err f) rules limits h = tt

-- following answers whether the list is a route
pub answered : (p : ContactPlan) (r : RouteRequest) (s : List ℕ) (ending : Result (ℕ × RouteSummary) HopFault) → Ends p r s ending → is_ok ending ≡ is_route p r s
answered p r s (Ok e) h = sym h.route
answered p r s (Err f) h = sym (fault_is_no_route p r s f h.fault)
