-- What is written about a plan: the explanation of a list of contacts, hop by hop up to the first fault, and the text
-- of a check.
use Rattle.std.specs.Prelude.{◌≡◌, ℕ, ◌+◌, Bool, List, [], ◌∷◌, ◌++◌, length, decimal, codes, Result, Ok, Err}
use Rattle.std.specs.List.{concat}
use Rattle.std.specs.Option.{option_map_or}
use Rattle.sabr_model.specs.declared.contact.Contact.{Contact}
use Rattle.sabr_model.specs.declared.fault.HopFault.{HopFault}
use Rattle.sabr_model.specs.declared.fault.HopFault.TheVariants.{Empty, NoSuchContact, NotChained, NodeAgain, NoLight, TooLate, WrongEnd, AvoidedNode, TooManyHops}
use Rattle.sabr_model.specs.declared.route_summary.RouteSummary.{RouteSummary}
use Rattle.sabr_model.specs.plan.Plan.{ContactPlan, TabledPlan}
use Rattle.sabr_model.specs.routes.Arrival.{RouteRequest}
use Rattle.sabr_model.specs.routes.Route.{is_route}
use Rattle.sabr_model.specs.routes.Record.{record_of}
use Rattle.sabr_model.specs.routes.Fault.{fault_of}
use Rattle.sabr_model.specs.Devices.{Output, WrittenAndFlushed, WrittenInPart}
use Rattle.sabr_plan.specs.Times.{time_text_of}
use Rattle.sabr_plan.specs.declared.fault.PlanFault.{PlanFault}
use Rattle.sabr_session.specs.Hops.{Hop, PlacedHop, told_of}
use Rattle.sabr_session.specs.ReportText.{route_line}
use Rattle.commands.specs.declared.failure.Failure.{Failure}
use Rattle.commands.specs.texts.Messages.{failure_of_plan}
use Rattle.hex.specs.Hex.{encode_lower}
use Rattle.sabr_model.specs.plan.Table.{node_count}
use Rattle.sabr_plan.specs.Canonical.{digest_of}
use Rattle.sabr_plan.specs.WithoutLight.{contacts_without_light}
use Rattle.commands.specs.declared.failure.Failure.TheVariants as failure

-- a hop as a line: its place, its contact, and the times of sending and of arrival
abbrev pub hop_line : ℕ → Contact → ℕ → ℕ → List ℕ
hop_line place c sent arrived = concat (
    codes "hop " ∷ decimal place
    ∷ codes " contact " ∷ decimal c.number
    ∷ codes " from " ∷ decimal c.from
    ∷ codes " to " ∷ decimal c.to
    ∷ codes " send " ∷ time_text_of sent
    ∷ codes " arrive " ∷ time_text_of arrived ∷ codes "\n" ∷ []
    )

-- the line of a hop that follows the list `front`
abbrev pub line_of : List ℕ → Hop → List ℕ
line_of front h = hop_line (length front + 1) h.contact h.sent h.arrival

-- the same, of a hop with its place
abbrev pub placed_line : PlacedHop → List ℕ
placed_line h = hop_line h.place h.hop.contact h.hop.sent h.hop.arrival

-- the lines of the numbers after `front`, up to the first fault
abbrev pub hop_lines : ContactPlan → RouteRequest → List ℕ → List ℕ → List ℕ
hop_lines p r front s = told_of line_of p r front s

-- the fault of a place, by its name
abbrev pub refused_at : ℕ → List ℕ → List ℕ
refused_at place kind = concat (codes "refused hop " ∷ decimal place ∷ codes ": " ∷ kind ∷ codes "\n" ∷ [])

-- a fault as a line
abbrev pub fault_line : HopFault → List ℕ
fault_line Empty = codes "refused: Empty\n"
fault_line (NoSuchContact place) = refused_at place (codes "NoSuchContact")
fault_line (NotChained place) = refused_at place (codes "NotChained")
fault_line (NodeAgain place) = refused_at place (codes "NodeAgain")
fault_line (NoLight place) = refused_at place (codes "NoLight")
fault_line (TooLate place) = refused_at place (codes "TooLate")
fault_line WrongEnd = codes "refused: WrongEnd\n"
fault_line (AvoidedNode place) = refused_at place (codes "AvoidedNode")
fault_line (TooManyHops place) = refused_at place (codes "TooManyHops")

-- how a list ends, with the delivery and the summary of the route that it is, or its fault
abbrev pub ending_text : List ℕ → Result (ℕ × RouteSummary) HopFault → List ℕ
ending_text s (Ok e) = route_line (record { contacts = s; delivery = e.0; until = e.1.until; entry = e.1.entry })
ending_text s (Err f) = fault_line f

-- how a list ends: the line of the route that it is, or that of its fault
abbrev pub ending_line : ContactPlan → RouteRequest → List ℕ → List ℕ
ending_line p r s = option_map_or fault_line (fault_of p r s) (route_line (record_of p r s))

-- the explanation of a list of contacts
unfoldable pub explanation_text : ContactPlan → RouteRequest → List ℕ → List ℕ
explanation_text p r s = hop_lines p r [] s ++ ending_line p r s

-- what an explanation writes over what reading gave: over a plan its text, whole and flushed, and the answer is
-- whether the list is a route; or a beginning of it if the writer failed, and it doesn't allocate; nothing if
-- the plan was refused
abbrev pub WritesExplanation : Result TabledPlan PlanFault → RouteRequest → List ℕ → Result Bool Failure → Output → Output → Type 0
WritesExplanation (Err fault) r s end old new = (end ≡ Err (failure_of_plan fault)) × (new ≡ old)
WritesExplanation (Ok p) r s (Ok answer) old new = (answer ≡ is_route p.plan r s) × WrittenAndFlushed old (explanation_text p.plan r s) new
WritesExplanation (Ok p) r s (Err failure.Write) old new = WrittenInPart old (explanation_text p.plan r s) new
WritesExplanation (Ok p) r s (Err _) old new = ⊥

-- ---- the text of a check: what a plan holds, and its digest

-- how many contacts and ranges stand, how many nodes send or receive a standing contact, how many standing contacts
-- have no light time, and the digest of the plan's canonical text as hex digits in lower case: each in a line of its
-- own
unfoldable pub check_text : ContactPlan → List ℕ
check_text p =
    concat (codes "contacts " ∷ decimal (length p.contacts) ∷ codes "\nranges " ∷ decimal (length p.ranges)
    ∷ codes "\nnodes " ∷ decimal (node_count p.contacts)
    ∷ codes "\nwithout light " ∷ decimal (contacts_without_light p)
    ∷ codes "\ndigest " ∷ encode_lower (digest_of p) ∷ codes "\n" ∷ [])

-- what a check writes over what reading gave: over a plan its text, whole and flushed, or a beginning of it if the
-- writer failed, and it doesn't allocate; nothing if the plan was refused
abbrev pub WritesCheck : Result TabledPlan PlanFault → Result (Unit {0}) Failure → Output → Output → Type 0
WritesCheck (Err fault) end old new = (end ≡ Err (failure_of_plan fault)) × (new ≡ old)
WritesCheck (Ok p) (Ok _) old new = WrittenAndFlushed old (check_text p.plan) new
WritesCheck (Ok p) (Err failure.Write) old new = WrittenInPart old (check_text p.plan) new
WritesCheck (Ok p) (Err _) old new = ⊥
