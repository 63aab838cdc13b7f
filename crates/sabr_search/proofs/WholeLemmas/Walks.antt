-- The steps of a pick that goes back, and what they say of the ways that it leaves out.
use Rattle.std.proofs.Common.{◌≡◌, ◌⊎◌, inl, inr, ℕ, suc, ◌+◌, ◌-◌, ◌*◌, ◌<◌, ◌≤◌, List, [], ◌∷◌, ◌++◌, length, map, min, slice_get, slice_index, slice_index_or, false, refl, ap, sym, subst, ◌∙◌, arith, length-append}
use Rattle.std.specs.Prelude.{IfSome, IfNone, eqb}
use Rattle.std.specs.declared.option.Option.{Option}
use Rattle.std.specs.declared.option.Option.TheVariants.{Some, None}
use Rattle.std.proofs.lemmas.List.Elements.{All-get_or}
use Rattle.std.proofs.lemmas.List.{length-map, get_or_past}
use Rattle.std.proofs.lemmas.List.Sums.{count_by-le-length}
use Rattle.sabr_search.specs.questions.Linked.{degree, senders}
use Rattle.sabr_search.proofs.LinkLemmas.PlanFacts.{senders_length}
use Rattle.std.proofs.lemmas.Bool.{cases_lt}
use Rattle.std.proofs.lemmas.Option.{slice_get_within, slice_get-get_or, get_or_from_slice_get, none-some}
use Rattle.sabr_search.specs.declared.visit.Step.{Step}
use Rattle.sabr_search.specs.declared.backward.walk.DeadEnd.{DeadEnd}
use Rattle.sabr_search.specs.declared.backward.deadlines.Deadline.{Deadline}
use Rattle.sabr_search.specs.declared.backward.deadlines.Deadlines.{Deadlines}
use Rattle.sabr_search.specs.declared.visit.Visit.{Visit}
use Rattle.sabr_search.specs.questions.FirstSteps.{Leads}
use Rattle.sabr_search.specs.questions.Task.{SearchTask, IsTask, Takes}
use Rattle.sabr_search.specs.layers.Late.{IsNoneSooner}
use Rattle.sabr_search.specs.layers.Picks.{IsNotAfter, IsAtMost, IsPicked}
use Rattle.sabr_search.specs.layers.WholeDeadlines.{AreDeadEnds, AreSound, IsDeadEnd, AreWholeDeadlinesOf, IsStepOn, last_visit}
use Rattle.sabr_search.specs.layers.Deadlines.{IsInTimeWithin, IsLatestWithin, end_within}
use Rattle.sabr_search.proofs.WayLemmas.Ways.{Leads-append}
use Rattle.sabr_search.proofs.WayLemmas.RoutesAndWays.{takes_timely, same_some}
use Rattle.sabr_search.proofs.ForwardLemmas.MadeLayers.{layer_of, spent_more}
use Rattle.sabr_search.proofs.WholeLemmas.Leaves.{dead_later, dead_too_late}

abbrev pub visit_of : Step → Visit
visit_of s = record { node = s.node; at = s.at }

abbrev pub start_of : SearchTask → Visit
start_of task = record { node = task.start; at = task.at }

abbrev pub numbers_of : List Step → List ℕ
numbers_of steps = map (λ s. s.number) steps

-- each step goes on from the one before, the first from this visit, and leaves one hop less
abbrev pub AreStepsOn : SearchTask → ℕ → ℕ → Visit → List Step → Type 0
AreStepsOn task d hops from [] = Unit {0}
AreStepsOn task d hops from (s ∷ steps) = IsStepOn task d (hops - 1) from s × AreStepsOn task d (hops - 1) (visit_of s) steps

-- where steps lead with one more
pub visit_more : (from : Visit) (steps : List Step) (s : Step) → last_visit from (steps ++ s ∷ []) ≡ visit_of s
visit_more from [] s = refl
visit_more from (r ∷ steps) s = visit_more (visit_of r) steps s

-- where steps lead, by the last of them
pub visit_at : (from : Visit) (steps : List Step) (s : Step) → slice_get steps (length steps - 1) ≡ Some s → last_visit from steps ≡ visit_of s
visit_at from [] s at = absurd (omega (arith, slice_get_within [] 0 s at))
visit_at from (r ∷ []) s at = ap visit_of (same_some at)
visit_at from (r ∷ q ∷ steps) s at =
    let here : suc (length steps) ≡ length (r ∷ q ∷ steps) - 1 = omega arith in
    let there : slice_get (r ∷ q ∷ steps) (suc (length steps)) ≡ Some s = ap (slice_get (r ∷ q ∷ steps)) here ∙ at in
    let last : length (q ∷ steps) - 1 ≡ length steps = omega arith in
    let on : slice_get (q ∷ steps) (length (q ∷ steps) - 1) ≡ Some s = ap (slice_get (q ∷ steps)) last ∙ there in
    visit_at (visit_of r) (q ∷ steps) s on

pub visit_empty : (from : Visit) (steps : List Step) → length steps ≡ 0 → last_visit from steps ≡ from
visit_empty from [] none = refl
visit_empty from (r ∷ steps) none = absurd (omega (arith, none))

pub visit_none : (from : Visit) (steps : List Step) → slice_get steps (length steps - 1) ≡ None → last_visit from steps ≡ from
visit_none from [] at = refl
visit_none from (r ∷ steps) at = absurd (none-some (slice_index_or (r ∷ steps) (length (r ∷ steps) - 1) r) (sym at ∙ slice_get-get_or (r ∷ steps) (length (r ∷ steps) - 1) r (omega arith)))

module _ (task : SearchTask) (d : ℕ) where
  -- one more step
  pub steps_more : (hops : ℕ) (from : Visit) (steps : List Step) (s : Step) → AreStepsOn task d hops from steps → IsStepOn task d (hops - 1 - length steps) (last_visit from steps) s → AreStepsOn task d hops from (steps ++ s ∷ [])
  steps_more hops from [] s are on = (subst (λ h. IsStepOn task d h from s) (omega arith) on, tt)
  steps_more hops from (r ∷ steps) s are on = (are.0, steps_more (hops - 1) (visit_of r) steps s are.1 (subst (λ h. IsStepOn task d h (last_visit (visit_of r) steps) s) (omega arith) on))

  -- without the last one
  pub steps_fewer : (hops : ℕ) (from : Visit) (steps others : List Step) → AreStepsOn task d hops from (steps ++ others) → AreStepsOn task d hops from steps
  steps_fewer hops from [] others are = tt
  steps_fewer hops from (s ∷ steps) others are = (are.0, steps_fewer (hops - 1) (visit_of s) steps others are.1)

  pub steps_way : (hops : ℕ) (from : Visit) (steps : List Step) → AreStepsOn task d hops from steps → Leads (Takes task) from.node from.at (numbers_of steps) (last_visit from steps).node (last_visit from steps).at
  steps_way hops from [] are = (refl, refl)
  steps_way hops from (s ∷ steps) are = (s.node, s.at, are.0.step, steps_way (hops - 1) (visit_of s) steps are.1)

  pub steps_inside : (hops : ℕ) (from : Visit) (steps : List Step) → AreStepsOn task d hops from steps → from.node < length task.table → (last_visit from steps).node < length task.table
  steps_inside hops from [] are inside = inside
  steps_inside hops from (s ∷ steps) are inside = steps_inside (hops - 1) (visit_of s) steps are.1 (slice_get_within task.table s.node are.0.step.contact.to are.0.step.receiver)

  -- what they lead on from is not the goal in time if no way of fewer hops delivers in time
  pub not_there : (hops : ℕ) (steps : List Step) → AreStepsOn task d hops (start_of task) steps → length steps < hops → IsDeadEnd task d task.start task.at (hops - 1) → IsDeadEnd task d (last_visit (start_of task) steps).node (last_visit (start_of task) steps).at 0
  not_there hops steps are less fewer [] s e le many way =
      let on = steps_way hops (start_of task) steps are in
      let there : Leads (Takes task) task.start task.at (numbers_of steps) task.goal (last_visit (start_of task) steps).at = subst (λ v. Leads (Takes task) task.start task.at (numbers_of steps) v (last_visit (start_of task) steps).at) way.0 on in
      omega (arith, way.1, le, fewer (numbers_of steps) task.at (last_visit (start_of task) steps).at (omega arith) (omega (arith, length-map steps (λ (s : Step). s.number))) there)
  not_there hops steps are less fewer (n ∷ ns) s e le many way = absurd (omega (arith, many))

  -- no way of as many hops has lesser numbers
  pub steps_front : IsTask task → (hops : ℕ) (from : Visit) (steps : List Step) → AreStepsOn task d hops from steps → length steps ≤ hops →
      (ns : List ℕ) (e : ℕ) → length ns ≡ hops → Leads (Takes task) from.node from.at ns task.goal e → e ≤ d → IsNotAfter (numbers_of steps) ns
  steps_front is hops from [] are within ns e many way by = tt
  steps_front is hops from (s ∷ steps) are within [] e many way by = absurd (omega (arith, many, within))
  steps_front is hops from (s ∷ steps) are within (n ∷ ns) e many way by =
      elim (cases_lt n s.number) [
        | inl lesser ↦ absurd (omega (arith, by, are.0.least n way.0 way.1 way.2 lesser ns way.1 e (omega arith) (omega (arith, many)) way.3))
        | inr other ↦ elim (cases_lt s.number n) [
          | inl greater ↦ inl greater
          | inr same' ↦
              (let same : s.number ≡ n = omega (arith, other, same') in
              let one = (takes_timely task is.nodes).one n from.node from.at way.0 way.1 s.node s.at way.2 (rw same at are.0.step) in
              inr (same, steps_front is (hops - 1) (visit_of s) steps are.1 (omega (arith, within)) ns e (omega (arith, many)) (rw (one.0, one.1) at way.3) by))
        ]
      ]

  -- with no hop left after one more step, they are the least way
  pub steps_picked : IsTask task → (hops : ℕ) → IsNoneSooner task hops d → (steps : List Step) (s : Step) → AreStepsOn task d hops (start_of task) steps → length steps + 1 ≡ hops → IsStepOn task d 0 (last_visit (start_of task) steps) s → IsPicked task hops d (numbers_of (steps ++ s ∷ []))
  steps_picked is hops floor steps s are many on =
      let all : AreStepsOn task d hops (start_of task) (steps ++ s ∷ []) = steps_more hops (start_of task) steps s are (subst (λ h. IsStepOn task d h (last_visit (start_of task) steps) s) (omega (arith, many)) on) in
      let chosen = numbers_of (steps ++ s ∷ []) in
      let to : Leads (Takes task) task.start task.at chosen s.node s.at = subst (λ (v : Visit). Leads (Takes task) task.start task.at chosen v.node v.at) (visit_more (start_of task) steps s) (steps_way hops (start_of task) (steps ++ s ∷ []) all) in
      let last = on.last refl in
      let there : Leads (Takes task) task.start task.at chosen task.goal s.at = subst (λ k. Leads (Takes task) task.start task.at chosen k s.at) last.0 to in
      let long : length (steps ++ s ∷ []) ≡ hops = omega (arith, length-append steps (s ∷ []), many) in
      let as_many : length chosen ≡ hops = length-map (steps ++ s ∷ []) (λ (x : Step). x.number) ∙ long in
      let exact : s.at ≡ d = omega (arith, last.1, floor chosen s.at (omega (arith, as_many)) there) in
      record {
        many = as_many;
        way = subst (λ t. Leads (Takes task) task.start task.at chosen task.goal t) exact there;
        front = λ ns e same on by. steps_front is hops (start_of task) (steps ++ s ∷ []) all (omega (arith, long)) ns e same on by;
      }

  -- a known dead end, at this second and with so many hops
  pub dead_known : (ends : List DeadEnd) → AreDeadEnds task d ends → (k : ℕ) (x : DeadEnd) → slice_get ends k ≡ Some x → (w b hops : ℕ) → x.node ≡ w → hops ≤ x.hops → x.at ≤ b → IsDeadEnd task d w b hops
  dead_known ends are k x at w b hops node more before =
      let here : IsDeadEnd task d x.node x.at x.hops = rw (get_or_from_slice_get ends k x x at) at (All-get_or (λ (end : DeadEnd). IsDeadEnd task d end.node end.at end.hops) ends k x (slice_get_within ends k x at) are) in
      rw node at (dead_later task d x.node x.at b x.hops hops before more here)

-- ---- the step of least number at one node

-- what is known of a step that is chosen so far
abbrev pub IsChosen : SearchTask → List ℕ → List Deadline → ℕ → Visit → Step → Type 0
IsChosen task ends entries hops from s = Takes task s.number from.node from.at s.node s.at × IsInTimeWithin ends entries hops s.node s.at

-- each step from a visit leads to a dead end, or has no lesser number
abbrev pub IsLeastOn : SearchTask → ℕ → ℕ → Visit → Option Step → Type 0
IsLeastOn task d hops from least = (n w b : ℕ) → Takes task n from.node from.at w b → IsDeadEnd task d w b hops ⊎ IsAtMost least n

pub chosen_in_time : (task : SearchTask) (ends : List ℕ) (entries : List Deadline) (hops : ℕ) (from : Visit) (least : Option Step) → IfSome least (IsChosen task ends entries hops from) → IfSome least (λ s. IsInTimeWithin ends entries hops s.node s.at)
chosen_in_time task ends entries hops from None chosen = tt
chosen_in_time task ends entries hops from (Some s) chosen = chosen.1

-- a visit from which each step leads to a dead end is one, unless it is the goal in time
pub visit_dead : (task : SearchTask) → IsTask task → (d hops : ℕ) (from : Visit) → IsDeadEnd task d from.node from.at 0 → IsLeastOn task d hops from None → IsDeadEnd task d from.node from.at (hops + 1)
visit_dead task is d hops from here least [] s e le within way = here [] s e le (omega arith) way
visit_dead task is d hops from here least (n ∷ ns) s e le within way =
    let sooner = (takes_timely task is.nodes).earlier n from.node s way.0 way.1 from.at way.2 le in
    elim (least n way.0 sooner.0 sooner.2) [ inl dead ↦ dead ns way.1 e sooner.1 (omega (arith, within)) way.3 | inr most ↦ absurd most ]

pub step_missing : (task : SearchTask) → IsTask task → (d hops : ℕ) (from : Visit) (least : Option Step) → IsDeadEnd task d from.node from.at 0 → IsLeastOn task d hops from least → IfNone least (IsDeadEnd task d from.node from.at (hops + 1))
step_missing task is d hops from None here least = visit_dead task is d hops from here least
step_missing task is d hops from (Some s) here least = tt

-- a step that was found over a link before a second
pub step_over : (task : SearchTask) (ends : List ℕ) (entries : List Deadline) (hops : ℕ) (from : Visit) (to before : ℕ) (least : Option Step) → slice_index_or task.forbidden to false ≡ false → ((b : ℕ) → b < before → IsInTimeWithin ends entries hops to b) →
    IfSome least (λ s. (s.node ≡ to) × (s.at < before) × (slice_index_or task.forbidden to false ≡ false → Takes task s.number from.node from.at to s.at)) → IfSome least (IsChosen task ends entries hops from)
step_over task ends entries hops from to before None permitted in_time found = tt
step_over task ends entries hops from to before (Some s) permitted in_time found = rw found.0 (found.2 permitted, in_time s.at found.1)

module _ {A : Type 0} (task : SearchTask) (is : IsTask task) (d hops : ℕ) (layers : Deadlines A) (over : AreWholeDeadlinesOf task d hops layers) where
  -- by node the layers have a place for each of the question's
  pub level_nodes : length layers.place.items ≡ length task.table
  level_nodes = over.layers.nodes ∙ ap length over.table

  -- some layer ends
  pub some_end : 0 < length layers.ends.items
  some_end = elim (cases_lt 1 (length layers.ends.items)) [
    | inl some ↦ omega (arith, some)
    | inr few ↦ absurd (omega (arith, get_or_past layers.ends.items 1 0 few, over.layers.second_end))
  ]

  -- an entry before the end of those of so many hops
  pub entry_within : (to before b : ℕ) → (p : ℕ) × (p < end_within layers.ends.items hops) × (slice_get layers.entries.items p ≡ Some (record { node = to; before = before })) → b < before → IsInTimeWithin layers.ends.items layers.entries.items hops to b
  entry_within to before b has less =
      let layer = layer_of layers.ends.items has.0 (min (length layers.ends.items - 1) (hops + 1)) over.layers.first_end has.1 in
      (layer.0, before, omega (arith, layer.1), (has.0, layer.2, layer.3, has.2), less)

  -- with no hop left only the goal's entry counts
  goal_last : (v t : ℕ) → IsInTimeWithin layers.ends.items layers.entries.items hops v t → hops ≡ 0 → (v ≡ task.goal) × (t ≤ d)
  goal_last v t entry none =
      let first : entry.0 ≡ 0 = omega (arith, entry.2, none) in
      let here = entry.3 in
      let at : here.0 ≡ 0 = omega (arith, here.2, ap (λ k. slice_index layers.ends.items (k + 1)) first, over.layers.second_end) in
      let same : record { node = v; before = entry.1 } ≡ record { node = over.whole.goal; before = d + 1 } = same_some (sym here.3 ∙ ap (slice_get layers.entries.items) at ∙ over.layers.goal_first) in
      (ap (λ (e : Deadline). e.node) same ∙ over.goal, omega (arith, entry.4, ap (λ (e : Deadline). e.before) same))

  pub step_chosen : (from : Visit) (least : Option Step) → IfSome least (IsChosen task layers.ends.items layers.entries.items hops from) → IsLeastOn task d hops from least → IfSome least (IsStepOn task d hops from)
  step_chosen from None chosen least = tt
  step_chosen from (Some s) chosen least = record {
    step = chosen.0;
    last = goal_last s.node s.at chosen.1;
    least = λ n w b step lesser. elim (least n w b step) [ inl dead ↦ dead | inr most ↦ absurd (omega (arith, most, lesser)) ];
  }

  module _ (ms : List ℕ) (from : Visit) (here : Leads (Takes task) task.start task.at ms from.node from.at) where
    -- a step after the entries' second leads to a dead end
    pub step_late : (n w b before : ℕ) → Takes task n from.node from.at w b → IsLatestWithin layers.entries.items w (end_within layers.ends.items hops) before → before ≤ b → IsDeadEnd task d w b hops
    step_late n w b before step latest deadline =
        let there : Leads (Takes task) task.start task.at (ms ++ n ∷ []) w b = Leads-append (Takes task) (takes_timely task is.nodes) ms (n ∷ []) task.start task.at from.node from.at w b here (w, b, step, (refl, refl)) in
        dead_too_late task is d hops layers over (ms ++ n ∷ []) w b before (omega (arith, length-append ms (n ∷ []))) there latest deadline

    -- and so does one that isn't before a known dead end
    pub step_ended : (ends : List DeadEnd) → AreDeadEnds task d ends → (n w b deadline before : ℕ) → Takes task n from.node from.at w b → IsLatestWithin layers.entries.items w (end_within layers.ends.items hops) deadline →
        (before ≡ deadline) ⊎ ((k : ℕ) × (x : DeadEnd) × (slice_get ends k ≡ Some x) × (x.node ≡ w) × (hops ≤ x.hops) × (x.at ≡ before)) → before ≤ b → IsDeadEnd task d w b hops
    step_ended ends are n w b deadline before step latest why late = elim why [
      | inl same ↦ step_late n w b deadline step latest (omega (arith, same, late))
      | inr known ↦ dead_known task d ends are known.0 known.1 known.2 w b hops known.3 known.4 (omega (arith, known.5, late))
    ]

-- ---- a pick by layers in which each entry in time leads on

pub degree_at_most : (task : SearchTask) (u : ℕ) → degree task u ≤ length task.plan.contacts
degree_at_most task u = omega (arith, count_by-le-length (λ k. eqb k u) (senders task), senders_length task)

-- it came to no dead end, and took a look for each contact at each step
pub record LeadsOn (task : SearchTask) (d hops before left : ℕ) (ends : List DeadEnd) (steps : List Step) : Type 0 where
  pub none : ends ≡ []
  pub counted : before ≤ left + length steps * length task.plan.contacts
  pub met : IsDeadEnd task d (last_visit (start_of task) steps).node (last_visit (start_of task) steps).at (hops - length steps) → ⊥

-- so it is with one more step
pub leads_more : {A : Type 0} (task : SearchTask) (d hops before left left' more : ℕ) (layers : Deadlines A) (ends : List DeadEnd) (steps : List Step) (s : Step) → AreSound task d layers → LeadsOn task d hops before left ends steps → left ≤ left' + more → more ≤ length task.plan.contacts
    → IsInTimeWithin layers.ends.items layers.entries.items (hops - length (steps ++ s ∷ [])) s.node s.at → LeadsOn task d hops before left' ends (steps ++ s ∷ [])
leads_more task d hops before left left' more layers ends steps s sound was looked few entry = record {
  none = was.none;
  counted = spent_more before left left' (length steps) (length (steps ++ s ∷ [])) (length task.plan.contacts) (omega (arith, length-append steps (s ∷ []))) was.counted (omega (arith, looked, few));
  met = λ dead. sound entry.0 s.node entry.1 s.at entry.3 entry.4 (dead_later task d s.node s.at s.at (hops - length (steps ++ s ∷ [])) entry.0 (omega arith) entry.2 (subst (λ (v : Visit). IsDeadEnd task d v.node v.at (hops - length (steps ++ s ∷ []))) (visit_more (start_of task) steps s) dead));
}
