-- What an answer that is kept is worth: by the law of answers, to each question that it covers.
use Rattle.std.proofs.Common.{◌≡◌, inl, inr, ℕ, ◌+◌, ◌<◌, Bool, true, false, List, [], ◌∷◌, ◌++◌, length, take, drop, Some, slice_get, slice_index, slice_index_or, slice_set, refl, ap, sym, subst, ◌∙◌, arith, length-append}
use Rattle.std.specs.Prelude.{All}
use Rattle.std.proofs.lemmas.Bool.{both_ways, cases_eq, cases_lt}
use Rattle.std.proofs.lemmas.Grind.{common_steps}
use Rattle.std.proofs.lemmas.List.{get_or-set_same, get_or-set_other, get_or_append_left, length-set}
use Rattle.std.proofs.Math.Seq.{get_or-append_seam}
use Rattle.std.proofs.lemmas.Option.{slice_get-get_or, slice_get_within, get_or_from_slice_get}
use Rattle.sabr_model.specs.declared.contact.Contact.{Contact}
use Rattle.sabr_model.specs.plan.Plan.{contact_named, has}
use Rattle.sabr_search.specs.declared.early.answers.Answer.{Answer}
use Rattle.sabr_search.specs.declared.bound.Bound.{Bound}
use Rattle.sabr_search.specs.declared.found.Found.{Found}
use Rattle.sabr_search.specs.declared.found.Found.TheVariants.{Way, Beyond}
use Rattle.sabr_search.specs.declared.question.Question.{Question}
use Rattle.sabr_search.specs.declared.visit.Visit.{Visit}
use Rattle.sabr_search.specs.questions.FirstSteps.{Leads, tabled_of}
use Rattle.sabr_search.specs.questions.Task.{SearchTask, Takes, IsTask, IsAsked}
use Rattle.sabr_search.specs.layers.Picks.{IsBestWay}
use Rattle.sabr_search.specs.answers.Answers.{narrowed, Narrows, IsWayBeyond, IsFoundWith}
use Rattle.sabr_search.specs.answers.CachedAnswers.{asked, AreListed, IsAnswer, Covers, HoldsFor, IsAnswerTo, IsPut, Arrives}
use Rattle.sabr_search.specs.answers.Asked.{AnswersAt, bound_left, hops_left}
use Rattle.sabr_search.proofs.AnswerLemmas.BoundedWays.{up_to_itself, answers_stay}
use Rattle.sabr_search.proofs.WayLemmas.Ways.{Leads-append}
use Rattle.sabr_search.proofs.WayLemmas.RoutesAndWays.{takes_timely}

-- contact n leads from node u to node w, if no node were forbidden and all were in time
pub record Joins (task : SearchTask) (n u t w b : ℕ) : Type 0 where
  pub contact : Contact
  pub named : contact_named task.plan n ≡ Some contact
  pub sender : slice_get task.table u ≡ Some contact.from
  pub receiver : slice_get task.table w ≡ Some contact.to
  pub allowed : u ≡ task.start → has n task.excluded ≡ false

module _ {A : Type 0} (task : SearchTask) (a : Answer A) (node : a.from.node ≡ task.start) (same : a.lists.excluded ≡ task.excluded) where
  -- the way that was found joins where the question stands, too
  pub joins : (forbidden : List Bool) (goal : ℕ) (ns : List ℕ) (u t v e : ℕ) → Leads (Takes (asked (tabled_of task) task.request a forbidden goal)) u t ns v e → Leads (Joins task) u t ns v e
  joins forbidden goal [] u t v e way = way
  joins forbidden goal (n ∷ ns) u t v e way =
      let step : Takes (asked (tabled_of task) task.request a forbidden goal) n u t way.0 way.1 = way.2 in
      let joined : Joins task n u t way.0 way.1 = record {
        contact = step.contact;
        named = step.named;
        sender = step.sender;
        receiver = step.receiver;
        allowed = λ at. subst (λ xs. has n xs ≡ false) same (step.allowed (at ∙ sym node));
      } in
      (way.0, way.1, joined, joins forbidden goal ns way.0 way.1 v e way.3)

  -- the question is the one that was asked, but for the nodes that are forbidden and the second
  pub narrowed_is : (forbidden : List Bool) (goal : ℕ) → goal ≡ task.goal → narrowed (asked (tabled_of task) task.request a forbidden goal) task.forbidden task.at ≡ task
  narrowed_is forbidden goal to =
      let f : List ℕ → ℕ → ℕ → SearchTask = λ xs u v. record { plan = task.plan; request = task.request; table = task.table; forbidden = task.forbidden; excluded = xs; start = u; goal = v; at = task.at } in
      ap (λ xs. f xs a.from.node goal) same ∙ ap (λ u. f task.excluded u goal) node ∙ ap (λ v. f task.excluded task.start v) to

  pub asked_is : a.from.at ≡ task.at → asked (tabled_of task) task.request a task.forbidden task.goal ≡ task
  asked_is at =
      let f : List ℕ → ℕ → ℕ → SearchTask = λ xs u t. record { plan = task.plan; request = task.request; table = task.table; forbidden = task.forbidden; excluded = xs; start = u; goal = task.goal; at = t } in
      ap (λ xs. f xs a.from.node a.from.at) same ∙ ap (λ u. f task.excluded u a.from.at) node ∙ ap (λ t. f task.excluded task.start t) at

-- where a way stands after some of its contacts: they may be taken, and those that are left join
pub record IsOnWay (task : SearchTask) (way : List ℕ) (i u t : ℕ) : Type 0 where
  pub gone : Leads (Takes task) task.start task.at (take i way) u t
  pub before : ℕ
  pub goal : ℕ
  pub end : ℕ
  pub rest : Leads (Joins task) u before (drop i way) goal end

drop_at : (xs : List ℕ) (i : ℕ) → i < length xs → drop i xs ≡ slice_index xs i ∷ drop (i + 1) xs
drop_at xs i within = grind (arith, common_steps)

take_at : (xs : List ℕ) (i : ℕ) → i < length xs → take (i + 1) xs ≡ take i xs ++ slice_index xs i ∷ []
take_at xs i within = grind (arith, common_steps)

pub on_way_more : (task : SearchTask) → IsTask task → (way : List ℕ) (i u t : ℕ) → i < length way → IsOnWay task way i u t → (s : Visit) → Arrives task (slice_index way i) t s → IsOnWay task way (i + 1) s.node s.at
on_way_more task is way i u t within on s arrives =
    let n = slice_index way i in
    let rest : Leads (Joins task) u on.before (n ∷ drop (i + 1) way) on.goal on.end = subst (λ xs. Leads (Joins task) u on.before xs on.goal on.end) (drop_at way i within) on.rest in
    let joined : Joins task n u on.before rest.0 rest.1 = rest.2 in
    let contact : joined.contact ≡ arrives.contact = (let q : Some joined.contact ≡ Some arrives.contact = sym joined.named ∙ arrives.named in cc (q)) in
    let to : slice_get task.table rest.0 ≡ Some arrives.contact.to = joined.receiver ∙ ap (λ (c : Contact). Some c.to) contact in
    let node : rest.0 ≡ s.node = is.nodes.apart rest.0 s.node arrives.contact.to to arrives.receiver in
    let step : Takes task n u t s.node s.at = record {
      contact = arrives.contact;
      named = arrives.named;
      sender = joined.sender ∙ ap (λ (c : Contact). Some c.from) contact;
      receiver = arrives.receiver;
      permitted = arrives.permitted;
      allowed = joined.allowed;
      arrives = arrives.arrives;
    } in
    record {
      gone = subst (λ xs. Leads (Takes task) task.start task.at xs s.node s.at) (sym (take_at way i within))
          (Leads-append (Takes task) (takes_timely task is.nodes) (take i way) (n ∷ []) task.start task.at u t s.node s.at on.gone (s.node, s.at, step, (refl, refl)));
      before = rest.1;
      goal = on.goal;
      end = on.end;
      rest = subst (λ w. Leads (Joins task) w rest.1 (drop (i + 1) way) on.goal on.end) node rest.3;
    }

module _ {A : Type 0} (task : SearchTask) (is : IsTask task) (goal_is : slice_get task.table task.goal ≡ Some task.request.destination) (a : Answer A) (answer : IsAnswer (tabled_of task) task.request a) where
  goals : answer.goal ≡ task.goal
  goals = is.nodes.apart answer.goal task.goal task.request.destination answer.goal_is goal_is

  narrows : (hops : ℕ) → Covers a task hops → Narrows (asked (tabled_of task) task.request a answer.flags answer.goal) task.forbidden task.at
  narrows hops covers = record {
    later = covers.later;
    forbids = λ k off. by k off (slice_index_or answer.flags k false) refl;
  }
    where
      by : (k : ℕ) → slice_index_or task.forbidden k false ≡ false → (b : Bool) → slice_index_or answer.flags k false ≡ b → slice_index_or answer.flags k false ≡ false
      by k off false at = at
      by k off true at = let listed = answer.listed k at in absurd (both_ways (slice_index_or task.forbidden k false) off (covers.forbids listed.0 k listed.1))

  -- what was found still holds
  pub stays : (hops : ℕ) (b : Bound) → Covers a task hops → (found : Found ℕ) → IsFoundWith (asked (tabled_of task) task.request a answer.flags answer.goal) a.hops a.lists.way found → HoldsFor task hops b a.lists.way found → IsFoundWith task hops a.lists.way found
  stays hops b covers (Way d) least way =
      let was = asked (tabled_of task) task.request a answer.flags answer.goal in
      let same = narrowed_is task a covers.node covers.same answer.flags answer.goal goals in
      let taken : Leads (Takes (narrowed was task.forbidden task.at)) a.from.node task.at a.lists.way answer.goal d =
      subst (λ (t : SearchTask). Leads (Takes t) t.start t.at a.lists.way t.goal d) (sym same) way.1 in
      subst (λ t. IsBestWay t hops (d + 1) a.lists.way d) same
      (answers_stay.least was task.forbidden task.at a.hops hops (d + 1) a.lists.way d is.nodes (narrows hops covers) covers.fewer least way.0 taken)
  stays hops b covers (Beyond own) beyond up_to =
      subst (λ t. IsWayBeyond t hops own) (narrowed_is task a covers.node covers.same answer.flags answer.goal goals)
      (answers_stay.beyond (asked (tabled_of task) task.request a answer.flags answer.goal) task.forbidden task.at a.hops hops own own is.nodes (narrows hops covers) covers.fewer (up_to_itself own) beyond)

  -- the way stands at the start
  pub on_way_first : a.from.node ≡ task.start → a.lists.excluded ≡ task.excluded → (d : ℕ) → a.found ≡ Way d → IsOnWay task a.lists.way 0 task.start task.at
  on_way_first node same d way =
      let least : IsBestWay (asked (tabled_of task) task.request a answer.flags answer.goal) a.hops (d + 1) a.lists.way d = subst (IsFoundWith (asked (tabled_of task) task.request a answer.flags answer.goal) a.hops a.lists.way) way answer.found in
      record {
        gone = (refl, refl);
        before = a.from.at;
        goal = answer.goal;
        end = d;
        rest = subst (λ u. Leads (Joins task) u a.from.at a.lists.way answer.goal d) node
            (joins task a node same answer.flags answer.goal a.lists.way a.from.node a.from.at answer.goal d least.way);
      }

-- the answer at a place is the answer to a question, too
module _ {A : Type 0} (question : Question A) (asked_is : IsAsked question.task.now question.prefix.now) (answers : List (Answer A)) (all : All (IsAnswer (tabled_of question.task.now) question.task.now.request) answers)
    (place : ℕ) (at : AnswersAt answers question place) (a : Answer A) (read : a ≡ slice_index_or answers place a) where
  there : slice_get answers place ≡ Some a
  there = slice_get-get_or answers place a (slice_get_within answers place at.0 at.1) ∙ ap Some (sym read)

  one : IsAnswer (tabled_of question.task.now) question.task.now.request a
  one = subst (IsAnswer (tabled_of question.task.now) question.task.now.request) (get_or_from_slice_get answers place a a there) (all place a (slice_get_within answers place a there))

  to : IsAnswerTo a question.task.now (hops_left question) (bound_left question)
  to = subst (λ x. IsAnswerTo x question.task.now (hops_left question) (bound_left question)) (let q : Some at.0 ≡ Some a = sym at.1 ∙ there in cc (q)) at.2

  pub found_at : IsFoundWith question.task.now (hops_left question) a.lists.way a.found
  found_at = stays question.task.now asked_is.task_is asked_is.behind.goal_is a one (hops_left question) (bound_left question) to.covers a.found one.found to.holds

  pub holds_at : HoldsFor question.task.now (hops_left question) (bound_left question) a.lists.way a.found
  holds_at = to.holds

-- the answer to a question, kept
pub kept_is : {A : Type 0} (task : SearchTask) (a : Answer A) → slice_get task.table task.goal ≡ Some task.request.destination → IsFoundWith task a.hops a.lists.way a.found →
    a.from.node ≡ task.start → a.from.at ≡ task.at → a.lists.excluded ≡ task.excluded → AreListed task.forbidden a.lists.forbidden → IsAnswer (tabled_of task) task.request a
kept_is task a goal_is found node at same listed = record {
  flags = task.forbidden;
  goal = task.goal;
  goal_is = goal_is;
  listed = listed;
  found = subst (λ t. IsFoundWith t a.hops a.lists.way a.found) (sym (asked_is task a node same at)) found;
}

-- what holds for those before and for the one that was put holds for all
pub put_all : {A : Type 0} (P : Answer A → Type 0) (old new : List (Answer A)) (a : Answer A) → All P old → P a → IsPut old new a → All P new
put_all P old new a all one put = λ k d within. elim (put k (slice_index_or new k d) (slice_get-get_or new k d within)) [
  | inl is ↦ subst P (sym is) one
  | inr before ↦ (let there = slice_get_within old before.0 (slice_index_or new k d) before.1 in
      subst P (get_or_from_slice_get old before.0 (slice_index_or new k d) d before.1) (all before.0 d there))
]

-- an answer behind the others, or in place of one of them
pub put_behind : {A : Type 0} (old : List (Answer A)) (a : Answer A) → IsPut old (old ++ a ∷ []) a
put_behind old a k x at = elim (cases_lt k (length old)) [
  | inl before ↦ inr (k, slice_get-get_or old k x before ∙ ap Some (sym (get_or_append_left old (a ∷ []) x k before) ∙ there))
  | inr behind ↦
      (let last : k ≡ length old = omega (arith, behind, slice_get_within (old ++ a ∷ []) k x at, length-append old (a ∷ [])) in
      inl (sym there ∙ ap (λ j. slice_index_or (old ++ a ∷ []) j x) last ∙ get_or-append_seam old a [] x))
]
  where
    there : slice_index_or (old ++ a ∷ []) k x ≡ x
    there = get_or_from_slice_get (old ++ a ∷ []) k x x at

pub put_instead : {A : Type 0} (old : List (Answer A)) (place : ℕ) (a : Answer A) → IsPut old (slice_set old place a) a
put_instead old place a k x at = elim (cases_eq k place) [
  | inl same ↦
      (let within : place < length old = omega (arith, same, slice_get_within (slice_set old place a) k x at, length-set old place a) in
      inl (sym there ∙ ap (λ j. slice_index_or (slice_set old place a) j x) same ∙ get_or-set_same old place a x within))
  | inr other ↦
      (let within : k < length old = omega (arith, slice_get_within (slice_set old place a) k x at, length-set old place a) in
      inr (k, slice_get-get_or old k x within ∙ ap Some (sym (get_or-set_other old place k a x other) ∙ there)))
]
  where
    there : slice_index_or (slice_set old place a) k x ≡ x
    there = get_or_from_slice_get (slice_set old place a) k x x at
