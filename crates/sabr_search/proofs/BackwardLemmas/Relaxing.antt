-- Relaxing links backward: what holds meanwhile, and what it comes to.
use Rattle.std.proofs.Common.{◌≡◌, ◌≢◌, inl, inr, ℕ, ◌+◌, ◌-◌, ◌<◌, ◌≤◌, min, true, false, List, [], ◌∷◌, length, replicate, Contains, All, slice_get, slice_index, slice_index_or, slice_set, Some, subst, refl, ap, sym, ◌∙◌, arith}
use Rattle.std.specs.List.Sorted.{IsPermutation}
use Rattle.std.proofs.lemmas.Bool.{cases_lt, cases_eq, both_ways, cases_Bool}
use Rattle.std.proofs.lemmas.Grind.{common_steps}
use Rattle.std.proofs.lemmas.List.Elements.{All-cons, All-head, All-tail, Contains-append_right, Contains-append_cases}
use Rattle.std.proofs.lemmas.List.Sorted.{All-permutation, Contains-permutation}
use Rattle.std.proofs.lemmas.List.{length-replicate, get_or-set_other, get_or-set_same, length-set}
use Rattle.std.proofs.lemmas.Option.{slice_get_within}
use Rattle.sabr_model.specs.plan.Plan.{TabledPlan, has}
use Rattle.sabr_model.specs.routes.Arrival.{RouteRequest, cost}
use Rattle.sabr_search.specs.declared.visit.Visit.{Visit}
use Rattle.sabr_search.specs.questions.Task.{SearchTask, IsTask, IsBehind, Takes, never}
use Rattle.sabr_search.specs.questions.FirstSteps.{tabled_of}
use Rattle.sabr_search.specs.layers.NodeBounds.{Goes, IsBetween, AreDeadlinesFor, AreCostsFor}
use Rattle.sabr_search.specs.declared.backward.relaxation.Backward.{Backward}
use Rattle.sabr_search.specs.declared.backward.relaxation.Relaxation.{Relaxation}
use Rattle.sabr_search.specs.declared.backward.relaxation.Rule.{Rule}
use Rattle.sabr_search.specs.declared.backward.relaxation.Rule.TheVariants.{Passes, Bounds}
use Rattle.sabr_search.specs.layers.Relaxation.{IsWholeGraph, IsBegun, IsRaised, IsLeftBy, IsRelaxed, AreRelaxing, AreAllRelaxed, last_at}
use Rattle.sabr_search.proofs.LinkLemmas.PlanFacts.{arrives_later}
use Rattle.sabr_index.specs.declared.link.Pass.{Pass}
use Rattle.sabr_index.specs.declared.link.LinkBounds.{LinkBounds}
use Rattle.sabr_search.specs.questions.Linked.{IsLinkWithin, HasNumber}
use Rattle.sabr_search.proofs.LinkLemmas.Linking.{cost_rises}
use Rattle.sabr_search.proofs.LinkLemmas.OverLinks.{over_pass, step_over}
use Rattle.sabr_search.proofs.WayLemmas.RoutesAndWays.{same_some}
use Rattle.sabr_search.proofs.ForwardLemmas.Forward.{last_or_before}
use Rattle.sabr_search.proofs.ForwardLemmas.Queues.{only_one, all_same, off_here}
use Rattle.sabr_search.proofs.WayLemmas.EarliestSeconds.{same_everywhere}

-- at first the goal alone waits
pub first_relaxing : {A : Type 0} (backward : Backward A) → IsTask backward.task.now → (s : Relaxation A) (until : ℕ) → IsBegun backward.task.now until s → AreRelaxing backward s (length backward.task.now.table)
first_relaxing backward is s until begun =
    let task = backward.task.now in
    let zeros : List ℕ = replicate (length task.forbidden) 0 in
    let event : Visit = record { at = 0; node = task.goal } in
    record {
      many = ap length begun.seconds_are ∙ length-set zeros task.goal until ∙ length-replicate {A = ℕ} (length task.forbidden) 0 ∙ is.as_many;
      hops_many = begun.hops_many ∙ is.as_many;
      flags = ap length begun.relaxed_is ∙ length-replicate (length task.forbidden) false ∙ is.as_many;
      inside = All-permutation (λ (e : Visit). e.node < length task.table) (event ∷ []) s.queue begun.waits (All-cons (λ (e : Visit). e.node < length task.table) event [] is.goal_in (λ i d lt. absurd (omega (arith, lt))));
      waits = λ w w_in off some. elim (cases_eq w task.goal) [
        | inl same ↦ (event, Contains-permutation (event ∷ []) s.queue event begun.waits (0, omega arith, refl), sym same)
        | inr other ↦ absurd (omega (arith, some, ap (λ xs. slice_index xs w) begun.seconds_are, get_or-set_other zeros task.goal w until 0 other, same_everywhere (length task.forbidden) 0 w))
      ];
      over = λ w other on. absurd (both_ways (slice_index_or s.relaxed.items w false) (ap (λ xs. slice_index_or xs w false) begun.relaxed_is ∙ all_same (length task.forbidden) false w) on);
    }

-- one second more is later than it was
pub late_rises : (deadline : List ℕ) (u last : ℕ) → u < length deadline → slice_index deadline u < last → (k : ℕ) → slice_index deadline k ≤ slice_index (slice_set deadline u last) k
late_rises deadline u last inside less k = elim (cases_eq k u) [
  | inl same ↦ omega (arith, ap (slice_index deadline) same, less, ap (slice_index (slice_set deadline u last)) same, get_or-set_same deadline u last 0 inside)
  | inr differ ↦ omega (arith, get_or-set_other deadline u k last 0 differ)
]

-- what a step is left by stays so when the second of its sender rises
pub left_more : (rule : Rule) (since second later before t b : ℕ) → second ≤ later → IsLeftBy rule since second before t b → IsLeftBy rule since later before t b
left_more Passes since second later before t b more is = λ less. omega (arith, more, is less)
left_more Bounds since second later before t b more is = λ soon. omega (arith, more, is soon)

-- a step from a node to itself is left by its second
pub left_here : (rule : Rule) (since second t b : ℕ) → t ≤ b → IsLeftBy rule since second second t b
left_here Passes since second t b later = λ less. omega (arith, less, later)
left_here Bounds since second t b later = λ soon. omega (arith, later)

-- links that are relaxed stay so when the seconds of other nodes rise
pub still_relaxed : (rule : Rule) (task : SearchTask) (old new : List ℕ) → ((k : ℕ) → slice_index old k ≤ slice_index new k) → (w : ℕ) → slice_index new w ≡ slice_index old w → IsRelaxed rule task old w → IsRelaxed rule task new w
still_relaxed rule task old new rises w same is n u t b step open' other =
    rw (← same) at (left_more rule task.request.at (slice_index old u) (slice_index new u) (slice_index old w) t b (rises u) (is n u t b step open' other))

-- the second of a node rises, and the node waits
module _ {A : Type 0} (backward : Backward A) (s s' : Relaxation A) (now node last : ℕ) (was : AreRelaxing backward s now)
    (within : node < length backward.task.now.table) (less : slice_index s.seconds.items node < last) (raised : IsRaised node last s s') where
  abbrev searched : SearchTask
  searched = backward.task.now

  abbrev event : Visit
  event = record { at = last_at - last; node = node }

  pub raised_later : (k : ℕ) → slice_index s.seconds.items k ≤ slice_index s'.seconds.items k
  raised_later k = rw raised.seconds_are (late_rises s.seconds.items node last (omega (arith, within, was.many)) less k)

  pub raised_here : slice_index s'.seconds.items node ≡ last
  raised_here = rw raised.seconds_are (get_or-set_same s.seconds.items node last 0 (omega (arith, within, was.many)))

  pub raised_other : (k : ℕ) → k ≢ node → slice_index s'.seconds.items k ≡ slice_index s.seconds.items k
  raised_other k other = rw raised.seconds_are (get_or-set_other s.seconds.items node k last 0 other)

  flag_other : (k : ℕ) → k ≢ node → slice_index_or s'.relaxed.items k false ≡ slice_index_or s.relaxed.items k false
  flag_other k other = rw raised.relaxed_is (get_or-set_other s.relaxed.items node k false false other)

  flag_here : slice_index_or s'.relaxed.items node false ≡ false
  flag_here = rw raised.relaxed_is (off_here s.relaxed.items node)

  pub still_relaxing : AreRelaxing backward s' now
  still_relaxing = record {
    many = ap length raised.seconds_are ∙ length-set s.seconds.items node last ∙ was.many;
    hops_many = raised.hops_many ∙ was.hops_many;
    flags = ap length raised.relaxed_is ∙ length-set s.relaxed.items node false ∙ was.flags;
    inside = All-permutation (λ (e : Visit). e.node < length searched.table) (event ∷ s.queue) s'.queue raised.waits (All-cons (λ (e : Visit). e.node < length searched.table) event s.queue within was.inside);
    waits = λ w w_in off some. elim (cases_eq w node) [
      | inl same ↦ (event, Contains-permutation (event ∷ s.queue) s'.queue event raised.waits (0, omega arith, refl), sym same)
      | inr differ ↦
          (let waits = was.waits w w_in (sym (flag_other w differ) ∙ off) (omega (arith, some, raised_other w differ)) in
          (waits.0, Contains-permutation (event ∷ s.queue) s'.queue waits.0 raised.waits (Contains-append_right (event ∷ []) s.queue waits.0 waits.1), waits.2))
    ];
    over = λ w apart on. elim (cases_eq w node) [
      | inl same ↦ absurd (both_ways (slice_index_or s'.relaxed.items node false) flag_here (rw same at on))
      | inr differ ↦ still_relaxed backward.rule searched s.seconds.items s'.seconds.items raised_later w (raised_other w differ) (was.over w apart (sym (flag_other w differ) ∙ on))
    ];
  }

-- over a link within these bounds a step takes the cost of their least light time
pub over_bounds : (task : SearchTask) → IsTask task → (u to : ℕ) (passes : List Pass) (bounds : LinkBounds) → IsLinkWithin task u to passes bounds → (n t b : ℕ) → HasNumber passes n → Takes task n u t to b →
    t + cost task.request.margin (min bounds.least_light 1000000) ≤ b
over_bounds task is u to passes bounds link n t b has s =
    let o = over_pass task is u to t has.1 to b (link.0.each has.0 has.1 has.2) (step_over task passes n u t to b has s) in
    let kept = link.1 has.0 has.1 has.2 in
    omega (arith, o.sum, cost_rises task.request.margin (min bounds.least_light 1000000) has.1.light (omega (arith, kept.light)))

-- a link that has ended by a second is left before it
pub left_before : (task : SearchTask) → IsTask task → (u to : ℕ) (passes : List Pass) (bounds : LinkBounds) → IsLinkWithin task u to passes bounds → (at : ℕ) → bounds.latest_end ≤ at →
    (n t w b : ℕ) → HasNumber passes n → Takes task n u t w b → t < at
left_before task is u to passes bounds link at ended n t w b has s =
    let o = over_pass task is u to t has.1 w b (link.0.each has.0 has.1 has.2) (step_over task passes n u t w b has s) in
    omega (arith, o.before_end, (link.1 has.0 has.1 has.2).ends, ended)

-- what holds of each item before a place, and of the item there, holds of each before the next place
pub each_until : {X : Type 0} (P : X → Type 0) (xs : List X) (place : ℕ) (x : X) → slice_get xs place ≡ Some x → ((j : ℕ) (y : X) → j < place → slice_get xs j ≡ Some y → P y) → P x →
    (j : ℕ) (y : X) → j < place + 1 → slice_get xs j ≡ Some y → P y
each_until P xs place x here so_far own j y less at = elim (last_or_before j place less) [
  | inl before ↦ so_far j y before at
  | inr same ↦ subst P (same_some (sym here ∙ ap (slice_get xs) (sym same) ∙ at)) own
]

-- a node that waits has a place
pub next_inside : {A : Type 0} (backward : Backward A) (s : Relaxation A) (e : Visit) (rest : List Visit) → AreRelaxing backward s (length backward.task.now.table) → IsPermutation s.queue (e ∷ rest) → e.node < length backward.task.now.table
next_inside backward s e rest was moved =
    let inside : Visit → Type 0 = λ f. f.node < length backward.task.now.table in
    All-head inside e rest (All-permutation inside s.queue (e ∷ rest) moved was.inside)

-- a node that waits is taken out
module _ {A : Type 0} (backward : Backward A) (s s' : Relaxation A) (e : Visit) (was : AreRelaxing backward s (length backward.task.now.table)) (moved : IsPermutation s.queue (e ∷ s'.queue))
    (seconds_same : s'.seconds ≡ s.seconds) (hops_same : s'.hops ≡ s.hops) where
  abbrev most : ℕ
  most = length backward.task.now.table

  all_inside : All (λ (f : Visit). f.node < most) (e ∷ s'.queue)
  all_inside = All-permutation (λ (f : Visit). f.node < most) s.queue (e ∷ s'.queue) moved was.inside

  rest_waits : (w : ℕ) → w ≢ e.node → w < most → slice_index_or s.relaxed.items w false ≡ false → 0 < slice_index s.seconds.items w → (x : Visit) × Contains s'.queue x × (x.node ≡ w)
  rest_waits w other w_in off some =
      let waits = was.waits w w_in off some in
      let x = waits.0 in
      elim (Contains-append_cases (e ∷ []) s'.queue x (Contains-permutation s.queue (e ∷ s'.queue) x moved waits.1)) [
        | inl alone ↦ absurd (other (sym waits.2 ∙ only_one e x alone))
        | inr rest ↦ (x, rest, waits.2)
      ]

  -- its links needn't be relaxed again
  pub skipped : s'.relaxed ≡ s.relaxed → slice_index_or s.relaxed.items e.node false ≡ true → AreRelaxing backward s' most
  skipped same_flags on = record {
    many = rw seconds_same was.many;
    hops_many = rw hops_same was.hops_many;
    flags = rw same_flags was.flags;
    inside = All-tail (λ (f : Visit). f.node < most) e s'.queue all_inside;
    waits = rw (seconds_same, same_flags) (λ w w_in off some. rest_waits w (λ same. both_ways (slice_index_or s.relaxed.items w false) off (ap (λ k. slice_index_or s.relaxed.items k false) same ∙ on)) w_in off some);
    over = rw (seconds_same, same_flags) was.over;
  }

  -- the links to it are relaxed
  pub begun : s'.relaxed.items ≡ slice_set s.relaxed.items e.node true → AreRelaxing backward s' e.node
  begun flags_are = record {
    many = rw seconds_same was.many;
    hops_many = rw hops_same was.hops_many;
    flags = ap length flags_are ∙ length-set s.relaxed.items e.node true ∙ was.flags;
    inside = All-tail (λ (f : Visit). f.node < most) e s'.queue all_inside;
    waits = rw (seconds_same, flags_are) (λ w w_in off some. elim (cases_eq w e.node) [
      | inl same ↦ absurd (both_ways (slice_index_or (slice_set s.relaxed.items e.node true) w false) off (ap (λ k. slice_index_or (slice_set s.relaxed.items e.node true) k false) same ∙ here))
      | inr other ↦ rest_waits w other w_in (sym (get_or-set_other s.relaxed.items e.node w true false other) ∙ off) some
    ]);
    over = rw (seconds_same, flags_are) (λ w other on. was.over w (λ same. past w same on) (sym (get_or-set_other s.relaxed.items e.node w true false other) ∙ on));
  }
    where
      here : slice_index_or (slice_set s.relaxed.items e.node true) e.node false ≡ true
      here = (let within : e.node < length s.relaxed.items = omega (arith, next_inside backward s e s'.queue was moved, was.flags) in grind (arith, common_steps, within))

      past : (w : ℕ) → w ≡ most → slice_index_or (slice_set s.relaxed.items e.node true) w false ≡ true → ⊥
      past w same on = (let far : length (slice_set s.relaxed.items e.node true) ≤ w = omega (arith, length-set s.relaxed.items e.node true, was.flags, same) in both_ways (slice_index_or (slice_set s.relaxed.items e.node true) w false) (grind (arith, common_steps, far)) on)

-- all links to a node are relaxed
pub finished : {A : Type 0} (backward : Backward A) (s : Relaxation A) (now : ℕ) → AreRelaxing backward s now → IsRelaxed backward.rule backward.task.now s.seconds.items now → AreRelaxing backward s (length backward.task.now.table)
finished backward s now was relaxed_now = record {
  many = was.many;
  hops_many = was.hops_many;
  flags = was.flags;
  inside = was.inside;
  waits = was.waits;
  over = λ w other on. elim (cases_eq w now) [
    | inl same ↦ rw same relaxed_now
    | inr differ ↦ was.over w differ on
  ];
}

-- none waits any more
pub all_relaxed : {A : Type 0} (backward : Backward A) (s : Relaxation A) → AreRelaxing backward s (length backward.task.now.table) → s.queue ≡ [] → AreAllRelaxed backward.rule backward.task.now s.seconds.items
all_relaxed backward s was empty = record {
  many = was.many;
  over = λ w w_in some. was.over w (λ same. absurd (omega (arith, same, w_in))) (on w w_in some);
}
  where
    on : (w : ℕ) → w < length backward.task.now.table → 0 < slice_index s.seconds.items w → slice_index_or s.relaxed.items w false ≡ true
    on w w_in some = elim (cases_Bool (slice_index_or s.relaxed.items w false)) [
      | inl yes' ↦ yes'
      | inr off ↦ (let waits = was.waits w w_in off some in let none = rw empty at waits.1 in absurd (omega (arith, none.1)))
    ]

read_or : (xs : List ℕ) (k : ℕ) → k < length xs → slice_index_or xs k never ≡ slice_index xs k
read_or xs k within = grind (arith, common_steps)

-- a step of the whole graph is one of its question
whole_step : (task : SearchTask) → IsWholeGraph task → (n u t w b : ℕ) → Goes (tabled_of task) task.request n u t w b → Takes task n u t w b
whole_step task whole n u t w b g = record {
  contact = g.contact;
  named = g.named;
  sender = g.sender;
  receiver = g.receiver;
  permitted = whole.forbids w g.contact.to g.receiver ∙ g.permitted;
  allowed = λ here. ap (has n) whole.free;
  arrives = g.arrives;
}

-- a node that isn't the destination isn't the goal
other_node : (task : SearchTask) → IsWholeGraph task → (u : ℕ) → IsBetween (tabled_of task) task.request u → u ≢ task.goal
other_node task whole u between same = between.other (same_some (sym between.stands ∙ ap (slice_get task.table) same ∙ whole.goal_is))

-- at first it is too late at the goal from this second on
pub goal_begun : {A : Type 0} (task : SearchTask) → IsTask task → (until : ℕ) (s : Relaxation A) → IsBegun task until s → slice_index s.seconds.items task.goal ≡ until
goal_begun task is until s begun =
    let zeros : List ℕ = replicate (length task.forbidden) 0 in
    ap (λ xs. slice_index xs task.goal) begun.seconds_are ∙ get_or-set_same zeros task.goal until 0 (omega (arith, length-replicate {A = ℕ} (length task.forbidden) 0, is.as_many, is.goal_in))

-- so these are seconds from which on no way delivers before that one
pub deadlines_for : (task : SearchTask) → IsWholeGraph task → (until : ℕ) (deadline : List ℕ) → until ≤ slice_index deadline task.goal → AreAllRelaxed Passes task deadline → AreDeadlinesFor (tabled_of task) task.request until deadline
deadlines_for task whole until deadline goal are = record {
  goal = λ g at.
      (let same : g ≡ task.goal = whole.is.nodes.apart g task.goal task.request.destination at whole.goal_is in
      omega (arith, ap (slice_index deadline) same, goal, read_or deadline g (omega (arith, are.many, slice_get_within task.table g task.request.destination at))));
  steps = λ n u t w b g between late_there.
      (let w_in : w < length task.table = slice_get_within task.table w g.contact.to g.receiver in
      let u_in : u < length task.table = slice_get_within task.table u g.contact.from g.sender in
      let other : u ≢ task.goal = other_node task whole u between in
      let step : Takes task n u t w b = whole_step task whole n u t w b g in
      elim (cases_lt b (slice_index deadline w)) [
        | inr le ↦ omega (arith, le, read_or deadline w (omega (arith, are.many, w_in)))
        | inl less ↦
            absurd (omega (arith, late_there, read_or deadline u (omega (arith, are.many, u_in)), are.over w w_in (omega (arith, less)) n u t b step (whole.forbids u between.node between.stands ∙ between.permitted) other less))
      ]);
}

-- so what each second lacks of the goal's are costs
pub costs_for : (task : SearchTask) → IsWholeGraph task → (seconds costs : List ℕ) (until : ℕ) → until ≤ slice_index seconds task.goal → AreAllRelaxed Bounds task seconds → ((k : ℕ) → k < length seconds → slice_index costs k ≡ until - slice_index seconds k) → AreCostsFor (tabled_of task) task.request costs
costs_for task whole seconds costs until goal are turned = record {
  goal = λ g at.
      (let same : g ≡ task.goal = whole.is.nodes.apart g task.goal task.request.destination at whole.goal_is in
      omega (arith, turned g (omega (arith, are.many, slice_get_within task.table g task.request.destination at)), ap (slice_index seconds) same, goal));
  steps = λ n u t w b g between since.
      (let w_in : w < length task.table = slice_get_within task.table w g.contact.to g.receiver in
      let u_in : u < length task.table = slice_get_within task.table u g.contact.from g.sender in
      let step : Takes task n u t w b = whole_step task whole n u t w b g in
      let of_w = turned w (omega (arith, are.many, w_in)) in
      let of_u = turned u (omega (arith, are.many, u_in)) in
      elim (cases_lt 0 (slice_index seconds w)) [
        | inr le ↦ omega (arith, of_w, of_u, le, arrives_later task.plan task.request t g.contact b g.arrives)
        | inl some ↦
            omega (arith, of_w, of_u, are.over w w_in some n u t b step (whole.forbids u between.node between.stands ∙ between.permitted) (other_node task whole u between) since, arrives_later task.plan task.request t g.contact b g.arrives)
      ]);
}

-- nothing is known of any node
pub no_costs : (p : TabledPlan) (r : RouteRequest) (costs : List ℕ) → costs ≡ [] → AreCostsFor p r costs
no_costs p r costs empty = rw empty (record { goal = λ g at. refl; steps = λ n u t w b g between since. omega (arith, arrives_later p.plan r t g.contact b g.arrives) })

pub none_late : (p : TabledPlan) (r : RouteRequest) (until : ℕ) (deadline : List ℕ) → until ≤ never → deadline ≡ [] → AreDeadlinesFor p r until deadline
none_late p r until deadline fits empty = rw empty (record {
  goal = λ g at. omega (arith, fits);
  steps = λ n u t w b g between late_there. omega (arith, late_there, arrives_later p.plan r t g.contact b g.arrives);
})

-- what is too late for a second is so for each before it
pub late_before : (p : TabledPlan) (r : RouteRequest) (until by : ℕ) (deadline : List ℕ) → by ≤ until → AreDeadlinesFor p r until deadline → AreDeadlinesFor p r by deadline
late_before p r until by deadline before are = record { goal = λ g at. omega (arith, before, are.goal g at); steps = are.steps }

-- the whole graph, as the question of the empty prefix
pub whole_task : (task : SearchTask) → IsTask task → IsBehind task [] → task.excluded ≡ [] → IsWholeGraph task
whole_task task is behind free = record { is = is; goal_is = behind.goal_is; forbids = behind.forbids; free = free }
