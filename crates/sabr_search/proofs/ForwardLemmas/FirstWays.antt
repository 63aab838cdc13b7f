-- The search by arrival from its start to its stop: what holds between two events, and what it has found at the end.
use Rattle.std.proofs.Common.{◌≡◌, ◌≢◌, ◌⊎◌, inl, inr, ℕ, zero, suc, ◌+◌, ◌-◌, ◌<◌, ◌≤◌, Option, Some, None, List, [], ◌∷◌, length, replicate, Bool, true, false, slice_index, slice_index_or, slice_set, All, Contains, refl, ap, sym, ◌∙◌, arith}
use Rattle.std.specs.List.{count_by}
use Rattle.std.specs.List.Sorted.{IsPermutation}
use Rattle.std.proofs.lemmas.Bool.{cases_lt, cases_eq, both_ways, cases_Bool, false_from_ne_true}
use Rattle.std.proofs.lemmas.List.Sums.{count_by-le-length}
use Rattle.std.proofs.lemmas.List.Elements.{at_read}
use Rattle.std.proofs.lemmas.List.{length-replicate, get_or-set_other, get_or-set_same, get_or_past, length-set}
use Rattle.std.proofs.lemmas.Option.{slice_get_within}
use Rattle.sabr_search.specs.declared.visit.Visit.{Visit}
use Rattle.sabr_search.specs.declared.found.Best.{Best}
use Rattle.sabr_search.specs.questions.FirstSteps.{Leads, IsNoneBefore}
use Rattle.sabr_search.specs.questions.Task.{SearchTask, Takes, IsTask, never, latest_arrival}
use Rattle.sabr_search.specs.layers.Lists.{IsKnown, AreClosed, IsWayTo, AreOpened, IsFoundBest}
use Rattle.sabr_search.specs.questions.Linked.{senders, degree}
use Rattle.sabr_search.specs.layers.Settling.{IsBound, IsWaiting, AreBy, settled_count, AreArrivalsBy, IsQueue, AreSettling, IsFallen, AreSettledTaken, AreSettled, IsFirstWay, IsReached}
use Rattle.sabr_search.proofs.WayLemmas.Ways.{Leads-later}
use Rattle.sabr_search.proofs.LinkLemmas.PlanFacts.{settled_more, senders_length}
use Rattle.sabr_search.proofs.WayLemmas.RoutesAndWays.{takes_timely}
use Rattle.sabr_search.proofs.AnswerLemmas.Law.{way_early}
use Rattle.sabr_search.proofs.ForwardLemmas.Queues.{count_more, count_short, head_inside, head_open, head_other, head_soon, settles, all_same}

-- the number of contacts that the settled nodes send
abbrev pub sent_by_settled : SearchTask → List Bool → ℕ
sent_by_settled task settled = count_by (λ k. slice_index_or settled k false) (senders task)

-- the start is no goal
pub goal_other : (task : SearchTask) → IsTask task → task.goal ≢ task.start
goal_other task is same = both_ways (slice_index_or task.forbidden task.start false) (sym (ap (λ k. slice_index_or task.forbidden k false) same) ∙ is.goal_open) is.start_forbidden

-- a node is settled and its contacts are taken
module _ (task : SearchTask) (until : ℕ) (deadline costs : List ℕ) (settled : List Bool) (u t : ℕ) (arrival0 : List ℕ) (best0 : Best) (arrival hops : List ℕ) (queue : List Visit) (best : Best)
    (state : AreSettling task until deadline costs (slice_set settled u true) u t arrival hops queue best) (fallen : IsFallen (slice_set settled u true) arrival0 best0 arrival best) (taken : AreSettledTaken task costs (slice_set settled u true) arrival best.delivery)
    (other : task.goal ≢ u) where
  pub settled_next : slice_index_or (slice_set settled u true) task.start false ≡ true → slice_index arrival0 task.start ≡ task.at → slice_index_or settled task.goal false ≡ false →
      AreClosed task.forbidden arrival0 task.at → AreSettled task until deadline costs (slice_set settled u true) arrival hops queue best
  settled_next start reached goal closed = record {
    flags = state.flags;
    many = state.many;
    start_settled = start;
    start_reached = fallen.kept task.start start ∙ reached;
    goal_unsettled = get_or-set_other settled u task.goal true false other ∙ goal;
    closed = λ k on. omega (arith, fallen.lowered k, closed k on);
    lowered = state.lowered;
    queue_is = state.queue_is;
    hops_are = state.hops_are;
    found = state.found;
    sooner = state.sooner;
    goal_late = state.goal_late;
    taken = taken;
  }

-- a flag that is on stays on
pub flag_stays : (settled : List Bool) (u k : ℕ) → u < length settled → slice_index_or settled k false ≡ true → slice_index_or (slice_set settled u true) k false ≡ true
flag_stays settled u k within on = elim (cases_eq k u) [
  | inl same ↦ ap (λ j. slice_index_or (slice_set settled u true) j false) same ∙ get_or-set_same settled u true false within
  | inr other ↦ get_or-set_other settled u k true false other ∙ on
]

-- the contacts of the settled nodes come to no more than those of the plan
pub sent_most : (task : SearchTask) (settled : List Bool) → sent_by_settled task settled ≤ length task.plan.contacts
sent_most task settled = omega (arith, count_by-le-length (λ k. slice_index_or settled k false) (senders task), senders_length task)

pub sent_grows : (task : SearchTask) (settled : List Bool) (u : ℕ) → u < length settled → slice_index_or settled u false ≡ false → sent_by_settled task (slice_set settled u true) ≡ sent_by_settled task settled + degree task u
sent_grows task settled u within unsettled = settled_more settled u (senders task) within unsettled

-- a way on from an open node costs at least what the goal costs less from its end
pub costs_fall : (task : SearchTask) → IsTask task → (until : ℕ) (deadline costs : List ℕ) → IsBound task until deadline costs → (ns : List ℕ) (w b v t : ℕ) → slice_index_or task.forbidden w false ≡ false → task.request.at ≤ b → Leads (Takes task) w b ns v t → b + slice_index costs w ≤ t + slice_index costs v
costs_fall task is until deadline costs bound [] w b v t open' since way = omega (arith, way.1, ap (slice_index costs) way.0)
costs_fall task is until deadline costs bound (n ∷ ns) w b v t open' since way =
    let later = (takes_timely task is.nodes).later n w b way.0 way.1 way.2 in
    omega (arith, bound.lowers n w b way.0 way.1 way.2 open' since, costs_fall task is until deadline costs bound ns way.0 way.1 v t way.2.permitted (omega (arith, later, since)) way.3)

-- the search stops when no event comes before the delivery
module _ (task : SearchTask) (is : IsTask task) (until : ℕ) (bounds costs : List ℕ) (bound : IsBound task until bounds costs) (settled : List Bool) (arrival hops : List ℕ) (queue : List Visit) (best : Best) (was : AreSettled task until bounds costs settled arrival hops queue best) where
  -- a node is settled with that arrival, or it is too late there
  abbrev IsKnownAt : ℕ → ℕ → Type 0
  IsKnownAt v a = ((slice_index_or settled v false ≡ true) × (slice_index arrival v ≡ a)) ⊎ ((slice_index_or task.forbidden v false ≡ false) × (slice_index_or bounds v never ≤ a))

  by_until : best.delivery ≤ until
  by_until = elim was.found [
    | inl none ↦ omega (arith, none)
    | inr found ↦ omega (arith, found.2)
  ]

  goal_known : (a : ℕ) → IsKnownAt task.goal a → best.delivery ≤ a
  goal_known a known = elim known [
    | inl s ↦ absurd (both_ways (slice_index_or settled task.goal false) was.goal_unsettled s.0)
    | inr late ↦ omega (arith, late.1, bound.goal, by_until)
  ]

  steps_taken : (v a n w b : ℕ) → IsKnownAt v a → Takes task n v a w b → (best.delivery ≤ b + slice_index costs w) ⊎ (((c : ℕ) × (c ≤ b) × IsKnownAt w c) ⊎ ((c : ℕ) × (c ≤ b) × IsWaiting queue w (c + slice_index costs w)))
  steps_taken v a n w b known step = elim known [
    | inr late ↦ elim (cases_eq v task.goal) [
      | inl same ↦
          (let there : IsKnownAt v a = inr late in
          let at_goal : IsKnownAt task.goal a = rw same at there in
          inl (omega (arith, goal_known a at_goal, (takes_timely task is.nodes).later n v a w b step)))
      | inr other ↦ inr (inl (b, omega arith, inr (step.permitted, bound.steps n v a w b step late.0 other late.1)))
    ]
    | inl s ↦ elim (was.taken v n w b s.0 (rw s.1 step)) [
      | inl over ↦ inl (omega (arith, over))
      | inr reached ↦ elim (cases_Bool (slice_index_or settled w false)) [
        | inl on ↦ inr (inl (slice_index arrival w, reached.1, inl (on, refl)))
        | inr off ↦ elim (cases_lt (slice_index arrival w) (slice_index_or bounds w never)) [
          | inr le ↦ inr (inl (b, omega arith, inr (step.permitted, omega (arith, le, reached.1))))
          | inl less ↦
              (let within : w < length arrival = omega (arith, was.flags, is.as_many, slice_get_within task.table w step.contact.to step.receiver) in
              inr (inr (slice_index arrival w, reached.1, was.queue_is.waits w within step.permitted off less)))
        ]
      ]
    ]
  ]

  -- each way comes to a node no sooner than the arrival that is known there, or delivers no sooner than the delivery
  reached_by : ((f : Visit) → Contains queue f → best.delivery ≤ f.at) → (ns : List ℕ) (u a s v t : ℕ) → IsKnownAt u a → a ≤ s → task.request.at ≤ s → Leads (Takes task) u s ns v t →
      (best.delivery ≤ t + slice_index costs v) ⊎ ((c : ℕ) × (c ≤ t) × IsKnownAt v c)
  reached_by stop [] u a s v t known by since way = inr (a, omega (arith, way.1), rw way.0 at known)
  reached_by stop (n ∷ ns) u a s v t known by since way =
      let later : task.request.at ≤ way.1 = omega (arith, since, (takes_timely task is.nodes).later n u s way.0 way.1 way.2) in
      let first = (takes_timely task is.nodes).earlier n u s way.0 way.1 a way.2 by in
      let after : way.1 + slice_index costs way.0 ≤ t + slice_index costs v = costs_fall task is until bounds costs bound ns way.0 way.1 v t way.2.permitted later way.3 in
      elim (steps_taken u a n way.0 first.0 known first.2) [
        | inl late ↦ inl (omega (arith, late, first.1, after))
        | inr found ↦ elim found [
          | inl on ↦ reached_by stop ns way.0 on.0 way.1 v t on.2 (omega (arith, on.1, first.1)) later way.3
          | inr waits ↦ inl (omega (arith, stop waits.2.0 waits.2.1, waits.2.3, waits.1, first.1, after))
        ]
      ]

  first_least : ((f : Visit) → Contains queue f → best.delivery ≤ f.at) → IsNoneBefore task best.delivery
  first_least stop ns e way =
      elim (reached_by stop ns task.start task.at task.at task.goal e (inl (was.start_settled, was.start_reached)) (omega arith) bound.since way) [
        | inl late ↦ omega (arith, late, bound.there)
        | inr by ↦ omega (arith, by.1, goal_known by.0 by.2)
      ]

  known_arrival : (v c : ℕ) → IsKnownAt v c → slice_index arrival v ≤ c
  known_arrival v c known = elim known [
    | inl s ↦ omega (arith, s.1)
    | inr late ↦ omega (arith, was.lowered v late.0, late.1)
  ]

  arrivals_found : ((f : Visit) → Contains queue f → best.delivery ≤ f.at) → AreArrivalsBy task costs arrival best.delivery
  arrivals_found stop ns v t some way = elim (reached_by stop ns task.start task.at task.at v t (inl (was.start_settled, was.start_reached)) (omega arith) bound.since way) [
    | inl late ↦ omega (arith, late)
    | inr by ↦ omega (arith, by.1, known_arrival v by.0 by.2)
  ]

  first_way : ((f : Visit) → Contains queue f → best.delivery ≤ f.at) → best.delivery < until → IsFirstWay task until best
  first_way stop early = elim was.found [
    | inl none ↦ absurd (omega (arith, none, early))
    | inr found ↦ record {
      least = first_least stop;
      positive = found.0;
      sooner = early;
      some = found.3;
      early = way_early task is found.3.0 task.start task.at task.goal best.delivery is.time found.3.2;
      few = omega (arith, found.1, count_short settled task.goal (omega (arith, was.many, is.as_many, is.goal_in)) was.goal_unsettled, was.many, is.as_many);
    }
  ]

  pub reached_found : ((f : Visit) → Contains queue f → best.delivery ≤ f.at) → (result : Option Best) → IsFoundBest until best result → IsReached task until costs arrival result
  reached_found stop (Some way) same = rw same.0 (first_way stop same.1, arrivals_found stop)
  reached_found stop None late = elim was.found [
    | inl none ↦ (let least = first_least stop in let arrivals = arrivals_found stop in (rw none at least, rw none at arrivals))
    | inr found ↦ absurd (omega (arith, found.2, late))
  ]

-- an event of a settled node goes
pub settled_stale : (task : SearchTask) (until : ℕ) (deadline costs : List ℕ) (settled : List Bool) (arrival hops : List ℕ) (queue queue' : List Visit) (best : Best) → AreSettled task until deadline costs settled arrival hops queue best → IsQueue task deadline costs settled arrival queue' →
    AreSettled task until deadline costs settled arrival hops queue' best
settled_stale task until deadline costs settled arrival hops queue queue' best was rest = record {
  flags = was.flags;
  many = was.many;
  start_settled = was.start_settled;
  start_reached = was.start_reached;
  goal_unsettled = was.goal_unsettled;
  closed = was.closed;
  lowered = was.lowered;
  queue_is = rest;
  hops_are = was.hops_are;
  found = was.found;
  sooner = was.sooner;
  goal_late = was.goal_late;
  taken = was.taken;
}

none_on : (n : ℕ) → settled_count (replicate n false) ≡ 0
none_on zero = refl
none_on (suc n) = none_on n

-- what holds once the start is settled, and while the first steps are taken
module _ (task : SearchTask) (is : IsTask task) (off settled : List Bool) (u : ℕ) (off_is : off ≡ replicate (length task.forbidden) false) (u_is : u ≡ task.start) (settled_is : settled ≡ slice_set off u true) where
  off_within : u < length off
  off_within = omega (arith, u_is, is.start_in, is.as_many, ap length off_is, length-replicate (length task.forbidden) false)

  off_at : (k : ℕ) → slice_index_or off k false ≡ false
  off_at k = ap (λ flags. slice_index_or flags k false) off_is ∙ all_same (length task.forbidden) false k

  -- the start alone is settled
  pub start_on : slice_index_or settled task.start false ≡ true
  start_on = rw settled_is (ap (λ k. slice_index_or (slice_set off u true) k false) (sym u_is) ∙ get_or-set_same off u true false off_within)

  only_start : (k : ℕ) → slice_index_or settled k false ≡ true → k ≡ task.start
  only_start k on = elim (cases_eq k u) [
    | inl same ↦ same ∙ u_is
    | inr other ↦
        (let there : slice_index_or (slice_set off u true) k false ≡ true = rw settled_is at on in
        absurd (both_ways (slice_index_or off k false) (off_at k) (sym (get_or-set_other off u k true false other) ∙ there)))
  ]

  pub one_settled : settled_count settled ≡ 1
  one_settled = omega (arith, ap settled_count settled_is, count_more off u off_within (off_at u), ap settled_count off_is, none_on (length task.forbidden))

  count_none : (ks : List ℕ) → count_by (λ k. slice_index_or off k false) ks ≡ 0
  count_none [] = refl
  count_none (k ∷ ks) = rw (off_at k) (count_none ks)

  pub start_sent : sent_by_settled task settled ≡ degree task task.start
  start_sent = omega (arith, ap (sent_by_settled task) settled_is, sent_grows task off u off_within (off_at u), count_none (senders task), ap (degree task) u_is)

  module _ (until : ℕ) (deadline costs : List ℕ) (arrival : List ℕ) (opened : AreOpened task deadline arrival) where
    opened_by : AreBy task deadline arrival
    opened_by k open' = elim (cases_lt k (length arrival)) [
      | inl within ↦ omega (arith, opened.unreached k within open')
      | inr past ↦ omega (arith, get_or_past arrival k 0 past)
    ]

    pub start_state : IsBound task until deadline costs → (hops : List ℕ) (queue : List Visit) (best : Best) → length hops ≡ length task.forbidden → queue ≡ [] → best.delivery ≡ until → until ≤ latest_arrival + 1 → AreSettling task until deadline costs settled u task.at arrival (slice_set hops u 0) queue best
    start_state bound hops queue best hops_many empty delivery early = rw empty (record {
      on = ap (λ k. slice_index_or settled k false) u_is ∙ start_on;
      real = ([], sym no_hops, (sym u_is, refl));
      few = omega (arith, no_hops, one_settled);
      flags = opened.flags;
      many = ap length settled_is ∙ length-set off u true ∙ ap length off_is ∙ length-replicate (length task.forbidden) false;
      closed = opened.closed;
      early = λ n w b step k on open'. absurd (both_ways (slice_index_or task.forbidden k false) open' (ap (λ j. slice_index_or task.forbidden j false) (only_start k on) ∙ is.start_forbidden));
      lowered = opened_by;
      queue_is = record {
        waits = λ k within open' off' less. absurd (omega (arith, opened.unreached k within open', less));
        reached = λ i d lt. absurd (omega (arith, lt));
        before = λ i d lt. absurd (omega (arith, lt));
        order = λ i d lt. absurd (omega (arith, lt));
        inside = λ i d lt. absurd (omega (arith, lt));
        permitted = λ i d lt. absurd (omega (arith, lt));
        other = λ i d lt. absurd (omega (arith, lt));
      };
      hops_are = record { many = length-set hops u 0 ∙ hops_many; ways = λ k within open' less. absurd (omega (arith, opened.unreached k within open', less)) };
      found = inl delivery;
      sooner = omega (arith, delivery, early);
      goal_late = omega (arith, delivery, bound.goal, opened.unreached task.goal (omega (arith, opened.flags, is.as_many, is.goal_in)) is.goal_open);
    })
      where
        no_hops : slice_index (slice_set hops u 0) u ≡ 0
        no_hops = get_or-set_same hops u 0 0 (omega (arith, hops_many, u_is, is.start_in, is.as_many))

    -- and once all of them are taken
    pub start_settled : (t : ℕ) (arrival' hops : List ℕ) (queue : List Visit) (best0 best : Best) → AreSettling task until deadline costs settled u t arrival' hops queue best → IsFallen settled arrival best0 arrival' best →
        ((n w x : ℕ) → Takes task n task.start task.at w x → IsKnown task.goal arrival' (best.delivery - slice_index costs w) w x) → AreSettled task until deadline costs settled arrival' hops queue best
    start_settled t arrival' hops queue best0 best state fallen known =
        let start_at : slice_index arrival' task.start ≡ task.at = fallen.kept task.start start_on ∙ opened.start in
        record {
          flags = state.flags;
          many = state.many;
          start_settled = start_on;
          start_reached = start_at;
          closed = λ k on. omega (arith, fallen.lowered k, opened.closed k on);
          goal_unsettled = false_from_ne_true (slice_index_or settled task.goal false) (λ on. goal_other task is (only_start task.goal on));
          lowered = state.lowered;
          queue_is = state.queue_is;
          hops_are = state.hops_are;
          found = state.found;
          sooner = state.sooner;
          goal_late = state.goal_late;
          taken = λ v n w b on step.
              (let here : v ≡ task.start = only_start v on in
              let at : Takes task n task.start (slice_index arrival' task.start) w b = rw here at step in
              let there : Takes task n task.start task.at w b = rw start_at at at in
              known n w b there);
        }

-- what holds after the node of the earliest event is settled
module _ (task : SearchTask) (is : IsTask task) (until : ℕ) (deadline costs : List ℕ) (settled : List Bool) (arrival0 hops0 : List ℕ) (queue0 queue : List Visit) (best0 : Best) (e : Visit) (was : AreSettled task until deadline costs settled arrival0 hops0 queue0 best0)
    (moved : IsPermutation queue0 (e ∷ queue)) (first : All (λ (f : Visit). e.at ≤ f.at) queue) (unsettled : slice_index_or settled e.node false ≡ false) where
  pub next_within : e.node < length settled
  next_within = omega (arith, was.many, was.flags, head_inside task deadline costs settled arrival0 queue0 queue e was.queue_is moved first)

  pub next_sent : sent_by_settled task settled + degree task e.node ≡ sent_by_settled task (slice_set settled e.node true)
  next_sent = sym (sent_grows task settled e.node next_within unsettled)

  pub next_most : sent_by_settled task settled + degree task e.node ≤ length task.plan.contacts
  next_most = omega (arith, next_sent, sent_most task (slice_set settled e.node true))

  next_way : IsWayTo task e.node (slice_index hops0 e.node) (slice_index arrival0 e.node)
  next_way =
      (was.hops_are.ways e.node (head_inside task deadline costs settled arrival0 queue0 queue e was.queue_is moved first) (head_open task deadline costs settled arrival0 queue0 queue e was.queue_is moved first)
      (head_soon task deadline costs settled arrival0 queue0 queue e was.queue_is moved first)).1

  pub next_state : IsBound task until deadline costs → AreSettling task until deadline costs (slice_set settled e.node true) e.node (slice_index arrival0 e.node) arrival0 hops0 queue best0
  next_state bound =
      let since : task.at ≤ slice_index arrival0 e.node = Leads-later (Takes task) (takes_timely task is.nodes) next_way.0 task.start task.at e.node (slice_index arrival0 e.node) next_way.2 in
      settles task deadline costs settled arrival0 queue0 queue e was.queue_is moved first next_within unsettled until hops0 best0 bound was.flags was.many was.closed since was.lowered was.sooner was.goal_late was.found was.hops_are

  pub next_counted : (settled' : List Bool) (old new : ℕ) → settled' ≡ slice_set settled e.node true → old ≤ new + sent_by_settled task settled + degree task e.node → old ≤ new + sent_by_settled task settled'
  next_counted settled' old new settled_is le = omega (arith, ap (sent_by_settled task) settled_is, next_sent)

  pub next_settled : (settled' : List Bool) (arrival hops : List ℕ) (queue' : List Visit) (best : Best) → settled' ≡ slice_set settled e.node true →
      AreSettling task until deadline costs (slice_set settled e.node true) e.node (slice_index arrival0 e.node) arrival hops queue' best → IsFallen (slice_set settled e.node true) arrival0 best0 arrival best → AreSettledTaken task costs (slice_set settled e.node true) arrival best.delivery →
      AreSettled task until deadline costs settled' arrival hops queue' best
  next_settled settled' arrival hops queue' best settled_is state fallen taken =
      let other : task.goal ≢ e.node = λ same. head_other task deadline costs settled arrival0 queue0 queue e was.queue_is moved first (sym same) in
      rw settled_is (settled_next task until deadline costs settled e.node (slice_index arrival0 e.node) arrival0 best0 arrival hops queue' best state fallen taken other
      (flag_stays settled e.node task.start next_within was.start_settled) was.start_reached was.goal_unsettled was.closed)

-- what a `Vec` of flags has at an index, at the usual default
pub read_flag : (xs : List Bool) (i : ℕ) (x : Bool) → i < length xs → x ≡ slice_index_or xs i x → x ≡ slice_index_or xs i false
read_flag xs i x h e = at_read xs (λ y. x ≡ y) i x h e refl false
