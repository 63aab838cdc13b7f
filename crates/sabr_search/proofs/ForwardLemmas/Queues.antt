-- The events that wait while nodes are settled: one more, and the earliest taken out.
use Rattle.std.proofs.Common.{◌≡◌, ◌≢◌, inl, inr, ℕ, zero, suc, ◌+◌, ◌-◌, ◌<◌, ◌≤◌, List, [], ◌∷◌, ◌++◌, length, replicate, Bool, true, false, cond, slice_index, slice_index_or, slice_set, All, Contains, refl, ap, sym, ◌∙◌, arith, length-append}
use Rattle.std.proofs.lemmas.List.{get_or-set_other, get_or-set_same, length-set}
use Rattle.std.specs.List.Sorted.{IsPermutation}
use Rattle.std.proofs.lemmas.Bool.{cases_eq, both_ways, false_from_ne_true}
use Rattle.std.proofs.lemmas.Grind.{common_steps}
use Rattle.std.proofs.lemmas.List.Elements.{All-cons, All-head, All-tail, All-weaker, Contains-append_right, Contains-append_cases}
use Rattle.std.proofs.lemmas.List.Sorted.{All-permutation, Contains-permutation}
use Rattle.std.proofs.lemmas.List.Sums.{sum_by-set, count_by-le-length}
use Rattle.sabr_search.specs.declared.visit.Visit.{Visit}
use Rattle.sabr_search.specs.declared.found.Best.{Best}
use Rattle.sabr_search.specs.questions.Task.{SearchTask, Takes, IsTask, never, latest_arrival}
use Rattle.sabr_search.specs.layers.Lists.{AreClosed, IsKnown, IsWayTo, IsFound}
use Rattle.sabr_search.specs.layers.Settling.{IsBound, IsWaiting, AreSettledBy, AreBy, settled_count, IsQueue, AreHops, AreSettling, IsFallen, AreSettledTaken}
use Rattle.sabr_search.proofs.WayLemmas.Ways.{Leads-append}
use Rattle.sabr_search.proofs.WayLemmas.RoutesAndWays.{takes_timely}
use Rattle.sabr_search.proofs.ForwardLemmas.Forward.{known_lower}

-- a list of numbers after one is set
pub set_falls : (xs : List ℕ) (k b : ℕ) → k < length xs → b < slice_index xs k → (j : ℕ) → slice_index (slice_set xs k b) j ≤ slice_index xs j
set_falls xs k b within less j = grind (arith, common_steps)

-- flags after one is set
pub off_here : (xs : List Bool) (k : ℕ) → slice_index_or (slice_set xs k false) k false ≡ false
off_here xs k = grind (arith, common_steps)

-- a flag that is on is in the list
pub flag_within : (settled : List Bool) (k : ℕ) → slice_index_or settled k false ≡ true → k < length settled
flag_within [] k on = absurd (both_ways false refl on)
flag_within (x ∷ settled) zero on = omega arith
flag_within (x ∷ settled) (suc k) on = omega (arith, flag_within settled k on)

-- a list of one element has it everywhere
pub all_same : {X : Type 0} (n : ℕ) (x : X) (k : ℕ) → slice_index_or (replicate n x) k x ≡ x
all_same zero x k = refl
all_same (suc n) x zero = refl
all_same (suc n) x (suc k) = all_same n x k

-- one node more is settled
pub count_more : (settled : List Bool) (k : ℕ) → k < length settled → slice_index_or settled k false ≡ false → settled_count (slice_set settled k true) ≡ settled_count settled + 1
count_more settled k within off =
    let set = sum_by-set (λ (b : Bool). cond b 1 0) settled k true false within in
    let before : ◌≡◌ {A = ℕ} (cond (slice_index_or settled k false) 1 0) 0 = rw off refl in
    omega (arith, set, before)

-- some node is not settled
pub count_short : (settled : List Bool) (k : ℕ) → k < length settled → slice_index_or settled k false ≡ false → settled_count settled < length settled
count_short settled k within off =
    omega (arith, count_more settled k within off, count_by-le-length (λ (b : Bool). b) (slice_set settled k true), length-set settled k true)

-- one step more
pub way_more : (task : SearchTask) → IsTask task → (n u h t w x : ℕ) → IsWayTo task u h t → Takes task n u t w x → IsWayTo task w (h + 1) x
way_more task is n u h t w x way step = (
  way.0 ++ n ∷ [],
  omega (arith, length-append way.0 (n ∷ []), way.1),
  Leads-append (Takes task) (takes_timely task is.nodes) way.0 (n ∷ []) task.start task.at u t w x way.2 (w, x, step, (refl, refl)),
)

-- the same way, said in other numbers
way_same : (task : SearchTask) (v h i t x : ℕ) → i ≡ h → x ≡ t → IsWayTo task v h t → IsWayTo task v i x
way_same task v h i t x hops at way = rw (hops, at) way

-- the delivery is better, by one step more
pub found_better : (task : SearchTask) → IsTask task → (until : ℕ) (deadline costs : List ℕ) (settled : List Bool) (u t n w h : ℕ) (arrival hops : List ℕ) (queue : List Visit) (best : Best) (delivery : ℕ) → AreSettling task until deadline costs settled u t arrival hops queue best →
    h ≡ slice_index hops u → delivery < best.delivery → w ≡ task.goal → Takes task n u t w delivery → AreSettling task until deadline costs settled u t arrival hops queue (record { delivery = delivery; hops = h + 1 })
found_better task is until deadline costs settled u t n w h arrival hops queue best delivery so_far h_is less at step = record {
  on = so_far.on;
  real = so_far.real;
  few = so_far.few;
  flags = so_far.flags;
  many = so_far.many;
  closed = so_far.closed;
  early = so_far.early;
  lowered = so_far.lowered;
  queue_is = so_far.queue_is;
  hops_are = so_far.hops_are;
  found = inr (omega arith, omega (arith, h_is, so_far.few), by, rw at at (way_more task is n u h t w delivery (rw h_is so_far.real) step));
  sooner = omega (arith, less, so_far.sooner);
  goal_late = omega (arith, less, so_far.goal_late);
}
  where
    by : delivery < until
    by = elim so_far.found [
      | inl none ↦ omega (arith, none, less)
      | inr found ↦ omega (arith, found.2, less)
    ]

-- what is reached sooner is open
pub open_sooner : (task : SearchTask) (until : ℕ) (deadline costs : List ℕ) (settled : List Bool) (u t w b : ℕ) (arrival hops : List ℕ) (queue : List Visit) (best : Best) → AreSettling task until deadline costs settled u t arrival hops queue best →
    t ≤ b → b < slice_index arrival w → slice_index_or task.forbidden w false ≡ false
open_sooner task until deadline costs settled u t w b arrival hops queue best so_far later less = false_from_ne_true (slice_index_or task.forbidden w false) (λ on. omega (arith, so_far.closed w on))

-- an open node is reached sooner, and an event waits for it
module _ (task : SearchTask) (is : IsTask task) (until : ℕ) (deadline costs : List ℕ) (settled : List Bool) (u t n b h : ℕ) (event : Visit) (arrival hops : List ℕ) (queue queue' : List Visit) (best : Best) (so_far : AreSettling task until deadline costs settled u t arrival hops queue best)
    (later : t ≤ b) (within : event.node < length arrival) (less : b < slice_index arrival event.node) (other : event.node ≢ task.goal) (step : Takes task n u t event.node b) (h_is : h ≡ slice_index hops u)
    (at_is : event.at ≡ b + slice_index costs event.node) (moved : IsPermutation (event ∷ queue) queue') where
  abbrev w : ℕ
  w = event.node

  early : AreSettledBy task costs settled arrival (b + slice_index costs w)
  early = so_far.early n w b step

  unsettled : slice_index_or settled w false ≡ false
  unsettled = false_from_ne_true (slice_index_or settled w false) (λ on. omega (arith, less, early w on step.permitted))

  apart : u ≢ w
  apart same = both_ways (slice_index_or settled w false) unsettled (ap (λ k. slice_index_or settled k false) (sym same) ∙ so_far.on)

  falls : (k : ℕ) → slice_index (slice_set arrival w b) k ≤ slice_index arrival k
  falls = set_falls arrival w b within less

  kept : (k : ℕ) → slice_index_or settled k false ≡ true → slice_index (slice_set arrival w b) k ≡ slice_index arrival k
  kept k on = get_or-set_other arrival w k b 0 (λ same. both_ways (slice_index_or settled w false) unsettled (rw same at on))

  all_more : (P : Visit → Type 0) → P event → All P queue → All P queue'
  all_more P here rest = All-permutation P (event ∷ queue) queue' moved (All-cons P event queue here rest)

  queue_more : IsQueue task deadline costs settled (slice_set arrival w b) queue'
  queue_more =
      let was = so_far.queue_is in
      let arrival' = slice_set arrival w b in
      let many : length arrival' ≡ length arrival = length-set arrival w b in
      let here : slice_index arrival' w ≡ b = get_or-set_same arrival w b 0 within in
      record {
        waits = λ k inside open' off reached. elim (cases_eq k w) [
          | inl same ↦ rw same (event, Contains-permutation (event ∷ queue) queue' event moved (0, omega arith, refl), refl, omega (arith, at_is, here))
          | inr differ ↦
              let same = get_or-set_other arrival w k b 0 differ in
              let waits = was.waits k (omega (arith, many)) open' off (omega (arith, same)) in
              (waits.0, Contains-permutation (event ∷ queue) queue' waits.0 moved (Contains-append_right (event ∷ []) queue waits.0 waits.1), waits.2, omega (arith, waits.3, same))
        ];
        reached = all_more (λ (e : Visit). slice_index arrival' e.node + slice_index costs e.node ≤ e.at) (omega (arith, here, at_is)) (All-weaker (λ (e : Visit). slice_index arrival e.node + slice_index costs e.node ≤ e.at) (λ (e : Visit). slice_index arrival' e.node + slice_index costs e.node ≤ e.at) (λ e le. omega (arith, falls e.node)) queue was.reached);
        before = all_more (λ (e : Visit). e.at < slice_index_or deadline e.node never + slice_index costs e.node) (omega (arith, less, at_is, so_far.lowered w step.permitted)) was.before;
        order = all_more (λ (e : Visit). AreSettledBy task costs settled arrival' e.at) (λ k on open'. omega (arith, kept k on, at_is, early k on open')) (All-weaker (λ (e : Visit). AreSettledBy task costs settled arrival e.at) (λ (e : Visit). AreSettledBy task costs settled arrival' e.at) (λ e by k on open'. omega (arith, kept k on, by k on open')) queue was.order);
        inside = all_more (λ (e : Visit). e.node < length arrival') (omega (arith, many)) (All-weaker (λ (e : Visit). e.node < length arrival) (λ (e : Visit). e.node < length arrival') (λ e lt. omega (arith, many)) queue was.inside);
        permitted = all_more (λ (e : Visit). slice_index_or task.forbidden e.node false ≡ false) step.permitted was.permitted;
        other = all_more (λ (e : Visit). e.node ≢ task.goal) other was.other;
      }

  hops_more : AreHops task deadline settled (slice_set arrival w b) (slice_set hops w (h + 1))
  hops_more =
      let was = so_far.hops_are in
      let arrives : slice_index (slice_set arrival w b) w ≡ b = get_or-set_same arrival w b 0 within in
      let counts : slice_index (slice_set hops w (h + 1)) w ≡ h + 1 = get_or-set_same hops w (h + 1) 0 (omega (arith, was.many, so_far.flags, within)) in
      let here : IsWayTo task w (slice_index (slice_set hops w (h + 1)) w) (slice_index (slice_set arrival w b) w) = way_same task w (h + 1) _ b _ counts arrives (way_more task is n u h t w b (rw h_is so_far.real) step) in
      record {
        many = length-set hops w (h + 1) ∙ was.many;
        ways = λ k inside open' reached. elim (cases_eq k w) [
          | inl same ↦ rw same (omega (arith, counts, h_is, so_far.few), here)
          | inr differ ↦
              (let at = get_or-set_other arrival w k b 0 differ in
              let by = get_or-set_other hops w k (h + 1) 0 differ in
              let way = was.ways k (omega (arith, inside, length-set arrival w b)) open' (omega (arith, at, reached)) in
              (omega (arith, by, way.0), way_same task k (slice_index hops k) _ (slice_index arrival k) _ by at way.1))
        ];
      }

  pub pushed : AreSettling task until deadline costs settled u t (slice_set arrival w b) (slice_set hops w (h + 1)) queue' best
  pushed = record {
    on = so_far.on;
    real = way_same task u _ _ t t (get_or-set_other hops w u (h + 1) 0 apart) refl so_far.real;
    few = omega (arith, get_or-set_other hops w u (h + 1) 0 apart, so_far.few);
    flags = length-set arrival w b ∙ so_far.flags;
    many = so_far.many;
    closed = λ k e. omega (arith, falls k, so_far.closed k e);
    early = λ m v x s k on open'. omega (arith, kept k on, so_far.early m v x s k on open');
    lowered = λ k open'. omega (arith, falls k, so_far.lowered k open');
    queue_is = queue_more;
    hops_are = hops_more;
    found = so_far.found;
    sooner = so_far.sooner;
    goal_late = omega (arith, get_or-set_other arrival w task.goal b 0 (λ same. other (sym same)), so_far.goal_late);
  }

  pub pushed_falls : IsFallen settled arrival best (slice_set arrival w b) best
  pushed_falls = record { lower = omega arith; lowered = falls; kept = kept }

-- more contacts are taken after some
pub fallen_more : (settled : List Bool) (arrival0 : List ℕ) (best0 : Best) (arrival1 : List ℕ) (best1 : Best) (arrival2 : List ℕ) (best2 : Best) →
    IsFallen settled arrival0 best0 arrival1 best1 → IsFallen settled arrival1 best1 arrival2 best2 → IsFallen settled arrival0 best0 arrival2 best2
fallen_more settled arrival0 best0 arrival1 best1 arrival2 best2 one two = record {
  lower = omega (arith, one.lower, two.lower);
  lowered = λ k. omega (arith, one.lowered k, two.lowered k);
  kept = λ k on. two.kept k on ∙ one.kept k on;
}

-- a node more is settled, and its contacts are taken
pub taken_settled : (task : SearchTask) (costs : List ℕ) (settled : List Bool) (u t : ℕ) (arrival0 : List ℕ) (best0 : Best) (arrival : List ℕ) (best : Best) → slice_index arrival0 u ≡ t →
    AreSettledTaken task costs settled arrival0 best0.delivery → IsFallen (slice_set settled u true) arrival0 best0 arrival best → ((n w x : ℕ) → Takes task n u t w x → IsKnown task.goal arrival (best.delivery - slice_index costs w) w x) →
    AreSettledTaken task costs (slice_set settled u true) arrival best.delivery
taken_settled task costs settled u t arrival0 best0 arrival best reached taken fallen known v n w b on s =
    let same : slice_index arrival v ≡ slice_index arrival0 v = fallen.kept v on in
    elim (cases_eq v u) [
      | inl here ↦
          (let time : slice_index arrival v ≡ t = same ∙ ap (slice_index arrival0) here ∙ reached in
          let step : Takes task n v t w b = rw time at s in
          known n w b (rw here at step))
      | inr other ↦
          (let step : Takes task n v (slice_index arrival0 v) w b = rw same at s in
          known_lower task.goal arrival0 arrival (best0.delivery - slice_index costs w) (best.delivery - slice_index costs w) w b fallen.lowered (omega (arith, fallen.lower)) (taken v n w b (sym (get_or-set_other settled u v true false other) ∙ on) step))
    ]

-- the one element of a list of one
pub only_one : (e x : Visit) → Contains (e ∷ []) x → x.node ≡ e.node
only_one e x (zero, lt, same) = ap (λ (f : Visit). f.node) (sym same)
only_one e x (suc i, lt, same) = absurd (omega arith)

-- the earliest event is taken out
module _ (task : SearchTask) (bounds costs : List ℕ) (settled : List Bool) (arrival : List ℕ) (queue queue' : List Visit) (e : Visit)
    (was : IsQueue task bounds costs settled arrival queue) (moved : IsPermutation queue (e ∷ queue')) (first : All (λ (f : Visit). e.at ≤ f.at) queue') where
  head : (P : Visit → Type 0) → All P queue → P e
  head P all = All-head P e queue' (All-permutation P queue (e ∷ queue') moved all)

  tail : (P : Visit → Type 0) → All P queue → All P queue'
  tail P all = All-tail P e queue' (All-permutation P queue (e ∷ queue') moved all)

  head_late : slice_index arrival e.node + slice_index costs e.node ≤ e.at
  head_late = head (λ (f : Visit). slice_index arrival f.node + slice_index costs f.node ≤ f.at) was.reached

  head_order : AreSettledBy task costs settled arrival e.at
  head_order = head (λ (f : Visit). AreSettledBy task costs settled arrival f.at) was.order

  pub head_inside : e.node < length arrival
  head_inside = head (λ (f : Visit). f.node < length arrival) was.inside

  pub head_open : slice_index_or task.forbidden e.node false ≡ false
  head_open = head (λ (f : Visit). slice_index_or task.forbidden f.node false ≡ false) was.permitted

  pub head_other : e.node ≢ task.goal
  head_other = head (λ (f : Visit). f.node ≢ task.goal) was.other

  -- it isn't too late there
  pub head_soon : slice_index arrival e.node < slice_index_or bounds e.node never
  head_soon = omega (arith, head_late, head (λ (f : Visit). f.at < slice_index_or bounds f.node never + slice_index costs f.node) was.before)

  -- what waits is no earlier
  pub waits_later : (f : Visit) → Contains queue f → e.at ≤ f.at
  waits_later f there = elim (Contains-append_cases (e ∷ []) queue' f (Contains-permutation queue (e ∷ queue') f moved there)) [
    | inl alone ↦ omega (arith, ap (λ (x : Visit). x.at) (only alone))
    | inr rest ↦ (let here : slice_index_or queue' rest.0 f ≡ f = rest.2 in omega (arith, first rest.0 f rest.1, ap (λ (x : Visit). x.at) here))
  ]
    where
      only : Contains (e ∷ []) f → e ≡ f
      only (zero, lt, same) = same
      only (suc i, lt, same) = absurd (omega arith)

  -- the event of a node that is not settled comes with its arrival
  head_arrives : slice_index_or settled e.node false ≡ false → slice_index arrival e.node + slice_index costs e.node ≡ e.at
  head_arrives off =
      let waits = was.waits e.node head_inside head_open off head_soon in
      omega (arith, head_late, waits_later waits.0 waits.1, waits.3)

  -- the event for another node still waits
  rest_waits : (k t : ℕ) → k ≢ e.node → IsWaiting queue k t → IsWaiting queue' k t
  rest_waits k t other waits = elim (Contains-append_cases (e ∷ []) queue' waits.0 (Contains-permutation queue (e ∷ queue') waits.0 moved waits.1)) [
    | inl alone ↦ absurd (other (sym waits.2 ∙ only_one e waits.0 alone))
    | inr rest ↦ (waits.0, rest, waits.2, waits.3)
  ]

  -- what still waits, if only its node may be settled besides
  queue_rest : (settled' : List Bool) → ((k : ℕ) → slice_index_or settled' k false ≡ false → (k ≢ e.node) × (slice_index_or settled k false ≡ false)) → All (λ (f : Visit). AreSettledBy task costs settled' arrival f.at) queue' → IsQueue task bounds costs settled' arrival queue'
  queue_rest settled' apart order = record {
    waits = λ k inside open' off reached. rest_waits k _ (apart k off).0 (was.waits k inside open' (apart k off).1 reached);
    reached = tail (λ (f : Visit). slice_index arrival f.node + slice_index costs f.node ≤ f.at) was.reached;
    before = tail (λ (f : Visit). f.at < slice_index_or bounds f.node never + slice_index costs f.node) was.before;
    order = order;
    inside = tail (λ (f : Visit). f.node < length arrival) was.inside;
    permitted = tail (λ (f : Visit). slice_index_or task.forbidden f.node false ≡ false) was.permitted;
    other = tail (λ (f : Visit). f.node ≢ task.goal) was.other;
  }

  -- its node is settled
  module _ (within : e.node < length settled) (unsettled : slice_index_or settled e.node false ≡ false) where
    early_after : (t : ℕ) → e.at ≤ t → AreSettledBy task costs settled arrival t → AreSettledBy task costs (slice_set settled e.node true) arrival t
    early_after t le by k on open' =
        elim (cases_eq k e.node) [
          | inl same ↦ omega (arith, ap (λ (j : ℕ). slice_index arrival j) same, ap (λ (j : ℕ). slice_index costs j) same, head_late)
          | inr other ↦ by k (sym (get_or-set_other settled e.node k true false other) ∙ on) open'
        ]

    unsettled_before : (k : ℕ) → slice_index_or (slice_set settled e.node true) k false ≡ false → (k ≢ e.node) × (slice_index_or settled k false ≡ false)
    unsettled_before k off =
        let other : k ≢ e.node = λ same. (let on : slice_index_or (slice_set settled e.node true) k false ≡ true = rw same (get_or-set_same settled e.node true false within) in cc) in
        (other, sym (get_or-set_other settled e.node k true false other) ∙ off)

    queue_settled : IsQueue task bounds costs (slice_set settled e.node true) arrival queue'
    queue_settled = queue_rest (slice_set settled e.node true) unsettled_before (λ i d lt. early_after _ (first i d lt) (tail (λ (f : Visit). AreSettledBy task costs settled arrival f.at) was.order i d lt))

    -- so its contacts can be taken
    pub settles : (until : ℕ) (hops : List ℕ) (best : Best) → IsBound task until bounds costs → length arrival ≡ length task.forbidden → length settled ≡ length task.forbidden → AreClosed task.forbidden arrival task.at → task.at ≤ slice_index arrival e.node → AreBy task bounds arrival → best.delivery ≤ latest_arrival + 1 →
        best.delivery ≤ slice_index arrival task.goal → IsFound task until (settled_count settled) best → AreHops task bounds settled arrival hops → AreSettling task until bounds costs (slice_set settled e.node true) e.node (slice_index arrival e.node) arrival hops queue' best
    settles until hops best bound flags many closed since lowered sooner goal_late found hops_are = record {
      on = get_or-set_same settled e.node true false within;
      real = (hops_are.ways e.node head_inside head_open head_soon).1;
      few = omega (arith, (hops_are.ways e.node head_inside head_open head_soon).0, count_more settled e.node within unsettled);
      flags = flags;
      many = length-set settled e.node true ∙ many;
      closed = λ k on. omega (arith, closed k on, since);
      early = λ n w b step.
          let later : e.at ≤ b + slice_index costs w = omega (arith, head_arrives unsettled, bound.lowers n e.node (slice_index arrival e.node) w b step head_open (omega (arith, bound.since, since))) in
          early_after (b + slice_index costs w) later (λ k on open'. omega (arith, later, head_order k on open'));
      lowered = lowered;
      queue_is = queue_settled;
      hops_are = record {
        many = hops_are.many;
        ways = λ k inside open' reached. (let way = hops_are.ways k inside open' reached in (omega (arith, way.0, count_more settled e.node within unsettled), way.1));
      };
      sooner = sooner;
      goal_late = goal_late;
      found = elim found [ inl none ↦ inl none | inr way ↦ inr (way.0, omega (arith, way.1, count_more settled e.node within unsettled), way.2, way.3) ];
    }

  -- an event of a node that is settled already goes
  pub queue_stale : slice_index_or settled e.node false ≡ true → IsQueue task bounds costs settled arrival queue'
  queue_stale on = queue_rest settled (λ k off. ((λ same. both_ways (slice_index_or settled k false) off (ap (λ (j : ℕ). slice_index_or settled j false) same ∙ on)), off)) (tail (λ (f : Visit). AreSettledBy task costs settled arrival f.at) was.order)
