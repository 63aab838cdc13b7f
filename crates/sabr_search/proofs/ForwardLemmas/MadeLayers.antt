-- One layer more: what the next layer leaves is again layers.
use Rattle.std.proofs.Common.{◌≡◌, ◌≢◌, ◌⊎◌, inl, inr, ℕ, zero, suc, ◌+◌, ◌*◌, ◌<◌, ◌≤◌, List, [], ◌∷◌, ◌++◌, length, Bool, false, Option, Some, None, slice_get, slice_index, slice_index_or, refl, ap, sym, ◌∙◌, arith, length-append, add-one}
use Rattle.std.proofs.Math.Nat.{mul-le-mul_right}
use Rattle.std.proofs.lemmas.Bool.{cases_lt, cases_eq}
use Rattle.std.proofs.lemmas.List.{get_or_append_left, get_or_past}
use Rattle.std.proofs.lemmas.Option.{slice_get-get_or, slice_get_within, get_or_from_slice_get}
use Rattle.sabr_search.specs.declared.visit.Visit.{Visit}
use Rattle.sabr_search.specs.declared.found.Best.{Best}
use Rattle.sabr_search.specs.layers.Deadlines.{Entries}
use Rattle.sabr_search.specs.questions.FirstSteps.{Leads}
use Rattle.sabr_search.specs.questions.Task.{SearchTask, Takes, IsTask, never}
use Rattle.sabr_search.specs.layers.Lists.{AreLists, IsLowered, IsKnownFrom, GivenFrom, AreSources, IsBroughtTo, IsWayTo, IsFound, IsMade, IsFoundBest}
use Rattle.sabr_search.specs.layers.Late.{IsNoneSooner}
use Rattle.sabr_search.proofs.WayLemmas.Ways.{Leads-append, Leads-later}
use Rattle.sabr_search.proofs.ForwardLemmas.LayerEntries.{ReachedBy, IsTaken, none_sooner, AreBounds, AreApart, bound_before, bounds_next, still, stands_still, stood, apart_next}
use Rattle.sabr_search.proofs.ForwardLemmas.Forward.{last_or_before}
use Rattle.sabr_search.proofs.WayLemmas.RoutesAndWays.{same_some, takes_timely}
use Rattle.sabr_search.proofs.LinkLemmas.PlanFacts.{takes_early}
use Rattle.sabr_search.proofs.AnswerLemmas.Law.{way_early}

-- layer h is made of the entries from its bound to before the next
abbrev pub Entry : List ℕ → List Visit → Entries
Entry bounds reached h v a = (p : ℕ) × (slice_index bounds h ≤ p) × (p < slice_index bounds (h + 1)) × (slice_get reached p ≡ Some (record { node = v; at = a }))

-- layers up to `hop` are made, of what comes before second `until`
pub record AreLayers (task : SearchTask) (until hop : ℕ) (bounds arrival place : List ℕ) (reached : List Visit) (best : Best) : Type 0 where
  pub lists : AreLists task.forbidden task.goal task.at (slice_index bounds (hop + 1)) arrival place reached
  pub bounds_are : AreBounds hop bounds reached
  pub begins : slice_get reached 0 ≡ Some (record { node = task.start; at = task.at })
  pub apart : (h : ℕ) → h ≤ hop → AreApart (λ (e : Visit). e.node) bounds reached h
  pub real : (h v a : ℕ) → Entry bounds reached h v a → IsWayTo task v h a
  pub taken : IsTaken (Takes task) (Entry bounds reached) hop best.delivery
  pub found : IsFound task until hop best

-- and the last of them begins at `first`
abbrev pub AreMade : SearchTask → ℕ → ℕ → ℕ → List ℕ → List ℕ → List Visit → Best → Type 0
AreMade task until hop first arrival place reached best = (bounds : List ℕ) × (slice_index bounds hop ≡ first) × AreLayers task until hop bounds arrival place reached best

-- a way of some hops ends at an open node
way_open : (task : SearchTask) (ns : List ℕ) (u t v e : ℕ) → 0 < length ns → Leads (Takes task) u t ns v e → slice_index_or task.forbidden v false ≡ false
way_open task [] u t v e more way = absurd (omega (arith, more))
way_open task (n ∷ []) u t v e more way = rw way.3.0 at way.2.permitted
way_open task (n ∷ m ∷ ns) u t v e more way = way_open task (m ∷ ns) way.0 way.1 v e (omega arith) way.3

-- each place below a bound lies in a layer before it
pub layer_of : (bounds : List ℕ) (p m : ℕ) → slice_index bounds 0 ≡ 0 → p < slice_index bounds m → (j : ℕ) × (j + 1 ≤ m) × (slice_index bounds j ≤ p) × (p < slice_index bounds (j + 1))
layer_of bounds p zero first less = absurd (omega (arith, first))
layer_of bounds p (suc m) first less = elim (cases_lt p (slice_index bounds m)) [
  | inl before ↦ (let r = layer_of bounds p m first before in (r.0, omega (arith, r.1), r.2, r.3))
  | inr behind ↦ (m, omega arith, behind, rw (add-one) less)
]

-- an open node that is reached has an entry with its arrival
entry_of : {forbidden : List Bool} {goal t begin hop : ℕ} {bounds arrival place : List ℕ} {reached : List Visit} → AreLists forbidden goal t begin arrival place reached → AreBounds hop bounds reached →
    (w : ℕ) → w < length arrival → slice_index_or forbidden w false ≡ false → slice_index arrival w < never → (h : ℕ) × (h ≤ hop) × Entry bounds reached h w (slice_index arrival w)
entry_of {forbidden} {goal} {t} {begin} {hop} {bounds} {arrival} {place} {reached} lists are w within permitted early =
    let linked = lists.linked in
    let p : ℕ = slice_index place w in
    let d : Visit = record { node = 0; at = 0 } in
    let inside : p < length reached = lists.placed.within w (omega (arith, within, linked.as_many)) in
    let e : Visit = slice_index_or reached p d in
    let there : slice_get reached p ≡ Some (record { node = w; at = slice_index arrival w }) = slice_get-get_or reached p d inside ∙ ap (λ k. Some (record { node = k; at = e.at })) (linked.node w d within permitted early) ∙ ap (λ k. Some (record { node = w; at = k })) (linked.time w d within permitted early) in
    let layer = layer_of bounds p (hop + 1) are.first (omega (arith, are.last, inside)) in
    (layer.0, omega (arith, layer.1), (p, layer.2, layer.3, there))

-- what is found is not later
pub below_until : (task : SearchTask) (until hop : ℕ) (bounds arrival place : List ℕ) (reached : List Visit) (best : Best) → AreLayers task until hop bounds arrival place reached best → best.delivery ≤ until
below_until task until hop bounds arrival place reached best made = elim made.found [ inl none ↦ omega (arith, none) | inr found ↦ omega (arith, found.2) ]

-- layers with one bound more
module _ (task : SearchTask) (is : IsTask task) (until hop : ℕ) (bounds arrival place : List ℕ) (reached : List Visit) (best : Best) (made : AreLayers task until hop bounds arrival place reached best)
    (bounds' arrival' place' : List ℕ) (reached' : List Visit) (delivery : ℕ)
    (lowered : IsLowered task.forbidden task.goal task.at (slice_index bounds (hop + 1)) (GivenFrom task reached (slice_index bounds hop) (slice_index bounds (hop + 1))) arrival reached best.delivery arrival' place' reached' delivery)
    (known : IsKnownFrom task reached (slice_index bounds hop) (slice_index bounds (hop + 1)) arrival' delivery)
    (bounds_is : bounds' ≡ bounds ++ length reached' ∷ []) where
  next : AreBounds (hop + 1) bounds' reached'
  next = bounds_next hop bounds reached made.bounds_are bounds' reached' lowered.before lowered.lists.layer.begins bounds_is

  entry_kept : (h v a : ℕ) → Entry bounds reached h v a → Entry bounds' reached' h v a
  entry_kept h v a = stands_still hop bounds reached made.bounds_are bounds' reached' lowered.before lowered.lists.layer.begins bounds_is h (record { node = v; at = a })

  entry_was : (h v a : ℕ) → h ≤ hop → Entry bounds' reached' h v a → Entry bounds reached h v a
  entry_was h v a = stood hop bounds reached made.bounds_are bounds' reached' lowered.before lowered.lists.layer.begins bounds_is h (record { node = v; at = a })

  -- a node that is reached by second b, before every arrival is late, has an entry by then
  reached_by : (w b : ℕ) → slice_index_or task.forbidden w false ≡ false → w < length arrival' → slice_index arrival' w ≤ b → b < never → ReachedBy (Entry bounds' reached') (hop + 1) w b
  reached_by w b permitted within le early =
      let r = entry_of lowered.lists next w within permitted (omega (arith, le, early)) in
      (r.0, slice_index arrival' w, r.1, le, r.2)

  -- every step of the layers so far is taken
  taken' : IsTaken (Takes task) (Entry bounds' reached') (hop + 1) delivery
  taken' j v a n w b less e s = elim (last_or_before j hop less) [
    | inl before ↦ elim (made.taken j v a n w b before (entry_was j v a (omega arith) e) s) [
      | inl late ↦ inl (omega (arith, lowered.lower))
      | inr r ↦ inr (r.0, r.1, r.2, r.3, entry_kept r.0 w r.1 r.4)
    ]
    | inr same ↦
        (let old : Entry bounds reached hop v a = entry_was hop v a (omega arith) (rw same at e) in
        elim (known old.0 (record { node = v; at = a }) n w b old.1 old.2 old.3 s) [
          | inl late ↦ inl late
          | inr found ↦
              (let r = reached_by w b s.permitted (omega (arith, lowered.lists.flags, is.as_many, slice_get_within task.table w s.contact.to s.receiver)) found.1 (omega (arith, takes_early task is n v a w b s)) in
              inr (r.0, r.1, omega (arith, r.2), r.3, r.4))
        ])
  ]

  -- one step more
  way_on : (w x : ℕ) → GivenFrom task reached (slice_index bounds hop) (slice_index bounds (hop + 1)) w x → (ns : List ℕ) × (length ns ≡ hop + 1) × Leads (Takes task) task.start task.at ns w x
  way_on w x given =
      let e : Visit = given.1 in
      let front = made.real hop e.node e.at (given.0, given.3, given.4, given.5) in (
        front.0 ++ given.2 ∷ [],
        omega (arith, length-append front.0 (given.2 ∷ []), front.1),
        Leads-append (Takes task) (takes_timely task is.nodes) front.0 (given.2 ∷ []) task.start task.at e.node e.at w x front.2 (w, x, given.6, (refl, refl)),
      )

  real' : (h v a : ℕ) → Entry bounds' reached' h v a → (ns : List ℕ) × (length ns ≡ h) × Leads (Takes task) task.start task.at ns v a
  real' h v a e = elim (cases_lt hop h) [
    | inr early ↦ made.real h v a (entry_was h v a early e)
    | inl late ↦ elim (cases_eq h (hop + 1)) [
      | inr later ↦ absurd (omega (arith, get_or_past bounds' (h + 1) 0 (omega (arith, next.many)), e.2))
      | inl here ↦
          (let d : Visit = record { node = v; at = a } in
          let lower : slice_index bounds' h ≡ length reached = ap (slice_index bounds') here ∙ bound_before hop bounds reached made.bounds_are bounds' reached' lowered.before lowered.lists.layer.begins bounds_is (hop + 1) (omega arith) ∙ made.bounds_are.last in
          let inside : e.0 < length reached' = slice_get_within reached' e.0 d e.3 in
          let read : slice_index_or reached' e.0 d ≡ d = get_or_from_slice_get reached' e.0 d d e.3 in
          elim (lowered.adds e.0 d inside) [
            | inl old ↦ absurd (omega (arith, old.0, e.1, lower))
            | inr given ↦ (let way = way_on v a (rw read at given) in (way.0, way.1 ∙ sym here, way.2))
          ])
    ]
  ]

  -- entries of one layer are of different nodes
  apart' : (h : ℕ) → h ≤ hop + 1 → AreApart (λ (e : Visit). e.node) bounds' reached' h
  apart' = apart_next hop bounds reached made.bounds_are bounds' reached' lowered.before lowered.lists.layer.begins bounds_is (λ (e : Visit). e.node) made.apart
      (λ p q e f above_p above_q at_p at_q same.
      let read_p : slice_index_or reached' p e ≡ e = get_or_from_slice_get reached' p e e at_p in
      let read_q : slice_index_or reached' q f ≡ f = get_or_from_slice_get reached' q f f at_q in
      let one : slice_index place' e.node ≡ p = rw read_p at (lowered.lists.layer.once p e above_p (slice_get_within reached' p e at_p)) in
      let two : slice_index place' f.node ≡ q = rw read_q at (lowered.lists.layer.once q f above_q (slice_get_within reached' q f at_q)) in
      sym one ∙ ap (slice_index place') same ∙ two)

  begins' : slice_get reached' 0 ≡ Some (record { node = task.start; at = task.at })
  begins' = still hop bounds reached made.bounds_are bounds' reached' lowered.before lowered.lists.layer.begins bounds_is 0 (record { node = task.start; at = task.at }) made.begins

  lists' : AreLists task.forbidden task.goal task.at (slice_index bounds' (hop + 1 + 1)) arrival' place' reached'
  lists' = record {
    flags = lowered.lists.flags;
    closed = lowered.lists.closed;
    placed = lowered.lists.placed;
    linked = lowered.lists.linked;
    layer = record { begins = omega (arith, next.last); once = λ p d le less. absurd (omega (arith, next.last)) };
    inside = lowered.lists.inside;
    other = lowered.lists.other;
    by = lowered.lists.by;
  }

  -- the layers with the new one: if the delivery falls, it is the first that reaches the goal by then, and otherwise what was
  -- found stays
  pub layers_next : (best' : Best) → ((delivery < best.delivery) × (best' ≡ record { delivery = delivery; hops = hop + 1 })) ⊎ ((best.delivery ≤ delivery) × (best' ≡ best)) → AreLayers task until (hop + 1) bounds' arrival' place' reached' best'
  layers_next best' which = record {
    lists = lists';
    bounds_are = next;
    begins = begins';
    apart = apart';
    real = real';
    taken = rw delivery_is taken';
    found = elim which [
      | inl better ↦ rw better.1 (elim lowered.found [
        | inl same ↦ absurd (omega (arith, same, better.0))
        | inr given ↦ inr (omega arith, omega arith, omega (arith, better.0, below_until task until hop bounds arrival place reached best made), way_on task.goal delivery given)
      ])
      | inr same ↦ rw same.1 (elim made.found [ inl none ↦ inl none | inr found ↦ inr (found.0, omega (arith, found.1), found.2, found.3) ])
    ];
  }
    where
      delivery_is : best'.delivery ≡ delivery
      delivery_is = elim which [
        | inl better ↦ ap (λ (b : Best). b.delivery) better.1
        | inr same ↦ omega (arith, ap (λ (b : Best). b.delivery) same.1, same.0, lowered.lower)
      ]

-- the start is the first entry, and no entry is the goal's
module _ (task : SearchTask) (is : IsTask task) (until hop : ℕ) (bounds arrival place : List ℕ) (reached : List Visit) (best : Best) (made : AreLayers task until hop bounds arrival place reached best) where
  start_entry : Entry bounds reached 0 task.start task.at
  start_entry = (0, omega (arith, made.bounds_are.first), omega (arith, made.bounds_are.second), made.begins)

  goal_never : (h a : ℕ) → Entry bounds reached h task.goal a → ⊥
  goal_never h a e =
      let d : Visit = record { node = task.goal; at = a } in
      let read : slice_index_or reached e.0 d ≡ d = get_or_from_slice_get reached e.0 d d e.3 in
      made.lists.other e.0 d (slice_get_within reached e.0 d e.3) (ap (λ (y : Visit). y.node) read)

  -- no way of at most this number of hops comes before the best
  pub least_within : (ns : List ℕ) (e : ℕ) → length ns ≤ hop → Leads (Takes task) task.start task.at ns task.goal e → best.delivery ≤ e
  least_within = none_sooner (Takes task) (takes_timely task is.nodes) (Entry bounds reached) task.start task.at task.goal start_entry goal_never hop best.delivery made.taken

  -- if the last layer is empty, no way of any number of hops does
  pub least_of_all : slice_index bounds hop ≡ slice_index bounds (hop + 1) → (ns : List ℕ) (e : ℕ) → Leads (Takes task) task.start task.at ns task.goal e → best.delivery ≤ e
  least_of_all none ns e way =
      none_sooner (Takes task) (takes_timely task is.nodes) (Entry bounds reached) task.start task.at task.goal start_entry goal_never (length ns) best.delivery all ns e (omega arith) way
    where
      all : IsTaken (Takes task) (Entry bounds reached) (length ns) best.delivery
      all j v a n w b less en s = elim (cases_lt j hop) [
        | inl before ↦ made.taken j v a n w b before en s
        | inr behind ↦ elim (cases_eq j hop) [
          | inl here ↦ absurd (omega (arith, en.1, en.2, none, ap (slice_index bounds) here, ap (λ k. slice_index bounds (k + 1)) here))
          | inr past ↦ absurd (omega (arith, en.2, get_or_past bounds (j + 1) 0 (omega (arith, made.bounds_are.many))))
        ]
      ]

  -- the same entries, and one layer more in which each node but the goal stands at each second
  abbrev Beyond : Entries
  Beyond h v a = Entry bounds reached h v a ⊎ ((h ≡ hop + 1) × (v ≢ task.goal))

  beyond_never : (h a : ℕ) → Beyond h task.goal a → ⊥
  beyond_never h a (inl e) = goal_never h a e
  beyond_never h a (inr past) = past.1 refl

  -- what the links to the goal bring it from there is known
  brought : (delivery : ℕ) → ((n u b : ℕ) → Takes task n u (slice_index arrival u) task.goal b → slice_index_or task.forbidden u false ≡ false → delivery ≤ b) → 0 < hop →
      (v a n b : ℕ) → Entry bounds reached hop v a → Takes task n v a task.goal b → delivery ≤ b
  brought delivery known more v a n b e s =
      let d : Visit = record { node = v; at = a } in
      let read : slice_index_or reached e.0 d ≡ d = get_or_from_slice_get reached e.0 d d e.3 in
      let by : slice_index arrival v ≤ a = rw read at (made.lists.by e.0 d (slice_get_within reached e.0 d e.3)) in
      let sooner = (takes_timely task is.nodes).earlier n v a task.goal b (slice_index arrival v) s by in
      let way = made.real hop v a e in
      let permitted = way_open task way.0 task.start task.at v a (omega (arith, way.1)) way.2 in
      omega (arith, known n v sooner.0 sooner.2 permitted, sooner.1)

  -- then no way of at most one hop more comes before it
  pub least_with_last : (delivery : ℕ) → delivery ≤ best.delivery → ((n u b : ℕ) → Takes task n u (slice_index arrival u) task.goal b → slice_index_or task.forbidden u false ≡ false → delivery ≤ b) → 0 < hop →
      (ns : List ℕ) (e : ℕ) → length ns ≤ hop + 1 → Leads (Takes task) task.start task.at ns task.goal e → delivery ≤ e
  least_with_last delivery lower known more =
      none_sooner (Takes task) (takes_timely task is.nodes) Beyond task.start task.at task.goal (inl start_entry) beyond_never (hop + 1) delivery all
    where
      all : IsTaken (Takes task) Beyond (hop + 1) delivery
      all j v a n w b less (inr past) s = absurd (omega (arith, past.0))
      all j v a n w b less (inl en) s = elim (last_or_before j hop less) [
        | inl before ↦ elim (made.taken j v a n w b before en s) [
          | inl late ↦ inl (omega (arith, late, lower))
          | inr r ↦ inr (r.0, r.1, r.2, r.3, inl r.4)
        ]
        | inr same ↦ elim (cases_eq w task.goal) [
          | inl goal ↦ inl (brought delivery known more v a n b (rw same at en) (rw goal at s))
          | inr other ↦ inr (j + 1, b, omega arith, omega arith, inr (omega (arith, same), other))
        ]
      ]

  -- and if it is sooner than what was found, a way of one hop more brings it
  pub way_with_last : (delivery : ℕ) → delivery < best.delivery → IsBroughtTo task arrival delivery → (ns : List ℕ) × (length ns ≡ hop + 1) × Leads (Takes task) task.start task.at ns task.goal delivery
  way_with_last delivery sooner (u, n, permitted, s) =
      let timely = takes_timely task is.nodes in
      let a : ℕ = slice_index arrival u in
      let within : u < length arrival = omega (arith, made.lists.flags, is.as_many, slice_get_within task.table u s.contact.from s.sender) in
      let early : a < never = omega (arith, timely.later n u a task.goal delivery s, takes_early task is n u a task.goal delivery s) in
      let en = entry_of made.lists made.bounds_are u within permitted early in
      elim (last_or_before en.0 hop (omega (arith, en.1))) [
        | inl before ↦ absurd (elim (made.taken en.0 u a n task.goal delivery before en.2 s) [ inl late ↦ omega (arith, late, sooner) | inr r ↦ goal_never r.0 r.1 r.4 ])
        | inr same ↦
            (let front = made.real en.0 u a en.2 in
            (front.0 ++ n ∷ [], omega (arith, length-append front.0 (n ∷ []), front.1, same), Leads-append (Takes task) timely front.0 (n ∷ []) task.start task.at u a task.goal delivery front.2 (task.goal, delivery, s, (refl, refl))))
      ]

  -- the entries of the last layer are what the next layer comes from
  pub sources_of : AreSources task reached (slice_index bounds hop) (slice_index bounds (hop + 1))
  sources_of = record {
    inside = λ p e at. (let read : slice_index_or reached p e ≡ e = get_or_from_slice_get reached p e e at in
        omega (arith, is.as_many, ap (λ (y : Visit). y.node) read, made.lists.inside p e (slice_get_within reached p e at)));
    since = λ p e at.
        (let layer = layer_of bounds p (hop + 1) made.bounds_are.first (omega (arith, made.bounds_are.last, slice_get_within reached p e at)) in
        let way = made.real layer.0 e.node e.at (p, layer.2, layer.3, at) in
        Leads-later (Takes task) (takes_timely task is.nodes) way.0 task.start task.at e.node e.at way.2);
    early = λ p e at.
        (let layer = layer_of bounds p (hop + 1) made.bounds_are.first (omega (arith, made.bounds_are.last, slice_get_within reached p e at)) in
        let way = made.real layer.0 e.node e.at (p, layer.2, layer.3, at) in
        way_early task is way.0 task.start task.at e.node e.at is.time way.2);
    apart = λ p q e f above_p above_q below_p below_q at_p at_q same. made.apart hop (omega arith) p q e f above_p above_q below_p below_q at_p at_q same;
  }

-- the looks for one layer more are within those of all of them
pub layer_more : (hop hops contacts : ℕ) → hop < hops → hop * contacts + contacts ≤ hops * contacts
layer_more hop hops contacts less =
    let le : (hop + 1) * contacts ≤ hops * contacts = mul-le-mul_right contacts (omega (arith, less)) in
    omega (arith, le)

-- and so they are if a layer took at most as many, or if too few were left for it
pub spent_more : (old left left' hop hops contacts : ℕ) → hop < hops → old ≤ left + hop * contacts → left ≤ left' + contacts → old ≤ left' + hops * contacts
spent_more old left left' hop hops contacts less so_far one = omega (arith, layer_more hop hops contacts less, so_far, one)

pub none_more : (old left hop hops contacts : ℕ) → hop < hops → old ≤ left + hop * contacts → left < contacts → old < hops * contacts
none_more old left hop hops contacts less so_far few = omega (arith, layer_more hop hops contacts less, so_far, few)

-- and those for fewer layers
pub spent_fewer : (old left hop hops contacts : ℕ) → hop ≤ hops → old ≤ left + hop * contacts → old ≤ left + hops * contacts
spent_fewer old left hop hops contacts le so_far =
    let all : hop * contacts ≤ hops * contacts = mul-le-mul_right contacts le in
    omega (arith, all, so_far)

-- layer 0 is the start alone
pub layers_first : (task : SearchTask) (until : ℕ) (bounds arrival place : List ℕ) (reached : List Visit) → bounds ≡ 0 ∷ 1 ∷ [] → reached ≡ record { node = task.start; at = task.at } ∷ [] →
    AreLists task.forbidden task.goal task.at 1 arrival place reached → AreLayers task until 0 bounds arrival place reached (record { delivery = until; hops = 0 })
layers_first task until bounds arrival place reached bounds_is reached_is lists =
    rw (bounds_is, reached_is) (record {
      lists = rw reached_is at lists;
      bounds_are = record { many = refl; first = refl; second = refl; rising = λ j le. (let zero_is : j ≡ 0 = omega arith in rw zero_is (omega arith)); last = refl };
      begins = refl;
      apart = λ h le p q e f above_p above_q below_p below_q at_p at_q same. omega (arith, slice_get_within one p e at_p, slice_get_within one q f at_q);
      real = λ h v a e. elim (cases_eq h 0) [
        | inl zero_is ↦
            (let d : Visit = record { node = v; at = a } in
            let first : e.0 ≡ 0 = omega (arith, slice_get_within one e.0 d e.3) in
            let is : record { node = task.start; at = task.at } ≡ d = same_some (ap (slice_get one) (sym first) ∙ e.3) in
            ([], sym zero_is, (ap (λ (y : Visit). y.node) is, ap (λ (y : Visit). y.at) is)))
        | inr other ↦ absurd (omega (arith, get_or_past {X = ℕ} (0 ∷ 1 ∷ []) (h + 1) 0 (omega arith), e.2))
      ];
      taken = λ j v a n w b less e s. absurd (omega arith);
      found = inl refl;
    })
  where
    one : List Visit
    one = record { node = task.start; at = task.at } ∷ []

-- what is found within that many hops is what layers find, if nothing is sooner there
made_within : (task : SearchTask) (until hops : ℕ) (best : Best) → IsNoneSooner task hops best.delivery → IsFound task until hops best → (result : Option Best) → IsFoundBest until best result → IsMade task until hops result
made_within task until hops best least found (Some way) same = rw same.0 (elim found [ inl none ↦ absurd (omega (arith, none, same.1)) | inr within ↦ record { least = least; found = within } ])
made_within task until hops best least found None late = elim found [ inl none ↦ rw none at least | inr within ↦ absurd (omega (arith, within.2, late)) ]

-- so it is with what is found within fewer hops
pub best_within : (task : SearchTask) (until hop : ℕ) (bounds arrival place : List ℕ) (reached : List Visit) (best : Best) → AreLayers task until hop bounds arrival place reached best →
    (hops : ℕ) → hop ≤ hops → IsNoneSooner task hops best.delivery → (result : Option Best) → IsFoundBest until best result → IsMade task until hops result
best_within task until hop bounds arrival place reached best made hops within least =
    made_within task until hops best least (elim made.found [ inl none ↦ inl none | inr found ↦ inr (found.0, omega (arith, found.1), found.2, found.3) ])

-- ---- layers of which the last begins at `first`

module _ (task : SearchTask) (is : IsTask task) (until hop first begin : ℕ) (arrival place : List ℕ) (reached : List Visit) (best : Best) (made : AreMade task until hop first arrival place reached best) (end : begin ≡ length reached) where
  last : slice_index made.0 (hop + 1) ≡ begin
  last = made.2.bounds_are.last ∙ sym end

  pub made_lists : AreLists task.forbidden task.goal task.at begin arrival place reached
  made_lists = rw last at made.2.lists

  pub made_sources : AreSources task reached first begin
  made_sources = rw (made.1, last) at (sources_of task is until hop made.0 arrival place reached best made.2)

  -- one layer more begins after these
  pub made_next : (arrival' place' : List ℕ) (reached' : List Visit) (delivery : ℕ) → IsLowered task.forbidden task.goal task.at begin (GivenFrom task reached first begin) arrival reached best.delivery arrival' place' reached' delivery → IsKnownFrom task reached first begin arrival' delivery →
      (best' : Best) → ((delivery < best.delivery) × (best' ≡ record { delivery = delivery; hops = hop + 1 })) ⊎ ((best.delivery ≤ delivery) × (best' ≡ best)) → AreMade task until (hop + 1) begin arrival' place' reached' best'
  made_next arrival' place' reached' delivery lowered known best' which = (
    made.0 ++ length reached' ∷ [],
    get_or_append_left made.0 (length reached' ∷ []) 0 (hop + 1) (omega (arith, made.2.bounds_are.many)) ∙ last,
    layers_next task is until hop made.0 arrival place reached best made.2 (made.0 ++ length reached' ∷ []) arrival' place' reached' delivery (rw (made.1, last) lowered) (rw (made.1, last) known) refl best' which,
  )

-- if the last layer is empty, no way comes before the best
pub made_all : (task : SearchTask) → IsTask task → (until hop first : ℕ) (arrival place : List ℕ) (reached : List Visit) (best : Best) → (made : AreMade task until hop first arrival place reached best) → first ≡ length reached →
    (ns : List ℕ) (e : ℕ) → Leads (Takes task) task.start task.at ns task.goal e → best.delivery ≤ e
made_all task is until hop first arrival place reached best made none ns e way =
    least_of_all task is until hop made.0 arrival place reached best made.2 (made.1 ∙ none ∙ sym made.2.bounds_are.last) ns e way

-- with the links to the goal as one layer more, what is found is the best
pub made_last : (task : SearchTask) → IsTask task → (until hop first : ℕ) (arrival place : List ℕ) (reached : List Visit) (best : Best) → AreMade task until hop first arrival place reached best → 0 < hop → (hops : ℕ) → hop + 1 ≡ hops → (delivery : ℕ) → delivery ≤ best.delivery →
    ((n u b : ℕ) → Takes task n u (slice_index arrival u) task.goal b → slice_index_or task.forbidden u false ≡ false → delivery ≤ b) → (delivery ≡ best.delivery) ⊎ IsBroughtTo task arrival delivery →
    (best' : Best) → ((delivery < best.delivery) × (best' ≡ record { delivery = delivery; hops = hops })) ⊎ ((best.delivery ≤ delivery) × (best' ≡ best)) → (result : Option Best) → IsFoundBest until best' result → IsMade task until hops result
made_last task is until hop first arrival place reached best made more hops next delivery lower known found best' (inl better) = rw better.1 (made_within task until hops (record { delivery = delivery; hops = hops })
    (λ ns e le way. least_with_last task is until hop made.0 arrival place reached best made.2 delivery lower known more ns e (omega (arith, le, next)) way)
    (elim found [
      | inl same ↦ absurd (omega (arith, same, better.0))
      | inr brought ↦
          (let way = way_with_last task is until hop made.0 arrival place reached best made.2 delivery better.0 brought in
          inr (omega (arith, next), omega arith, omega (arith, better.0, below_until task until hop made.0 arrival place reached best made.2), (way.0, way.1 ∙ next, way.2)))
    ]))
made_last task is until hop first arrival place reached best made more hops next delivery lower known found best' (inr same) =
    rw same.1 (best_within task until hop made.0 arrival place reached best made.2 hops (omega (arith, next))
    (λ ns e le way. omega (arith, same.0, lower, least_with_last task is until hop made.0 arrival place reached best made.2 delivery lower known more ns e (omega (arith, le, next)) way)))

-- no arrival at the goal is noted
pub goal_unreached : (task : SearchTask) → IsTask task → (begin : ℕ) (arrival place : List ℕ) (reached : List Visit) → AreLists task.forbidden task.goal task.at begin arrival place reached → never ≤ slice_index arrival task.goal
goal_unreached task is begin arrival place reached lists = elim (cases_lt (slice_index arrival task.goal) never) [
  | inr late ↦ late
  | inl early ↦
      (let d : Visit = record { node = 0; at = 0 } in
      let within : task.goal < length arrival = omega (arith, lists.flags, is.as_many, is.goal_in) in
      absurd (lists.other (slice_index place task.goal) d (lists.placed.within task.goal (omega (arith, lists.linked.as_many))) (lists.linked.node task.goal d within is.goal_open early)))
]
