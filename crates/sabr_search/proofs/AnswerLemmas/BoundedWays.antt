-- Ways up to a bound, and above it; what stays when a search forbids more or starts later, and when it stopped.
use Rattle.std.proofs.Common.{◌≡◌, sym, ℕ, ◌+◌, ◌≤◌, true, false, arith, inl, inr, ◌<◌, length, ◌≢◌, min, refl, ◌-◌, List, Bool, [], ◌∷◌}
use Rattle.std.specs.Prelude.{IsErrAnd, IsTrue}
use Rattle.std.specs.declared.result.Result.{Result}
use Rattle.std.specs.declared.result.Result.TheVariants.{Ok, Err}
use Rattle.sabr_search.specs.declared.stopped.Stopped.{Stopped}
use Rattle.sabr_search.specs.declared.stopped.Stopped.TheVariants.{NoMemory, NoLooks}
use Rattle.sabr_search.specs.questions.Stops.{StopsOnlyIf}
use Rattle.std.proofs.lemmas.Bool.Decides.{nat_tests}
use Rattle.sabr_search.specs.declared.bound.Bound.{Bound}
use Rattle.sabr_search.specs.questions.Bounded.{is_none, is_up_to, bound_after, no_bound, at_any_hops}
use Rattle.sabr_search.specs.questions.Task.{latest_arrival, SearchTask, IsTask, never, HasNodes, Takes}
use Rattle.std.proofs.lemmas.Bool.{cases_lt, cases_eq, cases_Bool}
use Rattle.sabr_search.specs.layers.Late.{IsNoneSooner, IsNoneWithin, HasWayAt}
use Rattle.sabr_search.specs.answers.Answers.{HasNoWayWithin, IsWayBeyond, narrowed, Narrows, AnswersStay}
use Rattle.sabr_search.proofs.AnswerLemmas.Law.{way_early}
use Rattle.sabr_search.specs.layers.WholeDeadlines.{IsDeadEnd}
use Rattle.sabr_search.specs.layers.Picks.{IsBestWay, IsPicked}
use Rattle.sabr_search.specs.questions.FirstSteps.{Leads}
use Rattle.sabr_search.proofs.WayLemmas.Ways.{Leads-earlier}
use Rattle.sabr_search.proofs.WayLemmas.RoutesAndWays.{takes_timely}

-- What is known of a search that stopped.

-- it stops for a reason that follows from that of a part of it
pub stops_weaker : {T : Type 0} (reason other : Type 0) → (reason → other) → (result : Result T Stopped) → StopsOnlyIf result reason → StopsOnlyIf result other
stops_weaker reason other follows (Ok x) stops = tt
stops_weaker reason other follows (Err NoMemory) stops = tt
stops_weaker reason other follows (Err NoLooks) stops = follows stops

-- so it is where an error is passed on
pub stops_by : {U : Type 0} (reason : Type 0) (e : Stopped) → (e ≡ NoLooks → reason) → (result : Result U Stopped) → IsErrAnd result (λ y. y ≡ e) → StopsOnlyIf result reason
stops_by reason e follows (Ok x) is = tt
stops_by reason e follows (Err NoMemory) is = tt
stops_by reason e follows (Err NoLooks) is = follows (sym is)

-- What is up to a bound, and what is above it.

-- each bound is up to itself
pub up_to_itself : (b : Bound) → IsTrue (is_up_to b b.delivery b.hops)
up_to_itself b = grind (arith, nat_tests)

-- what is above a bound is above all that is up to that one, and stays so later
pub still_above : (b c : Bound) (d e n : ℕ) → IsTrue (is_up_to b c.delivery c.hops) → d ≤ e → is_up_to b d n ≡ false → is_up_to c e n ≡ false
still_above b c d e n within later above = grind (arith, nat_tests, within, later, above)

-- no arrival is above a bound that is none
pub none_above : (b : Bound) (e n : ℕ) → is_none b ≡ true → e ≤ latest_arrival → is_up_to b e n ≡ false → ⊥
none_above b e n none early above = grind (arith, nat_tests, none, early, above)

-- what is above what a bound leaves is above the bound with the hops before
pub above_before : (b : Bound) (before e n : ℕ) → is_up_to (bound_after b before) e n ≡ false → is_up_to b e (before + n) ≡ false
above_before b before e n above = grind (arith, nat_tests, above)

-- a later delivery is above the bound, and at its second one with more hops
pub above_later : (b : Bound) (e h : ℕ) → b.delivery < e → is_up_to b e h ≡ false
above_later b e h later = grind (arith, nat_tests)

pub above_at : (b : Bound) (e h : ℕ) → b.delivery ≤ e → b.hops < h → is_up_to b e h ≡ false
above_at b e h by more = grind (arith, nat_tests)

-- there is no way if each is above a bound that is none
pub none_beyond : (task : SearchTask) → IsTask task → (hops : ℕ) (b : Bound) → is_none b ≡ true → IsWayBeyond task hops b → HasNoWayWithin task hops
none_beyond task is hops b none beyond ns e within way = none_above b e (length ns) none (way_early task is ns task.start task.at task.goal e is.time way) (beyond ns e within way)

-- if none of at most `hops` hops delivers before a second, and none of at most `most` by then, each is above that with so many
pub beyond_within : (task : SearchTask) (hops d most : ℕ) → IsNoneSooner task hops d → IsNoneWithin task most d → IsWayBeyond task hops (record { delivery = d; hops = most })
beyond_within task hops d most sooner none ns e within way = elim (cases_lt most (length ns)) [
  | inl more ↦ above_at (record { delivery = d; hops = most }) e (length ns) (sooner ns e within way) more
  | inr few ↦ above_later (record { delivery = d; hops = most }) e (length ns) (none ns e few way)
]

-- What a search up to a bound finds: that each way is above the bound.

-- a delivery at the bound's second, with no more hops, is up to it
pub same_up_to : (b : Bound) (d h : ℕ) → d ≡ b.delivery → h ≤ b.hops → IsTrue (is_up_to b d h)
same_up_to b d h same le = grind (arith, nat_tests, same, le)

-- what is up to a bound is up to the largest one, and to the one with any number of hops
pub bound_up_to : (b : Bound) → b.delivery ≤ never → b.hops ≤ never → IsTrue (is_up_to no_bound b.delivery b.hops)
bound_up_to b delivery hops = grind (arith, nat_tests, delivery, hops)

pub any_up_to : (b : Bound) → b.delivery ≤ never → b.hops ≤ never → IsTrue (is_up_to (at_any_hops b) b.delivery b.hops)
any_up_to b delivery hops = elim (cases_Bool (is_none b)) [
  | inl on ↦ rw on (bound_up_to b delivery hops)
  | inr off ↦ rw off (same_up_to (record { delivery = b.delivery; hops = never }) b.delivery b.hops refl hops)
]

-- no way of at most so many hops delivers by the bound's second, so that each is above the bound, with any number of hops
pub none_by : (task : SearchTask) → IsTask task → (hops : ℕ) (b : Bound) → IsNoneSooner task hops (min (b.delivery + 1) (latest_arrival + 1)) → IsWayBeyond task hops (at_any_hops b)
none_by task is hops b none ns e within way =
    let early : e ≤ latest_arrival = way_early task is ns task.start task.at task.goal e is.time way in
    elim (cases_Bool (is_none b)) [
      | inl on ↦ absurd (grind (arith, nat_tests, on, early, none ns e within way))
      | inr off ↦ rw off (above_later (record { delivery = b.delivery; hops = never }) e (length ns) (omega (arith, early, none ns e within way)))
    ]

-- a bound by whose second some way delivers
pub early_bound : (d h : ℕ) → d ≤ latest_arrival → is_none (record { delivery = d; hops = h }) ≡ false
early_bound d h early = grind (arith, nat_tests, early)

-- a search of at most `most` hops that finds no way, where some way delivers then, stops at the bound's hops
pub least_stopped : (task : SearchTask) (b : Bound) (hops most d : ℕ) → HasWayAt task hops d → (d ≡ b.delivery → most ≡ min hops b.hops) → (d ≢ b.delivery → most ≡ hops) → IsNoneWithin task most d → (d ≡ b.delivery) × (most ≡ b.hops)
least_stopped task b hops most d way same other none =
    let less : most < hops = elim (cases_lt most (length way.0)) [
      | inl less ↦ omega (arith, less, way.1)
      | inr within ↦ absurd (omega (arith, none way.0 d within way.2))
    ] in
    elim (cases_eq d b.delivery) [
      | inl here ↦ (here, omega (arith, same here, less))
      | inr apart ↦ absurd (omega (arith, other apart, less))
    ]

-- What layers for one delivery tell of a question.

-- if no way of at most so many hops delivers by then, each is above that second with any number of hops
pub dead_beyond : (task : SearchTask) (d hops most : ℕ) → IsDeadEnd task d task.start task.at hops → IsWayBeyond task hops (record { delivery = d; hops = most })
dead_beyond task d hops most dead ns e within way = above_later (record { delivery = d; hops = most }) e (length ns) (dead ns task.at e (omega arith) within way)

-- so it is of fewer hops
pub dead_fewer : (task : SearchTask) (d u t hops most : ℕ) → most ≤ hops → IsDeadEnd task d u t hops → IsDeadEnd task d u t most
dead_fewer task d u t hops most le dead ns s e later few way = dead ns s e later (omega (arith, few, le)) way

-- what is picked of the fewest hops is the least way
pub picked_is : (task : SearchTask) (d hops count : ℕ) (s : List ℕ) → IsNoneSooner task hops d → 0 < count → count ≤ hops → IsDeadEnd task d task.start task.at (count - 1) → IsPicked task count d s → IsBestWay task hops (d + 1) s d
picked_is task d hops count s floor some within dead picked = record {
  some = omega (arith, picked.many, some);
  within = omega (arith, picked.many, within);
  below = omega arith;
  way = picked.way;
  fewest = λ ns e fewer way. dead ns task.at e (omega arith) (omega (arith, picked.many, fewer)) way;
  least = floor;
  front = λ ns e many way early. picked.front ns e (omega (arith, picked.many, many)) way early;
}

-- Ways of a search that forbids more nodes and starts later are ways of the other one, and end there no later.

module _ (task : SearchTask) (forbidden : List Bool) (at : ℕ) (nodes : HasNodes task.plan task.table) (narrows : Narrows task forbidden at) where
  -- what may be taken may be taken there
  allowed : (ns : List ℕ) (u t v e : ℕ) → Leads (Takes (narrowed task forbidden at)) u t ns v e → Leads (Takes task) u t ns v e
  allowed [] u t v e way = way
  allowed (n ∷ ns) u t v e way =
      let step : Takes (narrowed task forbidden at) n u t way.0 way.1 = way.2 in
      let taken : Takes task n u t way.0 way.1 = record { contact = step.contact; named = step.named; sender = step.sender; receiver = step.receiver; permitted = narrows.forbids way.0 step.permitted; allowed = step.allowed; arrives = step.arrives } in
      (way.0, way.1, taken, allowed ns way.0 way.1 v e way.3)

  -- from the start it ends no later
  no_later : (ns : List ℕ) (e : ℕ) → Leads (Takes (narrowed task forbidden at)) task.start at ns task.goal e → (d : ℕ) × (d ≤ e) × Leads (Takes task) task.start task.at ns task.goal d
  no_later ns e way = Leads-earlier (Takes task) (takes_timely task nodes) ns task.start at task.goal e task.at (allowed ns task.start at task.goal e way) narrows.later

  least_stays : (hops fewer ceiling : ℕ) (s : List ℕ) (d : ℕ) → fewer ≤ hops → IsBestWay task hops ceiling s d → length s ≤ fewer
      → Leads (Takes (narrowed task forbidden at)) task.start at s task.goal d → IsBestWay (narrowed task forbidden at) fewer ceiling s d
  least_stays hops fewer ceiling s d less least short way = record {
    some = least.some;
    within = short;
    below = least.below;
    way = way;
    fewest = λ ns e shorter other. let sooner = no_later ns e other in omega (arith, sooner.1, least.fewest ns sooner.0 shorter sooner.2);
    least = λ ns e within other. let sooner = no_later ns e other in omega (arith, sooner.1, least.least ns sooner.0 (omega (arith, within, less)) sooner.2);
    front = λ ns e same other by. let sooner = no_later ns e other in least.front ns sooner.0 same sooner.2 (omega (arith, sooner.1, by));
  }

  none_stays : (hops fewer : ℕ) → fewer ≤ hops → HasNoWayWithin task hops → HasNoWayWithin (narrowed task forbidden at) fewer
  none_stays hops fewer less none ns e within other = let sooner = no_later ns e other in none ns sooner.0 (omega (arith, within, less)) sooner.2

  beyond_stays : (hops fewer : ℕ) (b c : Bound) → fewer ≤ hops → IsTrue (is_up_to b c.delivery c.hops) → IsWayBeyond task hops b → IsWayBeyond (narrowed task forbidden at) fewer c
  beyond_stays hops fewer b c less within beyond ns e short other =
      let sooner = no_later ns e other in
      still_above b c sooner.0 e (length ns) within sooner.1 (beyond ns sooner.0 (omega (arith, short, less)) sooner.2)

pub answers_stay : AnswersStay
answers_stay = record {
  least = λ task forbidden at hops fewer ceiling s d nodes narrows less least short way. least_stays task forbidden at nodes narrows hops fewer ceiling s d less least short way;
  none = λ task forbidden at hops fewer nodes narrows less none. none_stays task forbidden at nodes narrows hops fewer less none;
  beyond = λ task forbidden at hops fewer b c nodes narrows less within beyond. beyond_stays task forbidden at nodes narrows hops fewer b c less within beyond;
}
