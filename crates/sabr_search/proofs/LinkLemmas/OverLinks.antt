-- What the bounds beside the passes of a link say of the steps over them.
use Rattle.std.proofs.Common.{◌≡◌, ℕ, ◌+◌, ◌-◌, ◌<◌, ◌≤◌, max, ◌⊎◌, inl, inr, zero, suc, List, length, drop, true, false, Some, slice_get, slice_index, slice_index_or, sym, ap, subst, ◌∙◌, arith}
use Rattle.std.specs.List.Sorted.{IsNonDecreasingBy}
use Rattle.std.specs.declared.option.Option.{Option}
use Rattle.std.specs.declared.option.Option.TheVariants.{None}
use Rattle.sabr_search.specs.declared.visit.Step.{Step}
use Rattle.sabr_search.specs.layers.Picks.{IsAtMost}
use Rattle.std.proofs.lemmas.Option.{slice_get-get_or, slice_get_within}
use Rattle.std.proofs.lemmas.Bool.{both_ways}
use Rattle.sabr_model.specs.declared.contact.Contact.{Contact}
use Rattle.sabr_model.specs.declared.hop.Hop.{Hop}
use Rattle.sabr_index.specs.declared.link.Pass.{Pass}
use Rattle.sabr_index.specs.declared.link.Link.{Link}
use Rattle.sabr_index.specs.declared.link.LinkBounds.{LinkBounds}
use Rattle.sabr_index.specs.Links.{AreInOrder, AreWithin, passes_over}
use Rattle.std.proofs.lemmas.List.{length-take, length-drop}
use Rattle.sabr_model.specs.routes.Arrival.{cost}
use Rattle.sabr_model.specs.plan.Light.{light_of}
use Rattle.sabr_model.specs.plan.Plan.{has}
use Rattle.sabr_search.specs.questions.Task.{SearchTask, IsTask, Takes}
use Rattle.sabr_search.specs.layers.Lists.{IsKnown}
use Rattle.sabr_model.specs.routes.Hops.{hop_arrival, IsSmall}
use Rattle.sabr_search.specs.questions.Linked.{IsHopAt, IsPassAt, IsLinkAt, HasNumber, AreLinksAt, IsLinkHere, IsRuledOut}
use Rattle.sabr_search.proofs.LinkLemmas.PlanFacts.{arrival_parts, hop_small}
use Rattle.sabr_search.proofs.ForwardLemmas.Forward.{known_old, hop_takes}
use Rattle.sabr_search.proofs.WayLemmas.RoutesAndWays.{same_some}

-- the default after the end of a list of passes
abbrev pub no_pass : Pass
no_pass = record { number = 0; receiver = 0; light = 0; start = 0; end = 0; latest_end = 0; least_light_before = 0; least_light_after = 0; least_number_after = 0; next_numbers = 0 }

-- the pass that a walk looks at
pub looked : (passes : List Pass) (i : ℕ) (x : Pass) → i < length passes → x ≡ slice_index_or passes i no_pass → slice_get passes i ≡ Some x
looked passes i x within same = slice_get-get_or passes i no_pass within ∙ ap Some (sym same)

abbrev pub no_link : Link
no_link = record { receiver = 0; first = 0; end = 0; bounds = record { latest_end = 0; least_light = 0; soonest = 0 } }

pub passes_length : (passes : List Pass) (l : Link) → l.end ≤ length passes → length (passes_over passes l) ≡ l.end - l.first
passes_length passes l within = omega (arith, length-take (l.end - l.first) (drop l.first passes), length-drop l.first passes)

-- the hop of a pass
abbrev pub hop_of : Pass → ℕ → Hop
hop_of x to = record { start = x.start; end = x.end; receiver = to; light = Some x.light }

pub pass_small : (task : SearchTask) → IsTask task → (u to : ℕ) (x : Pass) → IsPassAt task u to x → IsSmall (hop_of x to)
pass_small task is u to x p =
    hop_small (record { plan = task.plan; table = task.table }) is.plan x.number (hop_of x to) (record {
      contact = p.contact;
      named = p.named;
      is = record { start = p.start; end = p.end; receiver = p.receiver; light = sym p.light };
    })

-- what a step over a pass is
pub record IsOver (task : SearchTask) (to t : ℕ) (x : Pass) (w b : ℕ) : Type 0 where
  pub receiver : w ≡ to
  pub before_end : max t x.start < x.end
  pub sum : b ≡ max t x.start + cost task.request.margin x.light

pub over_pass : (task : SearchTask) → IsTask task → (u to t : ℕ) (x : Pass) (w b : ℕ) → IsPassAt task u to x → Takes task x.number u t w b → IsOver task to t x w b
over_pass task is u to t x w b p s =
    let same : s.contact ≡ p.contact = same_some (sym s.named ∙ p.named) in
    let a = arrival_parts task.plan task.request t s.contact b s.arrives in
    let light : a.light ≡ x.light = same_some (sym a.in_force ∙ ap (light_of task.plan) same ∙ p.light) in
    let start : s.contact.start ≡ x.start = ap (λ (c : Contact). c.start) same ∙ sym p.start in
    let end : s.contact.end ≡ x.end = ap (λ (c : Contact). c.end) same ∙ sym p.end in
    record {
      receiver = is.nodes.apart w to p.contact.to (s.receiver ∙ ap (λ (c : Contact). Some c.to) same) p.receiver;
      before_end = omega (arith, a.before_end, start, end);
      sum = rw (← light) (omega (arith, a.sum, start));
    }

-- a pass in time to an open node is a step
pub pass_takes : (task : SearchTask) → IsTask task → (u to t : ℕ) (x : Pass) (b : ℕ) (h : Hop) → IsPassAt task u to x → h.receiver ≡ to → IsHopAt task x.number h → slice_index_or task.forbidden to false ≡ false →
    (u ≡ task.start → has x.number task.excluded ≡ false) → hop_arrival task.request.margin t h ≡ Some b → Takes task x.number u t to b
pass_takes task is u to t x b h p same hop open' allowed arrives =
    rw same at (hop_takes task is x.number h hop u t b (p.contact, p.named, p.sender) (ap (λ k. slice_index_or task.forbidden k false) same ∙ open') allowed arrives)

-- a step over a pass, however its place is given
pub step_at : (task : SearchTask) (passes : List Pass) (u t i k : ℕ) (x y : Pass) (w b : ℕ) → slice_get passes i ≡ Some x → slice_get passes k ≡ Some y → k ≡ i → Takes task y.number u t w b → Takes task x.number u t w b
step_at task passes u t i k x y w b at_i at_k same s =
    let is : x ≡ y = same_some (sym at_i ∙ ap (slice_get passes) (sym same) ∙ at_k) in
    let number : x.number ≡ y.number = ap (λ (p : Pass). p.number) is in
    rw (← number) at s

-- a step over a number that some pass has
pub step_over : (task : SearchTask) (passes : List Pass) (n u t w b : ℕ) (h : HasNumber passes n) → Takes task n u t w b → Takes task h.1.number u t w b
step_over task passes n u t w b h s = rw (← h.3) at s

module _ (passes : List Pass) (kept : AreInOrder passes) where
  pub ends_rise : IsNonDecreasingBy (λ (x : Pass). x.latest_end) passes
  ends_rise i j d le within =
      (kept i j (slice_index_or passes i d) (slice_index_or passes j d) le (slice_get-get_or passes i d (omega (arith, le, within))) (slice_get-get_or passes j d within)).latest_end

  pub end_within : (k : ℕ) (x : Pass) → slice_get passes k ≡ Some x → x.end ≤ x.latest_end
  end_within k x at = (kept k k x x (omega arith) at at).end

  pub starts_rise : IsNonDecreasingBy (λ (x : Pass). x.start) passes
  starts_rise i j d le within =
      (kept i j (slice_index_or passes i d) (slice_index_or passes j d) le (slice_get-get_or passes i d (omega (arith, le, within))) (slice_get-get_or passes j d within)).start

module _ (task : SearchTask) (is : IsTask task) (u to : ℕ) (passes : List Pass) (link : IsLinkAt task u to passes) where
  -- a pass that has ended takes nothing
  pub none_ended : (t k : ℕ) (x : Pass) (w b : ℕ) → slice_get passes k ≡ Some x → x.end ≤ t → Takes task x.number u t w b → ⊥
  none_ended t k x w b at ended s = let o = over_pass task is u to t x w b (link.each k x at) s in omega (arith, o.before_end, ended)

  -- what a walk jumps over takes nothing
  pub none_excluded : (t i k r : ℕ) (x y : Pass) (w b : ℕ) → slice_get passes i ≡ Some x → i ≤ k → k < i + r → slice_get passes k ≡ Some y → r ≤ x.next_numbers + 1 →
      ((j : ℕ) → j < r → (u ≡ task.start) × (has (x.number + j) task.excluded ≡ true)) → Takes task y.number u t w b → ⊥
  none_excluded t i k r x y w b at_i le less at_k few out s =
      let there : i + (k - i) ≡ k = omega (arith, le) in
      let number : y.number ≡ x.number + (k - i) = link.in_rows i (k - i) x y at_i (ap (slice_get passes) there ∙ at_k) (omega (arith, few, less, le)) in
      let here = out (k - i) (omega (arith, less, le)) in
      both_ways (has y.number task.excluded) (s.allowed here.0) (ap (λ n. has n task.excluded) number ∙ here.1)

  -- if a pass and the lightest contact after it arrive late, all after it do
  pub late_over : (t before i : ℕ) (x : Pass) → slice_get passes i ≡ Some x → before ≤ max t x.start + x.least_light_after →
      (k : ℕ) (y : Pass) (w b : ℕ) → i ≤ k → slice_get passes k ≡ Some y → Takes task y.number u t w b → before ≤ b
  late_over t before i x at_i late k y w b le at_k s =
      let o = over_pass task is u to t y w b (link.each k y at_k) s in
      let kept = link.kept i k x y le at_i at_k in
      let light : y.light ≤ cost task.request.margin y.light = omega arith in
      omega (arith, o.sum, late, kept.start, kept.light_after, light)

  -- nothing arrives before its pass starts, or before it is sent
  pub starts_late : (t k : ℕ) (x : Pass) (w b : ℕ) → slice_get passes k ≡ Some x → Takes task x.number u t w b → (x.start ≤ b) × (t ≤ b)
  starts_late t k x w b at s = let o = over_pass task is u to t x w b (link.each k x at) s in (omega (arith, o.sum), omega (arith, o.sum))

  -- if a pass ends early, or arrives late with the lightest contact before it, none before it leaves later
  pub none_later : (latest before i : ℕ) (x : Pass) → slice_get passes i ≡ Some x → (x.latest_end ≤ latest) ⊎ (before ≤ latest + x.least_light_before) →
      (k : ℕ) (y : Pass) (t w b : ℕ) → k ≤ i → slice_get passes k ≡ Some y → Takes task y.number u t w b → b < before → t < latest
  none_later latest before i x at_i early k y t w b le at_k s less =
      let o = over_pass task is u to t y w b (link.each k y at_k) s in
      let kept = link.kept k i y x le at_k at_i in
      elim early [
        | inl ended ↦ omega (arith, o.before_end, kept.end, ended)
        | inr near ↦ (let light : y.light ≤ cost task.request.margin y.light = omega arith in omega (arith, o.sum, near, less, kept.light_before, light))
      ]

  -- if the bounds of the link rule it out, nothing arrives over it before a second
  pub ruled_out : (b : LinkBounds) → AreWithin b passes → (at before : ℕ) → IsRuledOut b at before →
      (n t w x : ℕ) → HasNumber passes n → at ≤ t → Takes task n u t w x → before ≤ x
  ruled_out b within at before why n t w x has after s =
      let o = over_pass task is u to t has.1 w x (link.each has.0 has.1 has.2) (step_over task passes n u t w x has s) in
      let kept = within has.0 has.1 has.2 in
      let light : has.1.light ≤ cost task.request.margin has.1.light = omega arith in
      elim why [
        | inl ended ↦ absurd (omega (arith, o.before_end, kept.ends, ended, after))
        | inr rest ↦ elim rest [
          | inl late ↦ omega (arith, o.sum, kept.soonest, late, light)
          | inr far ↦ omega (arith, o.sum, kept.light, far, after, light)
        ]
      ]

-- a step over a link of a node leads to the link's receiver
pub link_receiver : (task : SearchTask) → IsTask task → (u : ℕ) (links : List Link) (passes : List Pass) → AreLinksAt task u links passes → (i : ℕ) (l : Link) → slice_get links i ≡ Some l →
    (n t w b : ℕ) → HasNumber (passes_over passes l) n → Takes task n u t w b → w ≡ l.receiver
link_receiver task is u links passes are i l at n t w b has s =
    (over_pass task is u l.receiver t has.1 w b ((are.each i l at).each has.0 has.1 has.2) (step_over task (passes_over passes l) n u t w b has s)).receiver

-- the links of a node lie one after another
links_in_row : (task : SearchTask) (u : ℕ) (links : List Link) (passes : List Pass) → AreLinksAt task u links passes → (i d : ℕ) (l m : Link) → slice_get links i ≡ Some l → slice_get links (i + 1 + d) ≡ Some m → l.end ≤ m.first
links_in_row task u links passes are i zero l m at_l at_m =
    let there : i + 1 ≡ i + 1 + zero = omega arith in
    are.in_row i l m at_l (ap (slice_get links) there ∙ at_m)
links_in_row task u links passes are i (suc d) l m at_l at_m =
    let k = slice_index_or links (i + 1 + d) no_link in
    let at_k : slice_get links (i + 1 + d) ≡ Some k = slice_get-get_or links (i + 1 + d) no_link (omega (arith, slice_get_within links (i + 1 + suc d) m at_m)) in
    let there : i + 1 + d + 1 ≡ i + 1 + suc d = omega arith in
    omega (arith, links_in_row task u links passes are i d l k at_l at_k, are.ordered (i + 1 + d) k at_k, are.in_row (i + 1 + d) k m at_k (ap (slice_get links) there ∙ at_m))

-- what holds of the link at a place among those of a node, to the node at place w over these passes
pub record IsInPlace (task : SearchTask) (u : ℕ) (links : List Link) (passes : List Pass) (i to : ℕ) (over : List Pass) (l : Link) : Type 0 where
  pub few : l.first + length over ≤ length passes
  pub later : (j : ℕ) (m : Link) → i < j → slice_get links j ≡ Some m → l.first + length over ≤ m.first
  pub own : (j : ℕ) (x : Link) (n : ℕ) → slice_get links j ≡ Some x → j ≡ i → HasNumber (passes_over passes x) n → HasNumber over n
  pub leads : IsTask task → (n t w b : ℕ) → HasNumber over n → Takes task n u t w b → w ≡ to

pub in_place : (task : SearchTask) (u : ℕ) (links : List Link) (passes : List Pass) → AreLinksAt task u links passes → (i to : ℕ) (over : List Pass) (is : IsLinkHere links passes i to over) → IsInPlace task u links passes i to over is.link
in_place task u links passes are i to over is =
    let l = is.link in
    let many : length over ≡ l.end - l.first = rw is.lies (passes_length passes l (are.within i l is.here)) in
    record {
      few = omega (arith, many, are.ordered i l is.here, are.within i l is.here);
      later = λ j m less at.
          (let there : i + 1 + (j - (i + 1)) ≡ j = omega (arith, less) in
          omega (arith, many, are.ordered i l is.here, links_in_row task u links passes are i (j - (i + 1)) l m is.here (ap (slice_get links) there ∙ at)));
      own = λ j x n at same has.
          (let one : x ≡ l = same_some (sym at ∙ ap (slice_get links) same ∙ is.here) in
          rw is.lies (subst (λ (y : Link). HasNumber (passes_over passes y) n) one has));
      leads = λ task_is n t w b has s. link_receiver task task_is u links passes are i l is.here n t w b (rw is.lies at has) s ∙ sym is.receiver;
    }

-- what is at most a number is at most a greater one
pub at_most_more : (o : Option Step) (m n : ℕ) → m ≤ n → IsAtMost o m → IsAtMost o n
at_most_more None m n le h = absurd h
at_most_more (Some s) m n le h = omega (arith, h)

pub same_number : (passes : List Pass) (i k : ℕ) (x y : Pass) → slice_get passes i ≡ Some x → slice_get passes k ≡ Some y → k ≡ i → x.number ≡ y.number
same_number passes i k x y at_i at_k same = ap (λ (p : Pass). p.number) (same_some (sym at_i ∙ ap (slice_get passes) (sym same) ∙ at_k))

-- what comes over a link of a node that is ruled out by what is known of its receiver is known, if the goal's own arrival is
-- no sooner than the best delivery
pub known_skipped : (task : SearchTask) → IsTask task → (u t : ℕ) (links : List Link) (passes : List Pass) → AreLinksAt task u links passes → (arrival : List ℕ) (best : ℕ) → best ≤ slice_index arrival task.goal →
    (j : ℕ) (l : Link) → slice_get links j ≡ Some l → IsRuledOut l.bounds t (slice_index arrival l.receiver) → (n w b : ℕ) → HasNumber (passes_over passes l) n → Takes task n u t w b → IsKnown task.goal arrival best w b
known_skipped task is u t links passes are arrival best goal_late j l at out n w b has s =
    let to = link_receiver task is u links passes are j l at n t w b has s in
    let by : slice_index arrival w ≤ b = rw to (ruled_out task is u l.receiver (passes_over passes l) (are.each j l at) l.bounds (are.bounds j l at) t (slice_index arrival l.receiver) out n t w b has (omega arith) s) in
    known_old task.goal arrival best w b goal_late (omega (arith, by))
