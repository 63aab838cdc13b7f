use Rattle.sabr_frontier.proofs.Names.{◌≡◌, ◌-◌, ◌⊎◌, ◌++◌, ℕ, List, [], ◌∙◌, suc, length, append-nil, ap, arith, refl, sym, subst, inl, inr, None, Option, Some, ◌+◌, IsPlan, AreNoted, CarryKeys, carried_keys, one_step, searches_in, State, Bound, GivenRoute, IsNextGiven, ShowsCut, Asked, best_for, records_for, steps_for, Shape, shape_of, shown, IsTree}
use Rattle.sabr_frontier.proofs.GivingLemmas.CutPages.{IsCutWay, step_within, turn_is, way_first, way_on, cut_ended, cut_tree, cut_weaker}
use Rattle.sabr_frontier.proofs.GivingLemmas.KeptKeys.{carry_keys}
use Rattle.sabr_frontier.proofs.SessionLemmas.Pages.{counts_none, counts_stop, given_same, sound_tree, steps_none, steps_stop}
use Rattle.sabr_frontier.proofs.tree.Tree.give_page_up_to.Goals as goal
use Rattle.sabr_frontier.proofs.tree.Tree.give_page_up_to.Goals.{then-loop-left-test+else-not-is_empty, else-loop-left-test}

pub note_all-requires : goal.note_all-requires
note_all-requires g c =
    let a = c.args.searcher.now.asked in
    let t = shape_of c.args.self.now in
    subst CarryKeys (sym c.as_slice.ensures.value) (carry_keys a.plan.plan a.request t c.requires.plan c.requires.limits (sound_tree a.plan.plan a.request (length t.journal) t c.requires.sound))

pub loop-left-init : goal.loop-left-init
loop-left-init g c =
    let a = c.args.searcher.now.asked in
    let t = shape_of c.args.self.now in
    let tree = sound_tree a.plan.plan a.request (length t.journal) t c.requires.sound in
    let noted = subst (λ z. AreNoted c.new-keys.result (carried_keys z) c.note_all.new.self) c.as_slice.ensures.value c.in_ok-note_all.ensures in
    record {
      way = way_first a c.args.count t c.args.searcher.now.calls.count c.new-keys.result c.note_all.new.self tree c.new-keys.ensures noted;
      room = c.requires.room;
      same = refl;
    }

pub give_next-requires-clause-plan : goal.give_next-requires-clause-plan
give_next-requires-clause-plan g c = subst (λ (a : Asked). IsPlan a.plan.plan) (sym c.loop-left.invariant.same) c.requires.plan

pub give_next-requires-clause-tree : goal.give_next-requires-clause-tree
give_next-requires-clause-tree g c =
    let t = shape_of c.loop-left.self in
    let way = c.loop-left.invariant.way in
    subst (λ (a : Asked). IsTree a.plan.plan a.request t) (sym c.loop-left.invariant.same) (cut_tree c.args.searcher.now.asked (suc (suc c.loop-left.left)) way.state t way.shows)

pub give_next-requires-clause-waiting : goal.give_next-requires-clause-waiting
give_next-requires-clause-waiting g c = c.is_empty.ensures.some c.if-not-is_empty.true

-- the same question, and as many needed as are left then, and two besides
given_then : {A : Type 0} {a b : Asked} {t u : Shape A} {step : GivenRoute} {left : ℕ} (k : ℕ) → left ≡ suc k → (o : Option Bound) → b ≡ a → IsNextGiven (best_for b o) (Some (left + 1)) t u step → IsNextGiven (best_for a o) (Some (suc (suc k))) t u step
given_then {a = a} {t = t} {u = u} {step = step} k is o same w = subst (λ n. IsNextGiven (best_for a o) (Some n) t u step) (omega (arith, is)) (given_same o (Some _) same w)

pub note_new-requires-clause-in_range : goal.note_new-requires-clause-in_range
note_new-requires-clause-in_range g c = (step_within c.in_ok-given.ensures.ok).0

pub note_new-requires-clause-within : goal.note_new-requires-clause-within
note_new-requires-clause-within g c = (step_within c.in_ok-given.ensures.ok).1

pub note_new-requires-clause-fit : goal.note_new-requires-clause-fit
note_new-requires-clause-fit g c =
    let a = c.args.searcher.now.asked in
    let u = shape_of c.give_next.new.self in
    let k : ℕ = c.loop-left.left - 1 in
    let left : c.loop-left.left ≡ suc k = omega (arith, c.loop-left-test.true) in
    let way = subst (λ n. IsCutWay a (shown (shape_of c.args.self.now)) c.args.count c.args.self.now.leaves.items c.args.searcher.now.calls.count n (shape_of c.loop-left.self) c.loop-left.searcher.calls.count c.loop-left.keys) left c.loop-left.invariant.way in
    let turn = turn_is c.requires.plan k way c.bound.result c.bound.ensures (given_then k left c.bound.result c.loop-left.invariant.same c.in_ok-given.ensures.ok) in
    carry_keys a.plan.plan a.request u c.requires.plan c.requires.limits (cut_tree a (suc (suc k)) turn.next.1 u turn.then)

pub loop-left-preserved : goal.loop-left-preserved
loop-left-preserved g c =
    let a = c.args.searcher.now.asked in
    let k : ℕ = c.loop-left.left - 1 in
    let left : c.loop-left.left ≡ suc k = omega (arith, c.loop-left-test.true) in
    let way = subst (λ n. IsCutWay a (shown (shape_of c.args.self.now)) c.args.count c.args.self.now.leaves.items c.args.searcher.now.calls.count n (shape_of c.loop-left.self) c.loop-left.searcher.calls.count c.loop-left.keys) left c.loop-left.invariant.way in
    let taken = given_then k left c.bound.result c.loop-left.invariant.same c.in_ok-given.ensures.ok in
    record {
      way = way_on c.requires.plan k way c.bound.result c.bound.ensures taken c.give_next.new.searcher.calls.count c.in_ok-given.ensures.called c.note_new.new.keys c.in_ok-note_new.ensures;
      room = c.give_next.ensures.room;
      same = c.give_next.ensures.same ∙ c.loop-left.invariant.same;
    }

pub returns : goal.returns
returns g c =
    let a = c.args.searcher.now.asked in
    let p = a.plan.plan in
    let r = a.request in
    let t = shape_of c.loop-left.self in
    let k = c.loop-left.left in
    let way = c.loop-left.invariant.way in
    let ended : (k ≡ 0) ⊎ (one_step p r way.state ≡ None) = elim c.loop-left-test.branch [
      | then-loop-left-test+else-not-is_empty w ↦ inr (cut_ended a (suc k) way.state t c.requires.plan way.shows (w.is_empty.ensures.none w.if-not-is_empty.false))
      | else-loop-left-test w ↦ inl (omega (arith, w.loop-left-test.false))
    ] in
    let idle : steps_for a k way.state ≡ ([], way.state) = elim ended [ inl e ↦ ap (λ n. steps_for a n way.state) e ∙ steps_none p r way.state | inr e ↦ steps_stop p r way.state k e ] in
    let still : searches_in p r k way.state ≡ 0 = elim ended [ inl e ↦ counts_none p r way.state k e | inr e ↦ counts_stop p r way.state k e ] in
    record {
      routes = sym (append-nil t.leaves) ∙ ap (λ (z : List (List ℕ) × State). t.leaves ++ records_for a z.0) (sym idle) ∙ way.routes;
      state = subst (λ z. ShowsCut a 2 z t) (ap (λ (z : List (List ℕ) × State). z.1) (sym idle) ∙ way.reaches) (cut_weaker a (suc (suc k)) 2 way.state t (omega arith) way.shows);
      room = c.loop-left.invariant.room;
      no_fewer = way.begun;
      at_most = elim way.searches [ inl sum ↦ omega (arith, sum, still) | inr sum ↦ omega (arith, sum.0, still) ];
      called = elim way.searches [ inl sum ↦ inl (omega (arith, sum, still)) | inr sum ↦ inr (omega (arith, sum.1)) ];
      same = c.loop-left.invariant.same;
    }
