use Rattle.sabr_frontier.proofs.Names.{◌≡◌, ◌+◌, ◌-◌, ◌<◌, ◌≤◌, ◌⊎◌, inl, inr, ℕ, List, [], ◌∷◌, ◌++◌, map, length, reverse, arith, ap, sym, subst, ◌∙◌, None, refl, record_of, Calls, Asked, GoOn, Searching, looks_since, State, next_route, Shape, shape_of, shown, Seen, AreStarts, IsSession, IsSound, former_of, former_then, next_page, page_searches, seen, tree_before, IsIndexBack, CarriesNone, CarriesSome}
use Rattle.sabr_frontier.specs.declared.tree.Tree.{Tree}
use Rattle.sabr_frontier.proofs.SessionLemmas.Pages.{sound_tree, counts_idle, sound_undos, last_first, idle, busy, carried_or_not}
use Rattle.sabr_frontier.proofs.TreeLemmas.MergedIndex.{back_before, part_before}
use Rattle.sabr_frontier.specs.listing.Fresh.{GivesNewRoutes}
use Rattle.sabr_frontier.proofs.ListingLemmas.NewRoutes.{new_routes}
use Rattle.sabr_frontier.proofs.GivingLemmas.Sums.{calls_go_on, looks_go_on, still}
use Rattle.sabr_frontier.proofs.session.Session.page.Goals as goal
use Rattle.sabr_frontier.proofs.session.Session.page.Goals.{then-count-eq0-via-then-count-eq0, then-count-eq0-via-else-count-eq0+then-is_empty}

-- what is shown of a session, and a page of k routes
module _ {A : Type 0} (searcher : Searching) {tree : Tree A} {pages : List ℕ} {searches : ℕ} {looks : ℕ} (h : IsSession searcher.asked.plan searcher.asked.request tree pages) {v : Seen} (is : seen searcher tree pages searches looks ≡ v) (k : ℕ) where
  -- if none is asked for or left, none is given
  nothing : (k ≡ 0) ⊎ CarriesNone tree.nodes.items → next_page v k ≡ ([], v.state)
  nothing none = subst (λ (w : Seen). next_page w k ≡ ([], w.state)) is (idle searcher.asked.plan.plan searcher.asked.request h.rules (shape_of tree) h.sound k none)

  no_search : (k ≡ 0) ⊎ CarriesNone tree.nodes.items → page_searches v k ≡ 0
  no_search none = subst (λ (w : Seen). page_searches w k ≡ 0) is (counts_idle searcher.asked.plan.plan searcher.asked.request h.rules (shape_of tree) h.sound k none)

  -- if some are, it isn't so that none is
  something : 0 < k → CarriesSome tree.nodes.items → (k ≡ 0) ⊎ (next_route v.plan.plan v.request v.state ≡ None) → ⊥
  something l some none =
      carried_or_not searcher.asked.plan.plan searcher.asked.request h.rules (shape_of tree) h.sound k l some
      (subst (λ (w : Seen). (k ≡ 0) ⊎ (next_route w.plan.plan w.request w.state ≡ None)) (sym is) none)

  unchanged : GoOn v.plan.plan v.calls searcher.calls
  unchanged = subst (λ (w : Seen). GoOn w.plan.plan w.calls searcher.calls) is (still searcher.asked.plan.plan searcher.calls)

  no_route_twice : GivesNewRoutes v.plan.plan v.request k v.state
  no_route_twice =
      subst (λ (w : Seen). GivesNewRoutes w.plan.plan w.request k w.state) is
      (new_routes searcher.asked.plan.plan searcher.asked.request h.rules k (shown (shape_of tree)) (sound_tree searcher.asked.plan.plan searcher.asked.request (length tree.journal.items) (shape_of tree) h.sound).formed)

pub returns-then-count-eq0 : goal.returns-then-count-eq0
returns-then-count-eq0 g c =
    let s = c.self.inside in
    let k = c.args.count in
    let v = c.args.self.now in
    let none : (k ≡ 0) ⊎ CarriesNone s.tree.nodes.items = elim c.then-count-eq0.branch [
      | then-count-eq0-via-then-count-eq0 w ↦ inl (omega arith)
      | then-count-eq0-via-else-count-eq0+then-is_empty w ↦ inr (w.is_empty.ensures.none w.if-is_empty.true)
    ] in
    let page = sym (nothing s.searcher c.self.invariant.0 c.self.view_is k none) in
    let no_more = no_search s.searcher c.self.invariant.0 c.self.view_is k none in
    record {
      routes = c.new.ensures.items ∙ ap (λ (z : List (List ℕ) × State). map (record_of v.plan.plan v.request) z.0) page;
      state = ap (λ (v : Seen). v.state) c.self.view_is ∙ ap (λ (z : List (List ℕ) × State). z.1) page;
      former = ap (λ (v : Seen). v.former) c.self.view_is ∙ ap (λ (z : List (List ℕ) × State). former_then z.0 v.state v.former) page;
      searches = sym no_more;
      looks = (let same = ap (λ (v : Seen). v.calls.looks) c.self.view_is in omega (arith, same));
      calls = (let same = ap (λ (v : Seen). v.calls.count) c.self.view_is in omega (arith, same, no_more));
      go_on = unchanged s.searcher c.self.invariant.0 c.self.view_is k;
      plan = ap (λ (v : Seen). v.plan) c.self.view_is;
      request = ap (λ (v : Seen). v.request) c.self.view_is;
      new_routes = no_route_twice s.searcher c.self.invariant.0 c.self.view_is k;
      err = tt;
      at_most = tt;
      free = λ _. refl;
    }

pub returns-in_err-reserve-clause-free : goal.returns-in_err-reserve-clause-free
returns-in_err-reserve-clause-free g c h = absurd (something c.self.inside.searcher c.self.invariant.0 c.self.view_is c.args.count (omega arith) (c.is_empty.ensures.some c.if-is_empty.false) h)

pub merge_new-requires : goal.merge_new-requires
merge_new-requires g c =
    let s = c.self.inside in
    let p = s.searcher.asked.plan.plan in
    let r = s.searcher.asked.request in
    let t = shape_of c.give_page.new.self in
    let first = shape_of s.tree in
    record {
      all = (sound_tree p r (length t.journal) t c.in-Ok.ensures.sound).listed;
      part = part_before p r t first (length t.journal - length first.journal) c.give_page.new.self.index.items (omega arith) c.in-Ok.ensures.sound c.in-Ok.ensures.back (sound_tree p r (length first.journal) first c.self.invariant.0.sound) (c.in-Ok.ensures.index ∙ c.self.invariant.0.index);
      room = c.in-Ok.ensures.room;
    }

-- the tree before the page
before_page : {A : Type 0} {t u settled : Shape A} {n m : ℕ} → settled ≡ u → n ≡ m → tree_before m u ≡ t → tree_before n settled ≡ t
before_page {u = u} {n = n} same start back = ap (tree_before n) same ∙ ap (λ n. tree_before n u) start ∙ back

pub invariant_of-self-in-Ok : goal.invariant_of-self-in-Ok
invariant_of-self-in-Ok g c =
    let s = c.self.inside in
    let p = s.searcher.asked.plan.plan in
    let r = s.searcher.asked.request in
    let t = shape_of s.tree in
    let some = c.is_empty.ensures.some c.if-is_empty.false in
    let given = busy p r c.self.invariant.0.rules t c.self.invariant.0.sound c.args.count (omega arith) some in
    let start : c.len-start.result ≡ length t.journal = omega (arith, c.len-start.ensures) in
    let more : c.len-start.result < length c.give_page.new.self.journal.items = omega (arith, start, c.in-Ok.ensures.entries, ap (length {A = List ℕ}) given.2) in
    let pages : reverse c.push_reserved.new.self.items ≡ c.len-start.result ∷ reverse s.pages.items = ap reverse (c.push_reserved.ensures.items ∙ ap (λ z. z ++ c.len-start.result ∷ []) c.reserve.ensures.items) ∙ last_first s.pages.items c.len-start.result in
    let journal = ap (λ (z : Shape g.row.A.Denot). length z.journal) c.merge_new.ensures.same in
    let asked = c.take_looks-self-inside.ensures.begun ∙ ap (λ (a : Asked). record a { before = c.give_page.new.searcher.calls }) c.give_page.ensures.same in (
      subst (λ (a : Asked). IsSession a.plan a.request c.merge_new.new.self c.push_reserved.new.self.items) (sym asked) (record {
        rules = c.self.invariant.0.rules;
        limits = c.self.invariant.0.limits;
        sound = subst (IsSound p r) (sym c.merge_new.ensures.same) c.in-Ok.ensures.sound;
        starts = subst (λ z. AreStarts z (length c.merge_new.new.self.journal.items)) (sym pages) (omega (arith, more, journal), subst (AreStarts (reverse s.pages.items)) (sym start) c.self.invariant.0.starts);
        index = c.merge_new.ensures.index ∙ sym (ap (λ (z : Shape g.row.A.Denot). z.index) c.merge_new.ensures.same);
        room = c.merge_new.ensures.room;
      }),
      c.take_looks-self-inside.ensures.rest,
    )

pub undo_to-requires : goal.undo_to-requires
undo_to-requires g c =
    let s = c.self.inside in
    let p = s.searcher.asked.plan.plan in
    let r = s.searcher.asked.request in
    let n : ℕ = length c.give_page.new.self.journal.items in
    let first = shape_of s.tree in
    let start : c.len-start.result ≡ length first.journal = omega (arith, c.len-start.ensures) in
    let same = ap (λ n. tree_before n (shape_of c.give_page.new.self)) start ∙ c.in-Err.ensures.back in
    let index = back_before p r first c.give_page.new.self.index.items (sound_tree p r (length first.journal) first c.self.invariant.0.sound) (c.in-Err.ensures.index ∙ c.self.invariant.0.index) in
    record {
      possible = sound_undos p r (n - c.len-start.result) n (shape_of c.give_page.new.self) (omega arith) c.in-Err.ensures.sound;
      index = subst (λ (z : Shape g.row.A.Denot). IsIndexBack z c.give_page.new.self.index.items) (sym same) index;
      room = c.in-Err.ensures.room;
    }

pub invariant_of-self-in-Err : goal.invariant_of-self-in-Err
invariant_of-self-in-Err g c =
    let s = c.self.inside in
    let p = s.searcher.asked.plan.plan in
    let r = s.searcher.asked.request in
    let t = shape_of s.tree in
    let start : c.len-start.result ≡ length t.journal = omega (arith, c.len-start.ensures) in
    let same : shape_of c.undo_to.new.self ≡ t = c.undo_to.ensures.former ∙ ap (λ n. tree_before n (shape_of c.give_page.new.self)) start ∙ c.in-Err.ensures.back in
    let asked = c.take_looks.ensures.begun ∙ ap (λ (a : Asked). record a { before = c.give_page.new.searcher.calls }) c.give_page.ensures.same in (
      subst (λ (a : Asked). IsSession a.plan a.request c.undo_to.new.self c.reserve.new.self.items) (sym asked) (record {
        rules = c.self.invariant.0.rules;
        limits = c.self.invariant.0.limits;
        sound = subst (IsSound p r) (sym same) c.self.invariant.0.sound;
        starts = subst (λ z. AreStarts (reverse z) (length c.undo_to.new.self.journal.items)) (sym c.reserve.ensures.items) (subst (AreStarts (reverse s.pages.items)) (sym (ap (λ (z : Shape g.row.A.Denot). length z.journal) same)) c.self.invariant.0.starts);
        index = c.undo_to.ensures.index;
        room = c.undo_to.ensures.room;
      }),
      c.take_looks.ensures.rest,
    )

pub returns-in-Ok-clause-former : goal.returns-in-Ok-clause-former
returns-in-Ok-clause-former g c =
    let s = c.self.inside in
    let t = shape_of s.tree in
    let some = c.is_empty.ensures.some c.if-is_empty.false in
    let given = busy s.searcher.asked.plan.plan s.searcher.asked.request c.self.invariant.0.rules t c.self.invariant.0.sound c.args.count (omega arith) some in
    let start : c.len-start.result ≡ length t.journal = omega (arith, c.len-start.ensures) in
    let pages : reverse c.push_reserved.new.self.items ≡ c.len-start.result ∷ reverse s.pages.items = ap reverse (c.push_reserved.ensures.items ∙ ap (λ z. z ++ c.len-start.result ∷ []) c.reserve.ensures.items) ∙ last_first s.pages.items c.len-start.result in
    let before = before_page c.merge_new.ensures.same start c.in-Ok.ensures.back in
    let former = former_of (reverse s.pages.items) t in
    ap (λ z. former_of z (shape_of c.merge_new.new.self)) pages
    ∙ ap (λ (z : Shape g.row.A.Denot). shown z ∷ former_of (reverse s.pages.items) z) before
    ∙ sym (ap (λ z. former_then z (shown t) former) given.2)
    ∙ ap (λ (v : Seen). former_then (next_page v c.args.count).0 v.state v.former) c.self.view_is

pub returns-in-Err-clause-free : goal.returns-in-Err-clause-free
returns-in-Err-clause-free g c h = absurd (something c.self.inside.searcher c.self.invariant.0 c.self.view_is c.args.count (omega arith) (c.is_empty.ensures.some c.if-is_empty.false) h)

pub returns-in_err-reserve-clause-new_routes : goal.returns-in_err-reserve-clause-new_routes
returns-in_err-reserve-clause-new_routes g c = no_route_twice c.self.inside.searcher c.self.invariant.0 c.self.view_is c.args.count

pub returns-in-Ok-clause-new_routes : goal.returns-in-Ok-clause-new_routes
returns-in-Ok-clause-new_routes g c = no_route_twice c.self.inside.searcher c.self.invariant.0 c.self.view_is c.args.count

pub returns-in-Err-clause-new_routes : goal.returns-in-Err-clause-new_routes
returns-in-Err-clause-new_routes g c = no_route_twice c.self.inside.searcher c.self.invariant.0 c.self.view_is c.args.count

pub returns-in-Err-clause-at_most : goal.returns-in-Err-clause-at_most
returns-in-Err-clause-at_most g c =
    subst (λ (v : Seen). c.take_looks.new.self.calls.count ≤ v.calls.count + page_searches v c.args.count) c.self.view_is (omega (arith, c.in-Err.ensures.at_most, ap (λ (z : Calls). z.count) c.take_looks.ensures.calls))

pub returns-in-Ok-clause-looks : goal.returns-in-Ok-clause-looks
returns-in-Ok-clause-looks g c =
    subst (λ (v : Seen). c.take_looks-self-inside.result ≡ looks_since v.calls c.take_looks-self-inside.new.self.calls) c.self.view_is
    (looks_go_on c.self.inside.searcher c.give_page.new.searcher c.self.invariant.1 c.give_page.ensures.same _ c.take_looks-self-inside.ensures.calls _ c.take_looks-self-inside.ensures.sum)

pub returns-in-Ok-clause-go_on : goal.returns-in-Ok-clause-go_on
returns-in-Ok-clause-go_on g c =
    subst (λ (v : Seen). GoOn v.plan.plan v.calls c.take_looks-self-inside.new.self.calls) c.self.view_is
    (calls_go_on c.self.inside.searcher c.give_page.new.searcher c.self.invariant.1 c.give_page.ensures.same _ c.take_looks-self-inside.ensures.calls c.take_looks-self-inside.ensures.go_on)

pub returns-in-Err-clause-go_on : goal.returns-in-Err-clause-go_on
returns-in-Err-clause-go_on g c =
    subst (λ (v : Seen). GoOn v.plan.plan v.calls c.take_looks.new.self.calls) c.self.view_is (calls_go_on c.self.inside.searcher c.give_page.new.searcher c.self.invariant.1 c.give_page.ensures.same _ c.take_looks.ensures.calls c.take_looks.ensures.go_on)

pub returns-in_err-reserve-clause-go_on : goal.returns-in_err-reserve-clause-go_on
returns-in_err-reserve-clause-go_on g c = unchanged c.self.inside.searcher c.self.invariant.0 c.self.view_is c.args.count
