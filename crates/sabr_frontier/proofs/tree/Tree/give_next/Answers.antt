use Rattle.sabr_frontier.proofs.Names.{Bool, true, false, inl, ◌≡◌, ℕ, ◌+◌, ◌-◌, ◌<◌, ◌++◌, length-append, Option, ◌∷◌, [], List, length, take, arith, ap, sym, subst, refl, ◌∙◌, Some, None, get_or_from_slice_get, slice_get_within, IsFalse, IsTrue, slice_get, option_and_then, RouteRecord, Bound, is_route, GivenRoute, Node, NodeId, Shape, order_of, shape_of, route_at, route_of, numbers_of, IsLonger, given_back, including, modify, AreOthersWinners, AreWinners, IsFirst, Asked, best_for, CanExclude, IsTree, IsFloor, changed_by, divided_into, fresh_after, wide_of, widened, AreFound, IsBestWhere, IsNextGiven, carrying, excluding, given_by}
use Rattle.sabr_frontier.proofs.TreeLemmas.ModifiedPlaces.{length-modify, modify_back, modify_front, modify_same, modify_twice, get_front, get_other, get_same, within_get}
use Rattle.sabr_frontier.proofs.TreeLemmas.ListFronts.{carried_then}
use Rattle.sabr_frontier.proofs.TreeLemmas.CarryingNodes.{IsKnown, known, inside, route_there}
use Rattle.sabr_frontier.proofs.TreeLemmas.SlotWinners.{others_changed}
use Rattle.sabr_frontier.proofs.SessionLemmas.Pages.{new_nodes, counts_known}
use Rattle.sabr_frontier.proofs.TreeLemmas.IndexedNodes.{tree_indexed}
use Rattle.sabr_frontier.proofs.TreeLemmas.CutTrees.{found_length, tree_given}
use Rattle.sabr_frontier.proofs.TreeLemmas.Floors.{best_known, floor_known}
use Rattle.sabr_frontier.proofs.tree.Tree.give_next.Goals as goal

-- the node without its route
abbrev without : {A : Type 0} → Node A → Node A
without n = record n { route = None }

-- the least route once room is reserved
known_then : {A : Type 0} (a : Asked) {t u : Shape A} → u ≡ t → IsTree a.plan.plan a.request t → {id : NodeId} {copy : RouteRecord} → ((x : RouteRecord) × IsFirst t.nodes id x) → route_at u.nodes id ≡ Some copy → IsKnown a u id copy
known_then a {t} {u} same tree {id} {copy} first is = subst (λ z. IsKnown a z id copy) (sym same) (known a tree first (ap (λ (z : Shape _). route_at z.nodes id) (sym same) ∙ is))

module _ {A : Type 0} {a : Asked} {t : Shape A} {id : NodeId} {w : RouteRecord} (k : IsKnown a t id w) where
  abbrev s : List ℕ
  s = k.route.contacts

  -- the nodes without the route
  abbrev taken : List (Node A)
  taken = modify without t.nodes id.0

  -- and with one number more excluded
  abbrev former : List (Node A)
  former = modify (excluding s) taken id.0

  there : slice_get taken id.0 ≡ Some (without k.part)
  there = get_same without t.nodes id.0 k.part k.stands

  long : length former ≡ length t.nodes
  long = length-modify (excluding s) taken id.0 ∙ length-modify without t.nodes id.0

  inner : id.0 < length former
  inner = omega (arith, long, slice_get_within t.nodes id.0 k.part k.stands)

  -- the numbers of the route
  numbers_are : {copy : List ℕ} → copy ≡ w.contacts → copy ≡ s
  numbers_are e = e ∙ ap numbers_of k.copied

  -- what holds of the node holds of it without its route
  of_taken : {now : List (Node A)} → now ≡ taken → (P : Node A → Type 0) → P (without k.part) → (n : Node A) → slice_get now id.0 ≡ Some n → P n
  of_taken {now} e P h n stands =
      let same : without k.part ≡ n = let at = there in let here = ap (λ z. slice_get z id.0) e in cc in
      subst P same h

  can_taken : CanExclude (without k.part) s
  can_taken = record { longer = k.can.longer; rises = k.can.rises; absent = k.can.absent }

  -- the nodes of which the new ones are cut off, once the number isn't excluded any more
  module _ (all : List (Node A)) {copy : List ℕ} {now cut : List (Node A)} {first : ℕ} (are : copy ≡ w.contacts) (is : now ≡ taken) (count : first ≡ length now) (cut_is : cut ≡ take first all) (back : modify (including copy) (take (length now) all) id.0 ≡ now) where
    back_is : modify (including s) cut id.0 ≡ taken
    back_is = (λ i. modify (including (sym (numbers_are are) i)) ((cut_is ∙ ap (λ n. take n all) count) i) id.0) ∙ back ∙ is

    -- those once it has the route again
    given_again : {new : List (Node A)} → new ≡ modify (given_back w) cut id.0 → new ≡ t.nodes
    given_again e =
        e ∙ (λ i. modify (given_back (k.copied i)) cut id.0) ∙ sym (modify_twice (including s) (carrying (Some k.route)) cut id.0) ∙ ap (λ z. modify (carrying (Some k.route)) z id.0) back_is
        ∙ modify_twice without (carrying (Some k.route)) t.nodes id.0 ∙ modify_back (λ n. carrying (Some k.route) (without n)) t.nodes id.0 k.part k.stands (ap (λ o. record k.part { route = o }) (sym k.carries))

    still_there : id.0 < length cut
    still_there = omega (arith, length-modify (including s) cut id.0, ap (length {A = Node A}) back_is, length-modify without t.nodes id.0, slice_get_within t.nodes id.0 k.part k.stands)

    -- it is longer than the node's prefix
    longer_again : IsLonger cut id.0 w
    longer_again n =
        let at = within_get cut id.0 still_there in
        let same : including s at.0 ≡ without k.part = let x = get_same (including s) cut id.0 at.0 at.1 in let y = ap (λ z. slice_get z id.0) back_is in let z = there in cc in
        let here = get_or_from_slice_get cut id.0 at.0 n at.1 in
        omega (arith, k.can.longer, ap (λ (r : RouteRecord). length r.contacts) k.copied, ap (λ (m : Node A). m.length) same, ap (λ (m : Node A). m.length) here)

  -- the new nodes and all nodes then
  record IsDivided (b : Option Bound) (needed : Option ℕ) (searches : ℕ) (then : List (Node A)) : Type 0 where
    new : List (Node A)
    nodes : then ≡ former ++ new
    found : AreFound needed (length s - k.part.length) (fresh_after (best_for a b) (length t.leaves) k.part s) new searches

  then_is : (b : Option Bound) (needed : Option ℕ) (searches : ℕ) {now then : List (Node A)} {copy : List ℕ} {leaf : ℕ} → now ≡ taken → copy ≡ w.contacts → leaf ≡ length t.leaves
      → ((n : Node A) → slice_get now id.0 ≡ Some n → (new : List (Node A)) × (then ≡ modify (excluding copy) now id.0 ++ new) × AreFound needed (length copy - n.length) (fresh_after (best_for a b) leaf n copy) new searches) → IsDivided b needed searches then
  then_is b needed searches {now} {then} {copy} {leaf} e numbers is ok =
      let d = ok (without k.part) (ap (λ z. slice_get z id.0) e ∙ there) in
      record {
        new = d.0;
        nodes = d.1 ∙ (λ i. modify (excluding (numbers_are numbers i)) (e i) id.0 ++ d.0);
        found = subst (λ (z : List ℕ). AreFound needed (length z - k.part.length) (fresh_after (best_for a b) (length t.leaves) k.part z) d.0 searches) (numbers_are numbers)
            (subst (λ m. AreFound needed (length copy - k.part.length) (fresh_after (best_for a b) m k.part copy) d.0 searches) is d.2);
      }

  long_then : {b : Option Bound} {needed : Option ℕ} {searches : ℕ} {then : List (Node A)} → IsDivided b needed searches then → length then + (k.part.length + 1) ≡ length t.nodes + length s
  long_then {b} {needed} {searches} d = omega (arith, ap (length {A = Node A}) d.nodes, length-append former d.new, long, found_length needed (length s - k.part.length) (fresh_after (best_for a b) (length t.leaves) k.part s) d.new searches d.found, new_nodes A (best_for a b) (length t.leaves) s k.part.length k.can.longer, k.can.longer)

  module _ (fresh : List (Node A)) where
    -- the nodes once it carries what was found
    nodes_found : {then : List (Node A)} → then ≡ former ++ fresh → (found : Option RouteRecord) → modify (carrying found) then id.0 ≡ modify (widened (wide_of k.part s) found) t.nodes id.0 ++ fresh
    nodes_found e found =
        ap (λ z. modify (carrying found) z id.0) e ∙ modify_front (carrying found) former fresh id.0 inner
        ∙ ap (λ z. z ++ fresh) (
        carried_then taken former id.0 s (without k.part) there refl found ∙ modify_twice without (widened (wide_of k.part s) found) t.nodes id.0
        ∙ modify_same (λ n. widened (wide_of k.part s) found (without n)) (widened (wide_of k.part s) found) t.nodes id.0 k.part k.stands refl
        )

    -- the winners among the former nodes, but for this one
    winners_then : {then : List (Node A)} → then ≡ former ++ fresh → (found : Option RouteRecord) (ids : List NodeId) → length ids ≡ length t.nodes → AreWinners t.nodes ids → AreOthersWinners (modify (carrying found) then id.0) ids id.0 (id.0 + 1)
    winners_then {then} e found ids count won =
        let f = widened (wide_of k.part s) found in
        others_changed (modify (carrying found) then id.0) t.nodes ids id.0 won (λ other l ne.
        ap (λ ns. route_at ns other) (nodes_found e found)
        ∙ ap (option_and_then route_of) (get_front (modify f t.nodes id.0) fresh other.0 (omega (arith, l, count, length-modify f t.nodes id.0)) ∙ get_other f t.nodes id.0 other.0 ne))

-- as many hops as the route that the node carries have room
hops_are : {A : Type 0} {a : Asked} {t u : Shape A} {id : NodeId} {copy next : RouteRecord} (k : IsKnown a u id copy) → u ≡ t → {nodes : List (Node A)} → Some next ≡ route_at nodes id → nodes ≡ t.nodes → {numbers : List ℕ} → numbers ≡ next.contacts → length numbers ≡ length k.route.contacts
hops_are {u = u} {id = id} {next = next} k same is seen are =
    let there : Some next ≡ Some k.route = is ∙ ap (λ ns. route_at ns id) seen ∙ ap (λ (z : Shape _). route_at z.nodes id) (sym same) ∙ route_there u.nodes id k.part k.route k.stands k.carries in
    let one : next ≡ k.route = cc in
    ap (length {A = ℕ}) (are ∙ ap numbers_of one)

-- where all were to be found, those that are needed were
found_where : {A : Type 0} (needed asked : Option ℕ) (many : ℕ) (us ts : List (Node A)) (n : ℕ) (searched : Bool) → (IsTrue searched → asked ≡ needed) → (IsFalse searched → asked ≡ None) → AreFound asked many us ts n → AreFound needed many us ts n
found_where needed asked many us ts n true all none h = subst (λ m. AreFound m many us ts n) (all refl) h
found_where None asked many us ts n false all none h = subst (λ m. AreFound m many us ts n) (none refl) h
found_where (Some k) asked many us ts n false all none h = inl (subst (λ m. AreFound m many us ts n) (none refl) h)

pub divide-requires : goal.divide-requires
divide-requires g c =
    let a = c.args.searcher.now.asked in
    let u = shape_of c.reserve.new.self in
    let k = known_then c.args.searcher.now.asked c.reserve.ensures.same c.requires.tree c.in-Some.ensures.some (sym c.in-Some-carry.ensures.route) in
    let tree = subst (IsTree a.plan.plan a.request) (sym c.reserve.ensures.same) c.requires.tree in
    let numbers = numbers_are k c.numbers.ensures in
    let now = c.in-Some-carry.ensures.nodes in
    let hops = hops_are k c.reserve.ensures.same c.in-Some-carried.ensures c.as_slice.ensures.value c.numbers-hops.ensures in
    record {
      in_range = (let l = slice_get_within u.nodes c.in-Some.node.0 k.part k.stands in omega (arith, l, c.in-Some-carry.ensures.len));
      route = ap (is_route a.plan.plan a.request) numbers ∙ (inside a.plan.plan a.request u tree c.in-Some.node k.part k.route k.stands k.carries).0;
      next = of_taken k now (λ n. CanExclude n c.numbers.result.now) (subst (CanExclude (without k.part)) (sym numbers) (can_taken k));
      plan = c.requires.plan;
      best = of_taken k now (λ n. IsBestWhere c.needed_of.result a.plan.plan a.request (take n.length c.numbers.result.now) n.excluded c.numbers.result.now c.floor_of.result)
          (best_known a u c.in-Some.node _ k c.requires.plan tree _ c.numbers.ensures c.floor_of.result c.floor_of.ensures.yes c.needed_of.result c.needed_of.ensures.no k.part k.stands);
      floor = of_taken k now (λ n. IsFloor a.plan.plan a.request (take n.length c.numbers.result.now) n.excluded c.floor_of.result) (floor_known a u c.in-Some.node _ k c.requires.plan tree _ c.numbers.ensures c.floor_of.result c.floor_of.ensures.yes c.floor_of.ensures.no k.part k.stands);
      room = omega (arith, c.in_ok-reserve.ensures.ok.nodes, ap (length {A = ℕ}) numbers, hops, c.in-Some-carry.ensures.len, c.in-Some-carry.ensures.capacity);
    }

pub change-requires : goal.change-requires
change-requires g c =
    let k = known_then c.args.searcher.now.asked c.reserve.ensures.same c.requires.tree c.in-Some.ensures.some (sym c.in-Some-carry.ensures.route) in
    let e = then_is k c.args.bound c.needed_of.result c.in-Ok.division.searches c.in-Some-carry.ensures.nodes c.numbers.ensures (omega (arith, c.len.ensures)) c.in-Ok.ensures.ok in
    let u = shape_of c.reserve.new.self in
    let room = c.in_ok-reserve.ensures.room in
    let has = c.in_ok-reserve.ensures.ok in
    let hops = hops_are k c.reserve.ensures.same c.in-Some-carried.ensures c.as_slice.ensures.value c.numbers-hops.ensures in
    let all = long_then k e in
    record {
      in_range = omega (arith, inner k, long k, room.count);
      within = omega (arith, room.count, all, k.can.longer);
      won = winners_then k e.new e.nodes c.in-Ok.division.route c.reserve.new.self.winners.items (omega (arith, room.count)) room.won;
      space = record { index = omega (arith, has.index, all, k.can.longer, hops); added = omega (arith, has.added, all, k.can.longer, hops); places = omega (arith, has.winners, all, k.can.longer, hops) };
      leaf = has.leaves;
      entry = has.journal;
    }

pub returns-in-Ok-clause-ok : goal.returns-in-Ok-clause-ok
returns-in-Ok-clause-ok g c =
    let a = c.args.searcher.now.asked in
    let p = a.plan.plan in
    let r = a.request in
    let node = c.in-Some.node in
    let found = c.in-Ok.division.route in
    let u = shape_of c.reserve.new.self in
    let k = known_then c.args.searcher.now.asked c.reserve.ensures.same c.requires.tree c.in-Some.ensures.some (sym c.in-Some-carry.ensures.route) in
    let now = c.in-Some-carry.ensures.nodes in
    let e = then_is k c.args.bound c.needed_of.result c.in-Ok.division.searches now c.numbers.ensures (omega (arith, c.len.ensures)) c.in-Ok.ensures.ok in
    let s = numbers_are k c.numbers.ensures in
    let first : length c.reserve.new.self.winners.items ≡ length u.nodes = omega (arith, c.in_ok-reserve.ensures.room.count) in
    let stands = ap (λ z. slice_get z node.0) now ∙ there k in
    let best = c.in-Ok.ensures.found (without k.part) stands ∙ (λ i. best_for a c.args.bound (take k.part.length (s i)) (wide_of k.part (s i))) in
    let nodes = nodes_found k e.new e.nodes found ∙ (λ i. modify (widened (wide_of k.part k.route.contacts) (best i)) u.nodes node.0 ++ e.new) in
    let D = divided_into u node k.part k.route (best_for a c.args.bound (take k.part.length k.route.contacts) (wide_of k.part k.route.contacts)) e.new in
    let tree = subst (IsTree p r) (sym c.reserve.ensures.same) c.requires.tree in
    let shape = c.change.ensures.shape
    ∙ (λ i. given_by (record u { nodes = c.divide.new.nodes.items }) node (k.copied i) found (first i))
    ∙ (λ i. changed_by u node k.route (length u.nodes) (order_of (u.leaves ++ k.route ∷ []) (nodes i)) (nodes i))
    ∙ (λ i. record D { index = sym (tree_indexed p r D (tree_given p r c.requires.plan c.args.bound c.needed_of.result u tree node k.part k.route k.stands k.carries e.new (length k.route.contacts - k.part.length) c.in-Ok.division.searches e.found)) i }) in
    let given : GivenRoute = record { node = node; first = c.len-first.result; searches = c.in-Ok.division.searches } in
    subst (λ z. IsNextGiven (best_for a c.args.bound) c.args.needed z (shape_of c.change.new.self) given) c.reserve.ensures.same (record {
      part = k.part;
      route = k.route;
      stands = k.stands;
      former = (let long = length-modify without u.nodes node.0 in let same = ap (length {A = Node _}) now in omega (arith, c.len-first.ensures, long, same));
      carries = k.carries;
      least = k.least;
      new = e.new;
      found = found_where c.args.needed c.needed_of.result _ _ _ _ u.is_searched c.needed_of.ensures.yes c.needed_of.ensures.no e.found;
      shape = shape;
    })

pub give_back-requires : goal.give_back-requires
give_back-requires g c =
    let k = known_then c.args.searcher.now.asked c.reserve.ensures.same c.requires.tree c.in-Some.ensures.some (sym c.in-Some-carry.ensures.route) in
    record {
      in_range = (let l = still_there k c.divide.new.nodes.items c.numbers.ensures c.in-Some-carry.ensures.nodes (omega (arith, c.len-first.ensures)) c.truncate.ensures.items c.in-Err.ensures.err in omega (arith, l));
      longer = longer_again k c.divide.new.nodes.items c.numbers.ensures c.in-Some-carry.ensures.nodes (omega (arith, c.len-first.ensures)) c.truncate.ensures.items c.in-Err.ensures.err;
    }

pub returns-in-Err-clause-err : goal.returns-in-Err-clause-err
returns-in-Err-clause-err g c =
    let u = shape_of c.reserve.new.self in
    let k = known_then c.args.searcher.now.asked c.reserve.ensures.same c.requires.tree c.in-Some.ensures.some (sym c.in-Some-carry.ensures.route) in
    let nodes = given_again k c.divide.new.nodes.items c.numbers.ensures c.in-Some-carry.ensures.nodes (omega (arith, c.len-first.ensures)) c.truncate.ensures.items c.in-Err.ensures.err c.give_back.ensures in
    (λ i. record u { nodes = nodes i; index = order_of u.leaves (nodes i) }) ∙ c.reserve.ensures.same

pub returns-in-Err-clause-room : goal.returns-in-Err-clause-room
returns-in-Err-clause-room g c =
    let k = known_then c.args.searcher.now.asked c.reserve.ensures.same c.requires.tree c.in-Some.ensures.some (sym c.in-Some-carry.ensures.route) in
    let nodes = given_again k c.divide.new.nodes.items c.numbers.ensures c.in-Some-carry.ensures.nodes (omega (arith, c.len-first.ensures)) c.truncate.ensures.items c.in-Err.ensures.err c.give_back.ensures in
    let room = c.in_ok-reserve.ensures.room in
    let long = ap (length {A = Node _}) nodes in
    record {
      space = record { index = omega (arith, long, room.space.index); added = omega (arith, long, room.space.added); places = omega (arith, long, room.space.places) };
      won = subst (λ z. AreWinners z c.reserve.new.self.winners.items) (sym nodes) room.won;
      count = omega (arith, long, room.count);
    }

pub returns-in-Err-clause-at_most : goal.returns-in-Err-clause-at_most
returns-in-Err-clause-at_most g c =
    let same = c.reserve.ensures.same in
    let k = known c.args.searcher.now.asked c.requires.tree c.in-Some.ensures.some (ap (λ (z : Shape _). route_at z.nodes c.in-Some.node) (sym same) ∙ sym c.in-Some-carry.ensures.route) in
    let now = c.in-Some-carry.ensures.nodes ∙ ap (λ (z : Shape _). modify without z.nodes c.in-Some.node.0) same in
    counts_known c.requires.plan c.requires.tree k _ _ c.numbers.ensures (c.in-Err.ensures.at_most (without k.part) (ap (λ z. slice_get z c.in-Some.node.0) now ∙ there k))
