use Rattle.sabr_frontier.proofs.Names.{rules, ◌≡◌, ◌-◌, ◌<◌, ℕ, arith, ap, sym, subst, ◌∙◌, length, filter_same, NodeId, Shape, shape_of, CanUndoTimes, undone, undone_times, AreWinners}
use Rattle.std.specs.Prelude.{nat_lt}
use Rattle.std.specs.List.{filter}
use Rattle.sabr_frontier.proofs.SessionLemmas.Pages.{entries, entries_undone, can_undo_first, undone_first}
use Rattle.sabr_frontier.proofs.tree.Tree.undo_to.Goals as goal

pub loop-self-preserved : goal.loop-self-preserved
loop-self-preserved g c =
    let t = shape_of c.loop-self.self in
    let u = shape_of c.undo.new.self in
    let n : ℕ = length c.loop-self.self.journal.items - c.args.start in
    let positive : 0 < n = omega (arith, c.loop-self-test.true, c.len.ensures) in
    let first = can_undo_first n t positive c.loop-self.invariant.possible in
    let one = entries_undone t first.0 (omega (arith, positive)) in
    let left : n - 1 ≡ entries u - c.args.start = omega (arith, one, ap entries c.undo.ensures.former, positive) in
    record {
      possible = subst (CanUndoTimes (entries u - c.args.start)) (sym c.undo.ensures.former) (subst (λ m. CanUndoTimes m (undone t)) left first.1);
      index = c.undo.ensures.index ∙ c.loop-self.invariant.index;
      room = c.undo.ensures.room;
      former = ap (undone_times (entries u - c.args.start)) c.undo.ensures.former ∙ ap (λ m. undone_times m (undone t)) (sym left) ∙ sym (undone_first n t positive) ∙ c.loop-self.invariant.former;
    }

pub returns-clause-index : goal.returns-clause-index
returns-clause-index g c =
    let s = c.args.self.now in
    let none : length c.loop-self.self.journal.items - c.args.start ≡ 0 = omega (arith, c.loop-self-test.false, c.len.ensures) in
    let former = ap (λ n. undone_times n (shape_of c.loop-self.self)) (sym none) ∙ c.loop-self.invariant.former in
    let count : c.len-count.result ≡ length (undone_times (length s.journal.items - c.args.start) (shape_of s)).nodes = omega (arith, c.len-count.ensures, ap (λ (z : Shape g.row.A.Denot). length z.nodes) former) in
    filter_same _ (λ id. nat_lt id.0 c.len-count.result) _ (λ x b f' k. search rules) _ _ c.retain.ensures.filtered ∙ (λ i. filter (λ (id : NodeId). nat_lt id.0 (count i)) (c.loop-self.invariant.index i)) ∙ sym c.requires.index.index ∙ sym (ap (λ (z : Shape g.row.A.Denot). z.index) former)

pub returns-clause-room : goal.returns-clause-room
returns-clause-room g c =
    let s = c.args.self.now in
    let none : length c.loop-self.self.journal.items - c.args.start ≡ 0 = omega (arith, c.loop-self-test.false, c.len.ensures) in
    let former = ap (λ n. undone_times n (shape_of c.loop-self.self)) (sym none) ∙ c.loop-self.invariant.former in
    let room = c.loop-self.invariant.room in
    let count : c.len-count.result ≡ length (undone_times (length s.journal.items - c.args.start) (shape_of s)).nodes = omega (arith, c.len-count.ensures, ap (λ (z : Shape g.row.A.Denot). length z.nodes) former) in
    let index = filter_same _ (λ id. nat_lt id.0 c.len-count.result) _ (λ x b f' k. search rules) _ _ c.retain.ensures.filtered ∙ (λ i. filter (λ (id : NodeId). nat_lt id.0 (count i)) (c.loop-self.invariant.index i)) ∙ sym c.requires.index.index in
    let nodes = c.as_slice.ensures.value in
    record {
      space = record {
        index = omega (arith, room.index, c.retain.ensures.capacity);
        added = omega (arith, c.requires.index.whole, ap (length {A = NodeId}) index, ap (λ (z : Shape g.row.A.Denot). length z.nodes) former);
        places = omega (arith, room.places, c.rebuild.ensures.capacity);
      };
      won = subst (λ z. AreWinners z c.rebuild.new.winners.items) nodes c.rebuild.ensures.won;
      count = omega (arith, c.rebuild.ensures.len, c.as_slice.ensures.len);
    }
