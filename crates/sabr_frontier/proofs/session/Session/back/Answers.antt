use Rattle.sabr_frontier.proofs.Names.{◌≡◌, ◌-◌, ◌<◌, ◌∷◌, length, reverse, arith, ap, sym, subst, ◌∙◌, Shape, shape_of, shown, AreStarts, IsSound, Seen, former_of, IsIndexBack, undone_times}
use Rattle.sabr_frontier.proofs.SessionLemmas.Pages.{sound_undos, sound_back, last_first}
use Rattle.sabr_frontier.proofs.TreeLemmas.MergedIndex.{index_back}
use Rattle.sabr_frontier.proofs.session.Session.back.Goals as goal

pub undo_to-requires-clause-possible : goal.undo_to-requires-clause-possible
undo_to-requires-clause-possible g c =
    let s = c.self.inside in
    sound_undos s.searcher.asked.plan.plan s.searcher.asked.request (length s.tree.journal.items - c.in-Some.start) (length s.tree.journal.items) (shape_of s.tree) (omega arith) c.self.invariant.0.sound

pub undo_to-requires-clause-index : goal.undo_to-requires-clause-index
undo_to-requires-clause-index g c =
    let s = c.self.inside in
    let t = shape_of s.tree in
    let m = length t.journal - c.in-Some.start in
    subst (IsIndexBack (undone_times m t)) (sym c.self.invariant.0.index) (index_back s.searcher.asked.plan.plan s.searcher.asked.request t m (omega arith) c.self.invariant.0.sound)

pub invariant_of-self-2 : goal.invariant_of-self-2
invariant_of-self-2 g c =
    let s = c.self.inside in
    let p = s.searcher.asked.plan.plan in
    let r = s.searcher.asked.request in
    let t = shape_of s.tree in
    let start = c.in-Some.start in
    let rest = reverse c.pop.new.self.items in
    let pages : reverse s.pages.items ≡ start ∷ rest = ap reverse c.in-Some.ensures.items ∙ last_first c.pop.new.self.items start in
    let starts = subst (λ z. AreStarts z (length s.tree.journal.items)) pages c.self.invariant.0.starts in
    let less : start < length s.tree.journal.items = starts.0 in
    let before = sound_back p r t start (omega (arith, less)) c.self.invariant.0.sound in
    let same = c.undo_to.ensures.former in (
      record {
        rules = c.self.invariant.0.rules;
        limits = c.self.invariant.0.limits;
        sound = subst (IsSound p r) (sym same) before.0;
        starts = subst (AreStarts rest) (sym (ap (λ (z : Shape g.row.A.Denot). length z.journal) same ∙ before.1)) starts.1;
        index = c.undo_to.ensures.index;
        room = c.undo_to.ensures.room;
      },
      c.self.invariant.1,
    )

pub returns-clause-yes : goal.returns-clause-yes
returns-clause-yes g c = λ is_yes.
    let s = c.self.inside in
    let t = shape_of s.tree in
    let rest = reverse c.pop.new.self.items in
    let pages : reverse s.pages.items ≡ c.in-Some.start ∷ rest = ap reverse c.in-Some.ensures.items ∙ last_first c.pop.new.self.items c.in-Some.start in
    let was : c.args.self.now.former ≡ former_of (reverse s.pages.items) t = sym (ap (λ (x : Seen). x.former) c.self.view_is) in
    ap (λ z. shown z ∷ former_of rest z) c.undo_to.ensures.former ∙ sym (was ∙ ap (λ xs. former_of xs t) pages)
