use Rattle.sabr_frontier.proofs.Names.{length, map, ap, ◌∙◌, shape_of, Seen, seen_part}
use Rattle.sabr_frontier.specs.session.Views.{seen_at}
use Rattle.sabr_frontier.proofs.SessionLemmas.Pages.{sound_tree}
use Rattle.sabr_frontier.proofs.TreeLemmas.SoundSteps.{seen_all}
use Rattle.sabr_frontier.proofs.session.Session.parts.Goals as goal

pub returns : goal.returns
returns g c =
    let s = c.self.inside in
    let t = shape_of s.tree in
    (λ i. map (seen_at (c.as_slice-3.ensures.value i) (c.as_slice-2.ensures.value i)) ((c.as_slice.ensures.value ∙ c.self.invariant.0.index) i))
    ∙ seen_all s.searcher.asked.plan.plan s.searcher.asked.request t (sound_tree s.searcher.asked.plan.plan s.searcher.asked.request (length t.journal) t c.self.invariant.0.sound) t.index
    ∙ ap (λ (v : Seen). map (seen_part v.plan.plan v.request) v.state.parts) c.self.view_is
