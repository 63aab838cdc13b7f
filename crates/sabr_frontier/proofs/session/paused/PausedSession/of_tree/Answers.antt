use Rattle.sabr_frontier.proofs.Names.{◌≡◌, length, reverse, ap, sym, subst, RouteRequest, AreStarts, IsSession, IsSoundFor, former_of, session_over, shape_of, shown}
use Rattle.sabr_frontier.proofs.session.paused.PausedSession.of_tree.Goals as goal

pub returns-clause-paused : goal.returns-clause-paused
returns-clause-paused g c =
    let q = c.args.question in
    let p = q.plan.now in
    let none : length c.args.tree.journal.items ≡ 0 = ap length c.requires.fresh in
    record {
      session = subst (λ (r : RouteRequest). IsSession p r c.args.tree c.new-2.result.items) (sym c.new.ensures.request) (record {
        rules = c.requires.rules;
        limits = c.requires.limits;
        sound = subst (λ n. IsSoundFor p.plan q.request n (shape_of c.args.tree)) (sym none) c.requires.sound;
        starts = subst (λ z. AreStarts (reverse z) (length c.args.tree.journal.items)) (sym c.new-2.ensures.items) none;
        index = c.requires.index;
        room = c.requires.room;
      });
      cache = c.new.ensures.cache p;
    }

pub returns-clause-seen : goal.returns-clause-seen
returns-clause-seen g c =
    let q = c.args.question in
    let t = shape_of c.args.tree in
    λ i. record (session_over q.plan.now (c.new.ensures.request i) (shown t) (g.B.BestOf.calls_of (c.new.ensures.finder i))) { former = former_of (reverse (c.new-2.ensures.items i)) t }
