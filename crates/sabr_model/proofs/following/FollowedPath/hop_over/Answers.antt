use Rattle.sabr_model.proofs.ListLemmas.Names.{◌≡◌, Some, rules, sym, subst, ◌∙◌, Contact, contact_named, IsHopOf}
use Rattle.sabr_model.proofs.RouteLemmas.Follows.{hop_arrives, hop_is_small, reached_on}
use Rattle.sabr_model.proofs.following.FollowedPath.hop_over.Goals as goal

pub arrive-requires : goal.arrive-requires
arrive-requires g c =
    let hop = c.in-Some-hop.ensures {u = tt} in
    hop_is_small c.args.plan.now c.args.number hop.contact c.in-Some-hop.hop c.requires.path.rules hop.named hop.is

pub returns-clause-arrives : goal.returns-clause-arrives
returns-clause-arrives g c =
    let p = c.args.plan.now in
    let contact : Contact = c.in-Some.contact.now in
    let hop = c.in-Some-hop.ensures {u = tt} in
    let named : contact_named p.plan c.args.number ≡ Some contact = search rules in
    let one : hop.contact ≡ contact = (let q : Some hop.contact ≡ Some contact = sym hop.named ∙ named in cc (q)) in
    let is : IsHopOf p contact c.in-Some-hop.hop = subst (λ (d : Contact). IsHopOf p d c.in-Some-hop.hop) one hop.is in
    sym (hop_arrives p c.args.request.now c.args.self.now.here.at contact c.in-Some-hop.hop is) ∙ sym c.arrive.ensures ∙ c.in-Some-arrive.is

pub returns-clause-reached : goal.returns-clause-reached
returns-clause-reached g c =
    let here = c.args.self.now.here in
    let contact : Contact = c.in-Some.contact.now in
    let named : contact_named c.args.plan.now.plan c.args.number ≡ Some contact = search rules in
    let same : here.node ≡ contact.from = search rules in
    reached_on c.args.plan.now.plan c.args.request.now c.args.front.now c.args.number contact here c.in-Some-arrive.arrived named c.requires.path.reached same (returns-clause-arrives g c)
