use Rattle.sabr_frontier.proofs.Names.{refl, sym, subst, Option, RouteRecord, AreNoted, keys_of}
use Rattle.sabr_frontier.proofs.GivingLemmas.KeptKeys.{kept_all}
use Rattle.sabr_frontier.proofs.giving.smallest_keys.SmallestKeys.note_carried.Goals as goal

pub key_of-requires : goal.key_of-requires
key_of-requires g c = c.requires c.in-Some.route c.in-Some.is

pub returns-in-None : goal.returns-in-None
returns-in-None g c = subst (λ (o : Option RouteRecord). AreNoted c.args.self.now (keys_of o) c.args.self.now) (sym c.in-None.is) (record {
  most = refl;
  least = kept_all c.args.self.now.most c.args.self.now.keys c.few_hold.ensures;
})
