-- The bucket of each element is what the call returns for it.
use Rattle.sabr_plan.proofs.Names.{refl, ap, ◌∙◌, arith}
use Rattle.std.proofs.lemmas.Fn.{says_at}
use Rattle.sabr_plan.proofs.ChainedPlaces.{bucket_at}
use Rattle.sabr_plan.proofs.gathering.chains.Chains.add_all.Goals as goal

pub push-requires : goal.push-requires
push-requires g c = let low = c.requires.limit _ _ (says_at g.F.Fn c.bucket_of-bucket.ensures refl) in omega (arith, low, c.loop-bucket_of.invariant.sized)

pub loop-bucket_of-preserved : goal.loop-bucket_of-preserved
loop-bucket_of-preserved g c =
    let s = c.loop-bucket_of in
    let at = c.len-in-loop-bucket_of in
    let push = c.in_ok-push.ensures {u = tt} in
    record {
      sized = omega (arith, s.invariant.sized, c.push.ensures.sized);
      within = omega (arith, push.longer, c.loop-bucket_of-test.true, c.len.ensures, s.self.befores.ok);
      chained = λ of told h.
          push.ok _ (s.invariant.chained of told h)
          (bucket_at of c.args.list.now _ at.result _ _ (omega (arith, at.ensures, s.self.befores.ok)) (omega (arith, c.loop-bucket_of-test.true, c.len.ensures, at.ensures)) (told _ _ (says_at g.F.Fn c.bucket_of-bucket.ensures refl) ∙ ap of c.index-list-len.is));
    }
