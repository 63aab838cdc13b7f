use Rattle.sabr_plan.proofs.Names.{◌<◌, length, arith, lt-ltb, le-ltb}
use Rattle.sabr_plan.proofs.TreedOpenings.{treed_skip, treed_more}
use Rattle.sabr_plan.proofs.gathering.opening_tree.OpeningTree.add_all.Goals.{then-contact+in-Ok, else-contact}
use Rattle.sabr_plan.proofs.gathering.opening_tree.OpeningTree.add_all.Goals as goal

pub loop-self-preserved : goal.loop-self-preserved
loop-self-preserved g c =
    let s = c.loop-self.self in
    let cs = c.args.contacts.now in
    let more : s.treed < length cs = let test = c.loop-self-test.true in omega (arith, test) in
    elim c.if-contact.branch [
      | then-contact+in-Ok w ↦ rw w.self-is (treed_more s.indexes s.treed cs c.loop-self.invariant more w.insert.new.self c.requires.apart (lt-ltb _ _ w.if-contact.true) (w.in-Ok.ensures {u = tt}).updates)
      | else-contact w ↦ rw w.self-is (treed_skip s.indexes s.treed cs c.loop-self.invariant more (le-ltb _ _ w.if-contact.false))
    ]
