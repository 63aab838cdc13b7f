use Rattle.std.proofs.Common.{take}
use Rattle.sabr_index.specs.Linking.{numbers_at, ArePassesMore}
use Rattle.sabr_index.proofs.building.push_passes.Given as goal

abbrev pub invariant-loop-place : goal.invariant-loop-place
invariant-loop-place g l = ArePassesMore l.plan (take l.place-index (numbers_at l.plan.plan.contacts l.places)) l.fn.passes.items l.passes.items
