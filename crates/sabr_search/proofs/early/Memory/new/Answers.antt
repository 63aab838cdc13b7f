use Rattle.std.proofs.Common.{length, ap, arith}
use Rattle.sabr_search.proofs.early.Memory.new.Goals as goal

pub returns : goal.returns
returns g c = λ p r. (c.new.ensures p r, c.new-3.ensures p r, (λ k d less. absurd (omega (arith, less, ap length c.new-2.ensures)), omega (arith, ap length c.new-2.ensures)))
