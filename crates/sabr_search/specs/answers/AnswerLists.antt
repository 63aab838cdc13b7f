-- The lists of a cached answer.
use Rattle.std.specs.Prelude.{ℕ, List}

-- the numbers that no way takes first, the nodes that were forbidden, and the best way: no numbers where there is none
pub record AnswerLists : Type 0 where
  pub excluded : List ℕ
  pub forbidden : List ℕ
  pub way : List ℕ
