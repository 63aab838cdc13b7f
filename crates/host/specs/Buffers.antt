-- What writing to the front of a buffer leaves.
use Rattle.std.specs.Prelude.{ℕ, Some, true, List, [], ◌∷◌, ◌++◌}
use Rattle.sabr_model.specs.Devices.{Output}

-- a buffer after as much of a list as there is room for was written to its front
abbrev pub put_over : {X : Type 0} → List X → List X → List X
put_over [] xs = []
put_over (b ∷ bs) [] = b ∷ bs
put_over (b ∷ bs) (x ∷ xs) = x ∷ put_over bs xs

-- what a contract sees of a writer into a buffer. Its contents are the name of the loan, what the buffer held at first,
-- and the bytes taken since: a call that only adds bytes keeps the loan and the buffer
abbrev pub buffer_output : ℕ → List ℕ → List ℕ → ℕ → Output
buffer_output loan before taken failures =
    record { contents = Some (loan ∷ before ++ taken); taken = taken; failures = failures; flushed = true }
