-- Steps, each of which may be refused.
use Rattle.std.specs.Prelude.{Result, Ok, Err}

-- the second step, applied to the result of the first
abbrev pub and_then : {A B E : Type 0} → Result A E → (A → Result B E) → Result B E
and_then (Ok x) next = next x
and_then (Err e) next = Err e

-- the result of a step, turned into something else
abbrev pub given_as : {A B E : Type 0} → (A → B) → Result A E → Result B E
given_as f (Ok x) = Ok (f x)
given_as f (Err e) = Err e
