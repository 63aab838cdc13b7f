-- What a page keeps of the routes that it finds.
use Rattle.std.specs.Prelude.{Result, IfOk, Ok, Err}
pub mod KeptKeys
pub mod Sums
pub mod CutPages

-- what a call that succeeded gives, and what follows from it
pub then_ok : {T E : Type 0} {P Q : T → Type 0} (r : Result T E) → IfOk r P → ((x : T) → P x → Q x) → IfOk r Q
then_ok (Ok x) h f = f x h
then_ok (Err e) h f = tt
