-- Clauses on a `Result`, and what a result tells of the steps before it.
use Rattle.std.proofs.Common.{◌≡◌, Bool, true, false, cond, refl, Option, Some, None, Result, OnErr, Ok, Err, option_and_then}

-- what holds, holds also if a call failed
pub on_err : {T E P : Type 0} (r : Result T E) → P → OnErr r P
on_err (Ok x) p = tt
on_err (Err e) p = p

-- what a test let through
pub passed : {X : Type 0} (b : Bool) (o : Option X) (x : X) → cond b o None ≡ Some x → (b ≡ true) × (o ≡ Some x)
passed true o x e = (refl, e)
passed false o x e = absurd cc

-- what a function of an option's value had
pub had_value : {X Y : Type 0} (f : X → Option Y) (o : Option X) (y : Y) → option_and_then f o ≡ Some y → (x : X) × (o ≡ Some x) × (f x ≡ Some y)
had_value f None y e = absurd cc
had_value f (Some x) y e = (x, refl, e)

-- if there is no fault, a check found none
pub unfailed : {F : Type 0} (b : Bool) (f : F) (o : Option F) → cond b (Some f) o ≡ None → (b ≡ false) × (o ≡ None)
unfailed true f o e = absurd cc
unfailed false f o e = (refl, e)
