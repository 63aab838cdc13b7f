-- Lists that rise strictly, as finite sets.
use Rattle.std.specs.Prelude.{◌≡◌, Bool, false, ◌||◌, List, [], ◌∷◌}
use Rattle.std.specs.Ordering.{is_eq}
use Rattle.std.specs.declared.cmp.Ordering.{Ordering}
use Rattle.std.specs.declared.cmp.Ordering.TheVariants.{Less}

module _ {K : Type 0} (R : K → K → Ordering) where
  -- whether the key is one of these
  abbrev pub has : K → List K → Bool
  has q [] = false
  has q (x ∷ xs) = is_eq (R q x) || has q xs

  -- below each of these
  abbrev pub Below : K → List K → Type 0
  Below x [] = Unit {0}
  Below x (y ∷ ys) = (R x y ≡ Less) × Below x ys

  -- each is below all that come after it
  abbrev pub Rises : List K → Type 0
  Rises [] = Unit {0}
  Rises (x ∷ xs) = Below x xs × Rises xs
