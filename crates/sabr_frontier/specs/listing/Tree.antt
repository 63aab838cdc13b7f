-- The remaining parts of all routes, after those of a set are taken (Yen, Lawler).
use Rattle.std.specs.Prelude.{ℕ, List, [], ◌∷◌, map, Option, Some, None}
use Rattle.std.specs.Ordering.{nat_cmp}
use Rattle.sabr_model.specs.Order.{put_in, in_order, by_numbers}
use Rattle.sabr_model.specs.routes.Parts.{number_after}

-- the beginnings of s that are shorter than s
abbrev pub proper_beginnings : List ℕ → List (List ℕ)
proper_beginnings [] = []
proper_beginnings (x ∷ s) = [] ∷ map (λ b. x ∷ b) (proper_beginnings s)

-- the list with the number inserted in its place, if there is one
abbrev pub put_number : Option ℕ → List ℕ → List ℕ
put_number None xs = xs
put_number (Some x) xs = put_in nat_cmp x xs

-- the numbers that members take after p, in increasing order
abbrev pub numbers_after : List ℕ → List (List ℕ) → List ℕ
numbers_after p [] = []
numbers_after p (s ∷ S) = put_number (number_after p s) (numbers_after p S)

-- the list with each of these inserted in its place
abbrev pub put_all : List (List ℕ) → List (List ℕ) → List (List ℕ)
put_all [] ps = ps
put_all (q ∷ qs) ps = put_in by_numbers q (put_all qs ps)

-- the empty list and each proper beginning of a member, in order
abbrev pub prefixes : List (List ℕ) → List (List ℕ)
prefixes [] = [] ∷ []
prefixes (s ∷ S) = put_all (proper_beginnings s) (prefixes S)

-- the members in order, each once
abbrev pub set_of : List (List ℕ) → List (List ℕ)
set_of S = in_order by_numbers S

-- each prefix with the numbers that are excluded after it; for the empty set, the empty prefix alone, with nothing
-- excluded
abbrev pub tree : List (List ℕ) → List (List ℕ × List ℕ)
tree S = map (λ p. (p, numbers_after p S)) (prefixes S)
