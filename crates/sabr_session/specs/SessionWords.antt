-- What the words of a session text mean.
use Rattle.std.specs.Prelude.{ℕ, nat_lt, nat_le, ◌&&◌, Bool, false, List, [], ◌∷◌, length, codes, option_map, option_and_then, map, if◌then◌else◌}
use Rattle.std.specs.Str.{bytes_eq}
use Rattle.sabr_model.specs.plan.Plan.{most_records}
use Rattle.sabr_plan.specs.Numbers.{number_within}
use Rattle.sabr_plan.specs.Pieces.{pieces_after, pieces_of}
use Rattle.std.specs.declared.option.Option.{Option}
use Rattle.std.specs.declared.option.Option.TheVariants.{Some, None}

-- the words of a text, separated by single spaces; an empty text has one empty word
abbrev pub words_of : List ℕ → List (List ℕ)
words_of text = pieces_of 32 text

-- the words after a space, if there is one
abbrev pub words_after : Option (List ℕ) → List (List ℕ)
words_after after = pieces_after 32 after

-- the values of all, if each has one
abbrev pub all_of : List (Option ℕ) → Option (List ℕ)
all_of [] = Some []
all_of (None ∷ os) = None
all_of (Some n ∷ os) = option_map (λ ns. n ∷ ns) (all_of os)

-- one or more, and at most this number
abbrev pub counted : ℕ → Option (List ℕ) → Option (List ℕ)
counted most found = option_and_then (λ ns. if nat_lt 0 (length ns) && nat_le (length ns) most then Some ns else None) found

-- the one word `-`
abbrev pub is_dash : List (List ℕ) → Bool
is_dash [] = false
is_dash (w ∷ []) = bytes_eq w (codes "-")
is_dash (w ∷ v ∷ ws) = false

-- a list: `-` for the empty one, or numbers within these bounds, one or more and at most this number
unfoldable pub list_within : ℕ → ℕ → ℕ → List (List ℕ) → Option (List ℕ)
list_within most low high words = if is_dash words then Some [] else counted most (all_of (map (number_within low high) words))

-- the largest number of 32 bits, the type of contact numbers, margins and limits on hops
abbrev pub most_number : ℕ
most_number = 4294967295

-- the contact numbers that all the words are
abbrev pub contact_numbers : List (List ℕ) → Option (List ℕ)
contact_numbers words = all_of (map (number_within 1 most_number) words)

-- the largest number of nodes that a request avoids
abbrev pub most_avoided : ℕ
most_avoided = 16

-- the nodes that all the words are, one to as many as a request avoids
abbrev pub node_numbers : List (List ℕ) → Option (List ℕ)
node_numbers words = counted most_avoided (all_of (map (number_within 0 18446744073709551615) words))

-- a list of contact numbers
abbrev pub contacts_of : List (List ℕ) → Option (List ℕ)
contacts_of words = list_within most_records 1 most_number words

-- a list of nodes
abbrev pub nodes_of : List (List ℕ) → Option (List ℕ)
nodes_of words = list_within most_avoided 0 18446744073709551615 words

-- the word `/`, which separates lists
abbrev pub is_slash : List ℕ → Bool
is_slash word = bytes_eq word (codes "/")

-- the words before the first `/`
abbrev pub before_slash : List (List ℕ) → List (List ℕ)
before_slash [] = []
before_slash (w ∷ ws) = if is_slash w then [] else w ∷ before_slash ws

-- the words after the first `/`, if there is one
abbrev pub after_slash : List (List ℕ) → List (List ℕ)
after_slash [] = []
after_slash (w ∷ ws) = if is_slash w then ws else after_slash ws
