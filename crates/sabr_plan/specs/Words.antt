-- The lines of a text, and the words of a line.
use Rattle.std.specs.Prelude.{ℕ, ◌==◌, nat_lt, nat_le, not, ◌&&◌, ◌||◌, Bool, List, [], ◌∷◌, length, slice_index, if◌then◌else◌}
use Rattle.std.specs.List.{slice_split, filter, list_all}

-- tabs and spaces separate words
abbrev pub is_blank : ℕ → Bool
is_blank b = (b == 9) || (b == 32)

-- what a line may have that is no comment: tabs, and the bytes 32 to 126
abbrev pub is_plain : ℕ → Bool
is_plain b = (b == 9) || (nat_le 32 b && nat_le b 126)

-- a comment begins with `#`
abbrev pub is_comment : List ℕ → Bool
is_comment line = slice_index line 0 == 35

-- whether there is a byte
abbrev pub has_bytes : List ℕ → Bool
has_bytes word = nat_lt 0 (length word)

-- the words of a line: the parts between blanks
unfoldable pub words_of : List ℕ → List (List ℕ)
words_of line = filter has_bytes (slice_split is_blank line)

-- whether there is no LF among these bytes
abbrev pub is_one_line : List ℕ → Bool
is_one_line bytes = list_all (λ b. not (b == 10)) bytes

-- a text: the lines that LF ends, and the bytes after the last LF
pub record TextLines : Type 0 where
  pub ended : List (List ℕ)
  pub open_line : List ℕ

-- the lines with a byte put before the first one
abbrev pub before_lines : ℕ → TextLines → TextLines
before_lines b t = elim t.ended [
  | [] ↦ record { ended = []; open_line = b ∷ t.open_line }
  | line ∷ lines ↦ record { ended = (b ∷ line) ∷ lines; open_line = t.open_line }
]

-- the lines of a text
unfoldable pub lines_of : List ℕ → TextLines
lines_of [] = record { ended = []; open_line = [] }
lines_of (b ∷ bytes) =
    let t = lines_of bytes in
    if b == 10 then record { ended = [] ∷ t.ended; open_line = t.open_line } else before_lines b t
