-- Words at the front of a text, each after blanks.
use Rattle.std.specs.Prelude.{◌≡◌, ℕ, nat_le, ◌&&◌, Bool, List, ◌∷◌, ◌++◌, length, ◌<◌, codes, IsTrue}
use Rattle.std.specs.List.{list_all}
use Rattle.sabr_plan.specs.Words.{has_bytes, is_blank, is_one_line}
use Rattle.sabr_plan.specs.declared.command.Target.{Target}
use Rattle.sabr_plan.specs.declared.command.Target.TheVariants.{Contact, Range}

-- whether a byte is plain and no blank
abbrev pub is_graphic : ℕ → Bool
is_graphic b = nat_le 33 b && nat_le b 126

-- whether there are bytes, and each is graphic
abbrev pub is_graphic_word : List ℕ → Bool
is_graphic_word word = has_bytes word && list_all is_graphic word

-- a text begins with blanks, if any, and continues with the rest
pub record IsAfterBlanks (text rest : List ℕ) : Type 0 where
  pub blanks : List ℕ
  pub parts : text ≡ blanks ++ rest
  pub blank : IsTrue (list_all is_blank blanks)

-- a text begins with a word for which this holds, and continues with the rest
pub record IsFront (Holds : List ℕ → Type 0) (text rest : List ℕ) : Type 0 where
  pub word : List ℕ
  pub parts : text ≡ word ++ rest
  pub graphic : IsTrue (is_graphic_word word)
  pub holds : Holds word

-- the same after blanks, at least one
pub record IsAhead (Holds : List ℕ → Type 0) (text rest : List ℕ) : Type 0 where
  pub start : List ℕ
  pub gap : IsAfterBlanks text start
  pub some : length start < length text
  pub front : IsFront Holds start rest

-- a text begins with a line for which this holds, and continues after its LF with the rest
pub record BeginsWithLine (Holds : List ℕ → Type 0) (text rest : List ℕ) : Type 0 where
  pub line : List ℕ
  pub parts : text ≡ line ++ 10 ∷ rest
  pub one : IsTrue (is_one_line line)
  pub holds : Holds line

-- the word that names what is added
abbrev pub name_of : Target → List ℕ
name_of Contact = codes "contact"
name_of Range = codes "range"

-- a text begins with `a` and the name of what is added, and continues with the rest
pub record AddsAhead (target : Target) (text rest : List ℕ) : Type 0 where
  pub after_letter : List ℕ
  pub first : IsAfterBlanks text (97 ∷ after_letter)
  pub name : IsAhead (λ word. word ≡ name_of target) after_letter rest
