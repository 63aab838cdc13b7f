-- Worked session texts of plan A.
use Rattle.std.specs.Prelude.{ℕ, List, [], ◌∷◌, ◌++◌, codes}

-- the digest of plan A
abbrev pub digest_of_a : List ℕ
digest_of_a =
    20 ∷ 19 ∷ 50 ∷ 252 ∷ 138 ∷ 70 ∷ 157 ∷ 86 ∷ 68 ∷ 45 ∷ 3 ∷ 35 ∷ 177 ∷ 54 ∷ 249 ∷ 229
    ∷ 255 ∷ 47 ∷ 72 ∷ 89 ∷ 0 ∷ 79 ∷ 150 ∷ 101 ∷ 60 ∷ 222 ∷ 183 ∷ 96 ∷ 21 ∷ 162 ∷ 165 ∷ 31 ∷ []

-- the lines 2 and 3 of each text of plan A from 1 to 3, in version 2
abbrev pub head_of_a : List ℕ
head_of_a = codes "plan 141332fc8a469d56442d0323b136f9e5ff2f4859004f96653cdeb76015a2a51f\nrequest 1 3 2030/01/01-00:00:00 0 20000 / -\n"

-- before any route and after one, two and three
abbrev pub start_text_of_a : List ℕ
start_text_of_a = codes "cgr-session 2\n" ++ (head_of_a ++ codes "emitted 0\nlast -\nparts 1\npart - / - / 1 4\nend\n")

abbrev pub text_of_a_after_1 : List ℕ
text_of_a_after_1 = codes "cgr-session 2\n" ++ (head_of_a ++ codes "emitted 1\nlast 1 4\nparts 2\npart - / 1 / 3\npart 1 / 4 / 1 2\nend\n")

abbrev pub text_of_a_after_2 : List ℕ
text_of_a_after_2 = codes "cgr-session 2\n" ++ (head_of_a ++ codes "emitted 2\nlast 1 2\nparts 2\npart - / 1 / 3\npart 1 / 2 4 / -\nend\n")

abbrev pub text_of_a_after_3 : List ℕ
text_of_a_after_3 = codes "cgr-session 2\n" ++ (head_of_a ++ codes "emitted 3\nlast 3\nparts 2\npart - / 1 3 / -\npart 1 / 2 4 / -\nend\n")

-- after two, in version 1
abbrev pub old_text_of_a_after_2 : List ℕ
old_text_of_a_after_2 = codes "cgr-session 1\nplan 141332fc8a469d56442d0323b136f9e5ff2f4859004f96653cdeb76015a2a51f\nrequest 1 3 2030/01/01-00:00:00 0\nemitted 2\nlast 1 2\nparts 2\npart - / 1 / 3\npart 1 / 2 4 / -\nend\n"
