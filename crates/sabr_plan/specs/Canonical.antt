-- The canonical text of a plan, and its digest.
use Rattle.std.specs.Prelude.{ℕ, List, [], ◌∷◌, ◌++◌, codes, decimal}
use Rattle.std.specs.List.{flat_map}
use Rattle.sha2.specs.Sha256.{sha256}
use Rattle.sabr_model.specs.plan.Plan.{ContactPlan}
use Rattle.sabr_model.specs.declared.contact.Contact.{Contact}
use Rattle.sabr_model.specs.declared.contact.Range.{Range}

-- numbers, each after a space
abbrev pub spaced_numbers : List ℕ → List ℕ
spaced_numbers [] = []
spaced_numbers (n ∷ ns) = (32 ∷ decimal n) ++ spaced_numbers ns

-- a line: a letter, numbers, and LF
abbrev pub record_line : ℕ → List ℕ → List ℕ
record_line letter ns = letter ∷ (spaced_numbers ns ++ 10 ∷ [])

-- `c NUMBER START END FROM TO RATE`
unfoldable pub contact_line : Contact → List ℕ
contact_line c = record_line 99 (c.number ∷ c.start ∷ c.end ∷ c.from ∷ c.to ∷ c.rate ∷ [])

-- `r ONE OTHER START END LIGHT`
unfoldable pub range_line : Range → List ℕ
range_line r = record_line 114 (r.one ∷ r.other ∷ r.start ∷ r.end ∷ r.light ∷ [])

-- the lines of the standing contacts by number, and of the standing ranges by pair of nodes and start
unfoldable pub canonical_text : ContactPlan → List ℕ
canonical_text p = codes "cgr-plan 1\n" ++ flat_map contact_line p.contacts ++ flat_map range_line p.ranges ++ codes "end\n"

-- a plan's digest, 32 numbers: SHA-256 of its canonical text
abbrev pub digest_of : ContactPlan → List ℕ
digest_of p = sha256 (canonical_text p)
