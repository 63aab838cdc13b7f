-- The text of a plan: lines from which reading makes the plan again, with the numbers of its contacts.
use Rattle.std.specs.Prelude.{◌≡◌, ℕ, zero, suc, ◌+◌, ◌-◌, true, List, [], ◌∷◌, ◌++◌, codes, decimal, length, map, Ok, if◌then◌else◌}
use Rattle.std.specs.List.{flat_map}
use Rattle.sabr_model.specs.declared.contact.Contact.{Contact}
use Rattle.sabr_model.specs.declared.contact.Range.{Range}
use Rattle.sabr_model.specs.plan.Plan.{ContactPlan, IsPlan, has}
use Rattle.sabr_plan.specs.Reading.{plan_of}
use Rattle.sabr_plan.specs.Times.{time_text_of}

-- words, each after a space
abbrev pub spaced_words : List (List ℕ) → List ℕ
spaced_words [] = []
spaced_words (w ∷ ws) = (32 ∷ w) ++ spaced_words ws

-- a line: a letter, words, and LF
abbrev pub command_line : ℕ → List (List ℕ) → List ℕ
command_line letter ws = letter ∷ (spaced_words ws ++ 10 ∷ [])

-- `a NAME START END ONE OTHER VALUE`
unfoldable pub addition_line : List ℕ → ℕ → ℕ → ℕ → ℕ → ℕ → List ℕ
addition_line name start end one other value =
    command_line 97 (name ∷ time_text_of start ∷ time_text_of end ∷ decimal one ∷ decimal other ∷ decimal value ∷ [])

-- `d contact START FROM TO`
unfoldable pub deletion_line : ℕ → ℕ → ℕ → List ℕ
deletion_line start from to = command_line 100 (codes "contact" ∷ time_text_of start ∷ decimal from ∷ decimal to ∷ [])

-- `a contact START END FROM TO RATE`
abbrev pub contact_line : Contact → List ℕ
contact_line c = addition_line (codes "contact") c.start c.end c.from c.to c.rate

-- `a range START END ONE OTHER LIGHT`
abbrev pub range_line : Range → List ℕ
range_line r = addition_line (codes "range") r.start r.end r.one r.other r.light

-- a contact from node 1 to node 2 that is added and deleted, n times: n numbers are given
unfoldable pub gap_text : ℕ → ℕ → List ℕ
gap_text start zero = []
gap_text start (suc n) = addition_line (codes "contact") start (start + 1) 1 2 0 ++ (deletion_line start 1 2 ++ gap_text start n)

-- contacts whose numbers are greater than `low`, with gaps for the numbers between, up to the largest one given
unfoldable pub contacts_text : ℕ → ℕ → ℕ → List Contact → List ℕ
contacts_text start largest low [] = gap_text start (largest - low)
contacts_text start largest low (c ∷ cs) = gap_text start (c.number - 1 - low) ++ (contact_line c ++ contacts_text start largest c.number cs)

-- the first of n + 1 numbers from q on that isn't in a list, or the last of them
unfoldable pub free_from : ℕ → ℕ → List ℕ → ℕ
free_from zero q xs = q
free_from (suc n) q xs = if has q xs then free_from n (q + 1) xs else q

-- the first second in which no contact starts
unfoldable pub free_start : List Contact → ℕ
free_start contacts = free_from (length contacts) 0 (map (λ c. c.start) contacts)

-- the text of a plan: its contacts by number, and its ranges by pair of nodes and start
unfoldable pub plan_text : ContactPlan → List ℕ
plan_text p = contacts_text (free_start p.contacts) p.largest 0 p.contacts ++ flat_map range_line p.ranges

-- a law: reading the text of a plan makes the plan again
abbrev pub PlanTextsReadBack : Type 0
PlanTextsReadBack = (p : ContactPlan) → IsPlan p → plan_of (plan_text p) true ≡ Ok p
