-- What a plan knows of its contacts: where their nodes are in its table, and their light times.
use Rattle.std.specs.Prelude.{◌≡◌, ℕ, ◌<◌, ◌==◌, Bool, false, IsTrue, List, [], if◌then◌else◌, length, slice_get, slice_index_or}
use Rattle.std.specs.declared.option.Option.{Option}
use Rattle.std.specs.declared.option.Option.TheVariants.{Some, None}
use Rattle.sabr_model.specs.declared.contact.Contact.{Contact}
use Rattle.sabr_model.specs.declared.contact.Range.{Range}
use Rattle.sabr_model.specs.declared.plan.known.Known.{Known}
use Rattle.sabr_model.specs.plan.Light.{light_of}

-- the light time of a stored number: none if it is the largest of 32 bits
abbrev pub light_of_word : ℕ → Option ℕ
light_of_word word = if word == 4294967295 then None else Some word

-- these are the indexes of a contact's sender and receiver in the table, and, if the plan is lit, its light time
pub record IsKnown (table : List ℕ) (ranges : List Range) (lit : Bool) (c : Contact) (e : Known) : Type 0 where
  pub from : slice_get table e.from ≡ Some c.from
  pub to : slice_get table e.to ≡ Some c.to
  pub light : IsTrue lit → light_of_word e.light ≡ light_of (record { contacts = []; ranges = ranges; largest = 0 }) c

-- each contact is known, in the same order
pub record AreKnown (table : List ℕ) (ranges : List Range) (lit : Bool) (contacts : List Contact) (known : List Known) : Type 0 where
  pub as_many : length known ≡ length contacts
  pub each : (k : ℕ) (d : Contact) (e : Known) → k < length contacts → IsKnown table ranges lit (slice_index_or contacts k d) (slice_index_or known k e)

-- the indexes of each contact's nodes are known
abbrev pub AreEnds : List ℕ → List Contact → List Known → Type 0
AreEnds table contacts known = AreKnown table [] false contacts known
