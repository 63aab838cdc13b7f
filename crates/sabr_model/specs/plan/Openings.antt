-- What no two contacts share: sender, receiver and start.
use Rattle.std.specs.Prelude.{◌≡◌, ℕ, ◌<◌, ◌≤◌, List, length, slice_index_or}
use Rattle.std.specs.BTreeMap.{BTreeMap, get}
use Rattle.std.specs.declared.option.Option.TheVariants.{Some}
use Rattle.sabr_model.specs.declared.contact.Contact.{Contact}
use Rattle.sabr_model.specs.declared.opening.Opening.{Opening}
use Rattle.sabr_model.specs.Order.{by_key}

-- the sender, the receiver and the start of a contact
abbrev pub opening_of : Contact → Opening
opening_of c = record { from = c.from; to = c.to; start = c.start }

-- the same as a key
abbrev pub contact_key : Contact → ℕ × ℕ × ℕ
contact_key c = (c.from, c.to, c.start)

-- the map has the numbers of the first contacts
pub record IsNoted (numbers : BTreeMap (ℕ × ℕ × ℕ) ℕ) (noted : ℕ) (contacts : List Contact) : Type 0 where
  pub within : noted ≤ length contacts
  pub found : (k : ℕ) (d : Contact) → k < noted → get by_key numbers (contact_key (slice_index_or contacts k d)) ≡ Some (slice_index_or contacts k d).number
