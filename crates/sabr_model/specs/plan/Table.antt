-- The table of nodes of a plan: for each node the numbers of the contacts that it sends.
use Rattle.std.specs.Prelude.{◌≡◌, ℕ, ◌==◌, Bool, not, List, [], ◌∷◌, ◌++◌, map, nat_eq, unwrap_or, slice_get, Vec, if◌then◌else◌}
use Rattle.std.specs.List.{filter, flat_map}
use Rattle.std.specs.Option.{option_map}
use Rattle.std.specs.Bool.{then_some}
use Rattle.std.specs.Set.{distinct_count}
use Rattle.std.specs.declared.option.Option.{Option}
use Rattle.std.specs.declared.option.Option.TheVariants.{Some}
use Rattle.indexmap.specs.IndexMap.{IndexMap, get, IsUnique}
use Rattle.sabr_model.specs.declared.contact.Contact.{Contact}
use Rattle.sabr_model.specs.plan.Plan.{has}

-- the numbers of the contacts that a node sends
abbrev pub sent_by : List Contact → ℕ → List ℕ
sent_by contacts node = map (λ c. c.number) (filter (λ c. node == c.from) contacts)

-- the contacts except the one with this number
abbrev pub without_number : ℕ → List Contact → List Contact
without_number n contacts = filter (λ c. not (c.number == n)) contacts

-- the senders and receivers of the contacts
abbrev pub ends_of : List Contact → List ℕ
ends_of contacts = flat_map (λ c. c.from ∷ c.to ∷ []) contacts

-- the number of nodes that send or receive some contact
abbrev pub node_count : List Contact → ℕ
node_count contacts = distinct_count nat_eq (ends_of contacts)

-- the numbers that the table has for a node, in ascending order
abbrev pub list_at : {S A : Type 0} → IndexMap ℕ (Vec ℕ A) S → ℕ → Option (List ℕ)
list_at table node = option_map (λ v. v.items) (get nat_eq table node)

-- a node's ascending list after a contact with this number was added, if the node is its sender
abbrev pub with_number : Option (List ℕ) → Bool → ℕ → Option (List ℕ)
with_number o is_from number = if is_from then Some (unwrap_or o [] ++ number ∷ []) else o

-- a node's list after a contact was added, if the node is its receiver
abbrev pub with_node : Option (List ℕ) → Bool → Option (List ℕ)
with_node o is_to = if is_to then Some (unwrap_or o []) else o

-- a node's list after a contact with this number was added; the node is its sender, its receiver or neither
abbrev pub with_ends : Option (List ℕ) → Bool → Bool → ℕ → Option (List ℕ)
with_ends o is_from is_to number = with_node (with_number o is_from number) is_to

-- each node of a list is at the same index of another list
abbrev pub KeepsPlaces : List ℕ → List ℕ → Type 0
KeepsPlaces old new = (k n : ℕ) → slice_get old k ≡ Some n → slice_get new k ≡ Some n

-- the table has each node of the contacts with the numbers that it sends, and nothing else
pub record IsTableOf {S A : Type 0} (contacts : List Contact) (table : IndexMap ℕ (Vec ℕ A) S) : Type 0 where
  pub unique : IsUnique nat_eq table
  pub lists : (node : ℕ) → list_at table node ≡ then_some (has node (ends_of contacts)) (sent_by contacts node)
