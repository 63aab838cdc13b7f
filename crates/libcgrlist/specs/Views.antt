-- What C sees of a plan: its counts, contacts, ranges and nodes.
use Rattle.std.specs.Prelude.{◌≡◌, ℕ, is_some, length, unwrap_or, Option, None, Some, ◌↔◌, ◌⊎◌, Contains, List}
use Rattle.sabr_model.specs.declared.contact.Contact.{Contact}
use Rattle.sabr_model.specs.declared.contact.Range.{Range}
use Rattle.sabr_model.specs.plan.Light.{light_of}
use Rattle.sabr_model.specs.plan.Plan.{ContactPlan}
use Rattle.sabr_model.specs.plan.Table.{node_count, ends_of}
use Rattle.sabr_plan.specs.WithoutLight.{contacts_without_light}
use Rattle.libcgrlist.specs.Status.{done, no, no_memory}
use Rattle.libcgrlist.specs.declared.views.Counts.{Counts}
use Rattle.libcgrlist.specs.declared.views.ContactRow.{ContactRow}
use Rattle.libcgrlist.specs.declared.views.RangeRow.{RangeRow}
use Rattle.std.specs.List.Sorted.{IsStrictlyIncreasing}
use Rattle.libcgrlist.specs.Buffers.{PutsWhole}

-- how many contacts and ranges stand, how many nodes send or receive a standing contact, how many standing contacts
-- have no light time at their start, and the largest number ever assigned
abbrev pub counts_of : ContactPlan → Counts
counts_of p = record {
  contacts = length p.contacts;
  ranges = length p.ranges;
  nodes = node_count p.contacts;
  without_light = contacts_without_light p;
  greatest = p.largest;
}

-- a contact with its light time, 0 if it has none
abbrev pub contact_row : Contact → Option ℕ → ContactRow
contact_row c light = record {
  from = c.from;
  to = c.to;
  start = c.start;
  end = c.end;
  rate = c.rate;
  number = c.number;
  light = unwrap_or light 0;
  has_light = is_some light;
}

-- the contact is there and given, or there is none and nothing is given
abbrev pub Gives : ContactPlan → Option Contact → ℕ → ContactRow → ContactRow → Type 0
Gives p (Some c) status old new = (status ≡ done) × (new ≡ contact_row c (light_of p c))
Gives p None status old new = (status ≡ no) × (new ≡ old)

-- a range as it stands
abbrev pub range_row : Range → RangeRow
range_row r = record { one = r.one; other = r.other; start = r.start; end = r.end; light = r.light }

-- the range is there and given, or there is none and nothing is given
abbrev pub GivesRange : Option Range → ℕ → RangeRow → RangeRow → Type 0
GivesRange (Some r) status old new = (status ≡ done) × (new ≡ range_row r)
GivesRange None status old new = (status ≡ no) × (new ≡ old)

-- the nodes that send or receive some contact, each once, in ascending order
pub record AreNodesOf (contacts : List Contact) (nodes : List ℕ) : Type 0 where
  pub rise : IsStrictlyIncreasing nodes
  pub ends : (node : ℕ) → Contains nodes node ↔ Contains (ends_of contacts) node

-- an allocation fails, and nothing is given; or the nodes are put, and their number is given
abbrev pub AnswersNodes : List Contact → ℕ → List ℕ → List ℕ → ℕ → ℕ → Type 0
AnswersNodes contacts status old new count_old count_new =
    ((status ≡ no_memory) × (new ≡ old) × (count_new ≡ count_old))
    ⊎ ((nodes : List ℕ) × AreNodesOf contacts nodes × PutsWhole nodes status old new × (count_new ≡ length nodes))
