-- A node's links: its standing contacts with a light time by receiver, and by start on each link.
use Rattle.std.specs.Prelude.{IsTrue, ◌≡◌, ℕ, ◌+◌, ◌-◌, ◌<◌, ◌≤◌, ◌==◌, List, All, length, map, take, drop, slice_get}
use Rattle.std.specs.List.{sum_by, flat_map, filter}
use Rattle.std.specs.declared.option.Option.TheVariants.{Some}
use Rattle.sabr_model.specs.declared.contact.Contact.{Contact}
use Rattle.sabr_index.specs.declared.link.Pass.{Pass}
use Rattle.sabr_index.specs.declared.link.Link.{Link}
use Rattle.sabr_index.specs.declared.link.LinkBounds.{LinkBounds}
use Rattle.sabr_model.specs.plan.Plan.{TabledPlan, contact_named, are_different}
use Rattle.sabr_model.specs.plan.Light.{light_of}
use Rattle.sabr_model.specs.plan.Table.{sent_by}

-- the pass is a standing contact from one node to another that has a light time
pub record IsPassOf (p : TabledPlan) (node to : ℕ) (x : Pass) : Type 0 where
  pub contact : Contact
  pub named : contact_named p.plan x.number ≡ Some contact
  pub sender : contact.from ≡ node
  pub receiver : contact.to ≡ to
  pub start : x.start ≡ contact.start
  pub end : x.end ≡ contact.end
  pub light : light_of p.plan contact ≡ Some x.light

-- of two passes of a link, or one taken twice, the first does not start later, and each keeps within the other's bounds
pub record IsBefore (x y : Pass) : Type 0 where
  pub start : x.start ≤ y.start
  pub end : x.end ≤ y.latest_end
  pub latest_end : x.latest_end ≤ y.latest_end
  pub light_before : y.least_light_before ≤ x.light
  pub light_after : x.least_light_after ≤ y.light
  pub number_after : x.least_number_after ≤ y.number

-- y, some places after x, has the number as far after that of x, where it stands in the row that x knows
abbrev pub IsInRow : Pass → ℕ → Pass → Type 0
IsInRow x places y = places ≤ x.next_numbers → y.number ≡ x.number + places

-- the pass keeps within the bounds of its link
pub record IsWithin (b : LinkBounds) (x : Pass) : Type 0 where
  pub ends : x.end ≤ b.latest_end
  pub light : b.least_light ≤ x.light
  pub soonest : b.soonest ≤ x.start + x.light

-- each of the passes does
abbrev pub AreWithin : LinkBounds → List Pass → Type 0
AreWithin b passes = (k : ℕ) (x : Pass) → slice_get passes k ≡ Some x → IsWithin b x

-- no pass starts later than those after it, and each keeps within the bounds beside the others
abbrev pub AreInOrder : List Pass → Type 0
AreInOrder passes = (i k : ℕ) (x y : Pass) → i ≤ k → slice_get passes i ≡ Some x → slice_get passes k ≡ Some y → IsBefore x y

-- those that a pass counts behind it have the numbers after its own, one by one
abbrev pub AreInRows : List Pass → Type 0
AreInRows passes = (i j : ℕ) (x y : Pass) → slice_get passes i ≡ Some x → slice_get passes (i + j) ≡ Some y → IsInRow x j y

-- the passes over which a link lies
abbrev pub passes_over : List Pass → Link → List Pass
passes_over passes l = take (l.end - l.first) (drop l.first passes)

-- the link lies over some passes, in order, all to its receiver and within its bounds
pub record IsRow (passes : List Pass) (l : Link) : Type 0 where
  pub filled : l.first < l.end
  pub ends : l.end ≤ length passes
  pub alike : All (λ x. x.receiver ≡ l.receiver) (passes_over passes l)
  pub kept : AreInOrder (passes_over passes l)
  pub in_rows : AreInRows (passes_over passes l)
  pub within : AreWithin l.bounds (passes_over passes l)

-- the link lies over a row of passes from the node to the link's receiver
pub record IsLinkOf (p : TabledPlan) (node : ℕ) (passes : List Pass) (l : Link) : Type 0 where
  pub to : ℕ
  pub receiver : slice_get p.table l.receiver ≡ Some to
  pub row : IsRow passes l
  pub each : (k : ℕ) (x : Pass) → slice_get (passes_over passes l) k ≡ Some x → IsPassOf p node to x

-- the numbers of passes
abbrev pub numbers_of : List Pass → List ℕ
numbers_of passes = map (λ x. x.number) passes

-- The links are the node's: each lies after the one before it, each standing contact of the node that has a light time
-- is a pass of one of them, no contact stands there twice, and there are no more passes than the node has contacts.
pub record AreLinksOf (p : TabledPlan) (node : ℕ) (links : List Link) (passes : List Pass) : Type 0 where
  pub each : (j : ℕ) (l : Link) → slice_get links j ≡ Some l → IsLinkOf p node passes l
  pub in_row : (j : ℕ) (l m : Link) → slice_get links j ≡ Some l → slice_get links (j + 1) ≡ Some m → l.end ≤ m.first
  pub whole : (n t : ℕ) (c : Contact) → contact_named p.plan n ≡ Some c → c.from ≡ node → light_of p.plan c ≡ Some t
      → (j k : ℕ) × (l : Link) × (x : Pass) × (slice_get links j ≡ Some l) × (l.first ≤ k) × (k < l.end) × (slice_get passes k ≡ Some x) × (x.number ≡ n)
  pub once : IsTrue (are_different (numbers_of passes))
  pub few : length passes ≤ length (sent_by p.plan.contacts node)

-- the numbers of the contacts that a node receives
abbrev pub received_by : List Contact → ℕ → List ℕ
received_by contacts node = map (λ c. c.number) (filter (λ c. node == c.to) contacts)

-- the links of a node, and the passes that they lie over
pub record NodeLinks : Type 0 where
  pub links : List Link
  pub passes : List Pass

-- the number of links of these nodes
abbrev pub links_in : List NodeLinks → ℕ
links_in linked = sum_by (λ s. length s.links) linked

-- a link as its receiver sees it: the index of its sender in the table, and its passes
pub record SentLink : Type 0 where
  pub sender : ℕ
  pub passes : List Pass

-- the passes go from the link's sender to the node, by start, each within the bounds that stand beside the others
pub record IsLinkTo (p : TabledPlan) (node : ℕ) (s : SentLink) : Type 0 where
  pub from : ℕ
  pub at : slice_get p.table s.sender ≡ Some from
  pub each : (k : ℕ) (x : Pass) → slice_get s.passes k ≡ Some x → IsPassOf p from node x
  pub kept : AreInOrder s.passes
  pub in_rows : AreInRows s.passes

-- The links are those to the node: each standing contact to it that has a light time is a pass of one of them, no
-- contact stands there twice, and together they have no more passes than the node receives contacts.
pub record AreLinksTo (p : TabledPlan) (node : ℕ) (links : List SentLink) : Type 0 where
  pub each : (j : ℕ) (s : SentLink) → slice_get links j ≡ Some s → IsLinkTo p node s
  pub whole : (n t : ℕ) (c : Contact) → contact_named p.plan n ≡ Some c → c.to ≡ node → light_of p.plan c ≡ Some t
      → (j k : ℕ) × (s : SentLink) × (x : Pass) × (slice_get links j ≡ Some s) × (slice_get s.passes k ≡ Some x) × (x.number ≡ n)
  pub once : IsTrue (are_different (flat_map (λ s. numbers_of s.passes) links))
  pub few : sum_by (λ s. length s.passes) links ≤ length (received_by p.plan.contacts node)
