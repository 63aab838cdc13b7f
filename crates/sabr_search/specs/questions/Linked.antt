-- The contacts that a node sends and receives, and the links that a search walks there: contacts by receiver, as passes.
use Rattle.std.specs.Prelude.{◌≡◌, ℕ, ◌+◌, ◌==◌, List, [], ◌∷◌, map, if◌then◌else◌, ◌⊎◌, ◌<◌, ◌≤◌, length, false, slice_get, slice_index_or}
use Rattle.std.specs.List.{count_by, sum_by}
use Rattle.std.specs.declared.option.Option.TheVariants.{Some}
use Rattle.sabr_model.specs.declared.contact.Contact.{Contact}
use Rattle.sabr_model.specs.declared.hop.Hop.{Hop}
use Rattle.sabr_model.specs.plan.Plan.{contact_named}
use Rattle.sabr_model.specs.plan.Tabled.{IsHopOf}
use Rattle.sabr_search.specs.questions.Task.{SearchTask, Takes}
use Rattle.sabr_index.specs.declared.link.Pass.{Pass}
use Rattle.sabr_index.specs.declared.link.Link.{Link}
use Rattle.sabr_index.specs.declared.link.LinkBounds.{LinkBounds}
use Rattle.sabr_model.specs.plan.Light.{light_of}
use Rattle.sabr_index.specs.Links.{AreInOrder, AreInRows, AreWithin, SentLink, passes_over}

-- The number of contacts that a node sends or receives, and the hop of a contact.

-- the first place of x in the list
abbrev pub place_in : List ℕ → ℕ → ℕ
place_in [] x = 0
place_in (y ∷ ys) x = if x == y then 0 else place_in ys x + 1

-- for each contact of the plan, the place of its sender in the table
abbrev pub senders : SearchTask → List ℕ
senders task = map (λ c. place_in task.table c.from) task.plan.contacts

-- the number of standing contacts that the node at place u sends
abbrev pub degree : SearchTask → ℕ → ℕ
degree task u = count_by (λ k. k == u) (senders task)

-- for each contact of the plan, the place of its receiver in the table
abbrev pub receivers : SearchTask → List ℕ
receivers task = map (λ c. place_in task.table c.to) task.plan.contacts

-- the number of standing contacts that the node at place w receives
abbrev pub received : SearchTask → ℕ → ℕ
received task w = count_by (λ k. k == w) (receivers task)

-- the hop is that of the standing contact of a number
pub record IsHopAt (task : SearchTask) (n : ℕ) (h : Hop) : Type 0 where
  pub contact : Contact
  pub named : contact_named task.plan n ≡ Some contact
  pub is : IsHopOf (record { plan = task.plan; table = task.table }) contact h

-- the pass is a standing contact with a light time, from the node at place u to the node at place w
pub record IsPassAt (task : SearchTask) (u w : ℕ) (x : Pass) : Type 0 where
  pub contact : Contact
  pub named : contact_named task.plan x.number ≡ Some contact
  pub sender : slice_get task.table u ≡ Some contact.from
  pub receiver : slice_get task.table w ≡ Some contact.to
  pub start : x.start ≡ contact.start
  pub end : x.end ≡ contact.end
  pub light : light_of task.plan contact ≡ Some x.light

-- passes from the node at place u to the node at place w, in order; each keeps how many consecutive numbers follow it
pub record IsLinkAt (task : SearchTask) (u w : ℕ) (passes : List Pass) : Type 0 where
  pub each : (k : ℕ) (x : Pass) → slice_get passes k ≡ Some x → IsPassAt task u w x
  pub kept : AreInOrder passes
  pub in_rows : AreInRows passes

-- the same, and within the bounds of the link
abbrev pub IsLinkWithin : SearchTask → ℕ → ℕ → List Pass → LinkBounds → Type 0
IsLinkWithin task u w passes bounds = IsLinkAt task u w passes × AreWithin bounds passes

-- one of the passes has the number
abbrev pub HasNumber : List Pass → ℕ → Type 0
HasNumber passes n = (k : ℕ) × (x : Pass) × (slice_get passes k ≡ Some x) × (x.number ≡ n)

-- who is at node u at t arrives over some contact at node w before a second, if that node is open
abbrev pub IsLeftBefore : SearchTask → ℕ → ℕ → ℕ → ℕ → Type 0
IsLeftBefore task u w before t = (b : ℕ) × (b < before) × (slice_index_or task.forbidden w false ≡ false → (n : ℕ) × Takes task n u t w b)

-- the link at place i of these leads to the node at place w, over these passes
pub record IsLinkHere (links : List Link) (passes : List Pass) (i w : ℕ) (over : List Pass) : Type 0 where
  pub link : Link
  pub here : slice_get links i ≡ Some link
  pub receiver : w ≡ link.receiver
  pub lies : over ≡ passes_over passes link

-- by the bounds of a link, what is at its sender at t or later doesn't arrive before a second
abbrev pub IsRuledOut : LinkBounds → ℕ → ℕ → Type 0
IsRuledOut b t before = (b.latest_end ≤ t) ⊎ ((before ≤ b.soonest) ⊎ (before ≤ t + b.least_light))

-- the links of the node at place u, one after another, each within its bounds: every step from there is over a pass of
-- one of them, and there are no more passes than the node has contacts
pub record AreLinksAt (task : SearchTask) (u : ℕ) (links : List Link) (passes : List Pass) : Type 0 where
  pub receivers : (j : ℕ) (l : Link) → slice_get links j ≡ Some l → l.receiver < length task.table
  pub ordered : (j : ℕ) (l : Link) → slice_get links j ≡ Some l → l.first ≤ l.end
  pub within : (j : ℕ) (l : Link) → slice_get links j ≡ Some l → l.end ≤ length passes
  pub each : (j : ℕ) (l : Link) → slice_get links j ≡ Some l → IsLinkAt task u l.receiver (passes_over passes l)
  pub bounds : (j : ℕ) (l : Link) → slice_get links j ≡ Some l → AreWithin l.bounds (passes_over passes l)
  pub in_row : (j : ℕ) (l m : Link) → slice_get links j ≡ Some l → slice_get links (j + 1) ≡ Some m → l.end ≤ m.first
  pub whole : (n t w b : ℕ) → Takes task n u t w b → (j : ℕ) × (l : Link) × (slice_get links j ≡ Some l) × HasNumber (passes_over passes l) n
  pub few : length passes ≤ degree task u

-- the links to the node at place w: each goes from its sender to there, every step to there is over a pass of one of
-- them, and together they have no more passes than the node receives contacts
pub record AreSendersAt (task : SearchTask) (w : ℕ) (links : List SentLink) : Type 0 where
  pub senders : (j : ℕ) (s : SentLink) → slice_get links j ≡ Some s → s.sender < length task.table
  pub each : (j : ℕ) (s : SentLink) → slice_get links j ≡ Some s → IsLinkAt task s.sender w s.passes
  pub whole : (n u t b : ℕ) → Takes task n u t w b → (j : ℕ) × (s : SentLink) × (slice_get links j ≡ Some s) × (s.sender ≡ u) × HasNumber s.passes n
  pub few : sum_by (λ s. length s.passes) links ≤ received task w
