-- What a plan shows of its table of nodes: the nodes, and a contact as a search reads it.
use Rattle.std.specs.Prelude.{◌≡◌, ℕ, IsTrue, slice_get}
use Rattle.std.specs.declared.option.Option.TheVariants.{Some}
use Rattle.sabr_model.specs.declared.contact.Contact.{Contact}
use Rattle.sabr_model.specs.declared.hop.Hop.{Hop}
use Rattle.sabr_model.specs.plan.Plan.{TabledPlan, contact_named, has, are_different}
use Rattle.sabr_model.specs.plan.Light.{light_of}
use Rattle.sabr_model.specs.plan.Table.{ends_of}

-- the table has exactly the nodes that send or receive a standing contact, each once
pub record IsTabled (p : TabledPlan) : Type 0 where
  pub nodes : (node : ℕ) → has node p.table ≡ has node (ends_of p.plan.contacts)
  pub once : IsTrue (are_different p.table)

-- the hop is the contact's: its window, its receiver's index in the table, and its light time
pub record IsHopOf (p : TabledPlan) (c : Contact) (h : Hop) : Type 0 where
  pub start : h.start ≡ c.start
  pub end : h.end ≡ c.end
  pub receiver : slice_get p.table h.receiver ≡ Some c.to
  pub light : h.light ≡ light_of p.plan c

-- the hop is that of the standing contact with this number
pub record IsHopNamed (p : TabledPlan) (n : ℕ) (h : Hop) : Type 0 where
  pub contact : Contact
  pub named : contact_named p.plan n ≡ Some contact
  pub is : IsHopOf p contact h
