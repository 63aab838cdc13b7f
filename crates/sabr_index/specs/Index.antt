-- What an index keeps of a plan.
use Rattle.std.specs.Prelude.{◌≡◌, ℕ, List, length}
use Rattle.sabr_model.specs.plan.Plan.{TabledPlan}
use Rattle.sabr_model.specs.plan.Tabled.{IsTabled}
use Rattle.sabr_index.specs.declared.plan_links.HeldLinks.{HeldLinks}
use Rattle.sabr_index.specs.declared.plan_links.HeldLinks.TheVariants.{Owned, Borrowed}
use Rattle.sabr_index.specs.declared.plan_links.PlanLinks.{PlanLinks}
use Rattle.sabr_index.specs.declared.senders.Incoming.{Incoming}
use Rattle.sabr_index.specs.Links.{NodeLinks}
use Rattle.sabr_index.specs.Linking.{AreLinked}
use Rattle.sabr_index.specs.Incoming.{AreGrouped}

-- the links of each node of the table, and by node the links to it
pub record IsIndex (p : TabledPlan) (linked : List NodeLinks) (starts : List ℕ) (named : List Incoming) : Type 0 where
  pub tabled : IsTabled p
  pub as_many : length linked ≡ length p.table
  pub links : AreLinked p linked
  pub grouped : AreGrouped linked starts named

-- these are the links of the plan
abbrev pub AreLinksOfPlan : {A : Type 0} → TabledPlan → PlanLinks A → Type 0
AreLinksOfPlan p l = IsIndex p l.linked l.incoming.starts.items l.incoming.items.items

-- the links that an index reads, its own or lent ones
abbrev pub held_links : {A : Type 0} → HeldLinks A → PlanLinks A
held_links (Owned l) = l
held_links (Borrowed l) = l.now
