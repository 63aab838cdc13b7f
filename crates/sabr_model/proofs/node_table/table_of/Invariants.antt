use Rattle.std.proofs.Common.{◌≤◌, true, length, take}
use Rattle.std.specs.Prelude.{vec_capacity}
use Rattle.indexmap.specs.IndexMap.{keys}
use Rattle.sabr_model.specs.plan.Table.{IsTableOf}
use Rattle.sabr_model.specs.plan.Known.{AreKnown}
use Rattle.sabr_model.proofs.node_table.table_of.Given as goal

abbrev pub invariant-loop-contact : goal.invariant-loop-contact
invariant-loop-contact g l = record {
  table : IsTableOf (take l.contact-index l.contacts) l.table;
  known : AreKnown (keys l.table) l.ranges true (take l.contact-index l.contacts) l.known.items;
  room : length l.contacts ≤ vec_capacity l.known;
}
