use Rattle.std.proofs.Common.{◌∙◌}
use Rattle.sabr_model.proofs.PlanLemmas.Without.{IsTableOf-without, in_use_is}
use Rattle.sabr_model.proofs.node_table.forget_contact.Goals as goal

pub returns-clause-table : goal.returns-clause-table
returns-clause-table g c =
    IsTableOf-without 0 c.args.contacts.now c.args.contact.now c.args.table.now c.take_number.new.table c.keep_node.new.table c.keep_node-2.new.table
    c.is_in_use-from_used.result c.is_in_use-to_used.result
    c.requires.numbered c.requires.stands c.requires.table c.keep_node-2.ensures.unique
    (c.is_in_use-from_used.ensures ∙ in_use_is c.args.contact.now.number c.args.contact.now.from c.args.contacts.now)
    (c.is_in_use-to_used.ensures ∙ in_use_is c.args.contact.now.number c.args.contact.now.to c.args.contacts.now)
    c.take_number.ensures.lists c.keep_node.ensures.lists c.keep_node-2.ensures.lists
