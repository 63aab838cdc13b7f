use Rattle.std.proofs.Common.{not, eqb, rules}
use Rattle.std.proofs.lemmas.Fn.{filter_same}
use Rattle.sabr_model.proofs.node_table.take_out.Goals as goal

pub returns : goal.returns
returns g c = filter_same _ (λ n. not (eqb n c.args.number)) _ (λ n b f' k. search rules) _ _ c.retain.ensures.filtered
