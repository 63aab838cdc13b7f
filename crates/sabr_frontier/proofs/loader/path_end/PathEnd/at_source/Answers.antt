use Rattle.sabr_frontier.proofs.Names.{Some, ap, sym, empty_is_path}
use Rattle.sabr_frontier.proofs.loader.path_end.PathEnd.at_source.Goals as goal

pub returns : goal.returns
returns g c = record {
  path = empty_is_path c.args.plan.now.plan c.args.request.now;
  reached = record { node = ap Some (sym c.from.ensures.value); at = ap Some (sym c.at.ensures.value) };
  summary = c.of.ensures;
}
