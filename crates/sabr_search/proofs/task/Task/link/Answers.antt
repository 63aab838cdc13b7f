use Rattle.std.proofs.Common.{refl}
use Rattle.std.proofs.lemmas.Option.{slice_get-get_or}
use Rattle.sabr_search.proofs.LinkLemmas.OverLinks.{no_link}
use Rattle.sabr_search.proofs.task.Task.link.Goals as goal

pub returns-clause-link : goal.returns-clause-link
returns-clause-link g c =
    let here = slice_get-get_or c.args.links.links.now c.args.place no_link c.requires.place in
    (c.requires.links.each c.args.place _ here, c.requires.links.bounds c.args.place _ here)

pub returns-clause-here : goal.returns-clause-here
returns-clause-here g c = record {
  link = _;
  here = slice_get-get_or c.args.links.links.now c.args.place no_link c.requires.place;
  receiver = refl;
  lies = refl;
}
