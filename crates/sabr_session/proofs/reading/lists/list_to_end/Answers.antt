-- A list of all the words is one that no `/` ends.
use Rattle.sabr_session.specs.SessionWords.{words_of}
use Rattle.sabr_session.proofs.WordLemmas.ReadLists.{list-ended, list-missing}
use Rattle.sabr_session.proofs.reading.lists.list_to_end.Goals as goal

pub returns-in-Some : goal.returns-in-Some
returns-in-Some g c =
    let h = rw c.in-Some.is at (c.in_ok-end.ensures {u = tt}) in
    list-ended (words_of c.args.text.now) _ c.in-Some.end.stopped h.0 h.1.0

pub returns-in-None : goal.returns-in-None
returns-in-None g c = list-missing (words_of c.args.text.now) (rw c.in-None.is at (c.in_ok-end.ensures {u = tt}))
