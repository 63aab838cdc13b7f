-- The three lists, one after the other.
use Rattle.std.proofs.Common.{[], false}
use Rattle.std.proofs.lemmas.Result.{IfOk-weaker}
use Rattle.sabr_session.specs.SessionWords.{words_of}
use Rattle.sabr_session.proofs.WordLemmas.SpacedWords.{no_words, bad_prefix, bad_excluded, third_list}
use Rattle.sabr_session.proofs.reading.part_line.PartLine.read_lists.Goals as goal

pub returns-in_default : goal.returns-in_default
returns-in_default g c = bad_prefix (words_of c.args.text.now) (rw c.in_default.is at (c.in_ok-prefix.ensures {u = tt}))

pub returns-in_default-rest : goal.returns-in_default-rest
returns-in_default-rest g c =
    let h = rw c.in-Some.is at (c.in_ok-prefix.ensures {u = tt}) in
    bad_excluded (words_of c.args.text.now) [] _ h.0 (rw c.in_default-rest.is at h.1.1) no_words

pub returns-in_default-2 : goal.returns-in_default-2
returns-in_default-2 g c =
    let h = rw c.in-Some.is at (c.in_ok-prefix.ensures {u = tt}) in
    bad_excluded (words_of c.args.text.now) (words_of c.in-Some-rest.after.now) _ h.0 (rw c.in-Some-rest.is at h.1.1)
    (rw c.in_default-2.is at (c.in_ok-excluded.ensures {u = tt}))

pub returns-in_default-rest-2 : goal.returns-in_default-rest-2
returns-in_default-rest-2 g c =
    let h = rw c.in-Some.is at (c.in_ok-prefix.ensures {u = tt}) in
    let k = rw c.in-Some-2.is at (c.in_ok-excluded.ensures {u = tt}) in
    third_list (words_of c.args.text.now) (words_of c.in-Some-rest.after.now) [] _ _ [] h.0 (rw c.in-Some-rest.is at h.1.1) k.0 (rw c.in_default-rest-2.is at k.1.1) false no_words

pub returns : goal.returns
returns g c =
    let h = rw c.in-Some.is at (c.in_ok-prefix.ensures {u = tt}) in
    let k = rw c.in-Some-2.is at (c.in_ok-excluded.ensures {u = tt}) in
    IfOk-weaker c.list_to_end.result _ _
    (λ found l. third_list (words_of c.args.text.now) (words_of c.in-Some-rest.after.now) (words_of c.in-Some-rest-2.after.now) _ _ _ h.0 (rw c.in-Some-rest.is at h.1.1) k.0 (rw c.in-Some-rest-2.is at k.1.1) found l)
    c.list_to_end.ensures
