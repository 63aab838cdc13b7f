use Rattle.std.proofs.Common.{◌+◌, List, map, length, drop, ap}
use Rattle.std.specs.List.{flat_map}
use Rattle.std.proofs.lemmas.Iterator.Consumers.{YieldsList-from_first, YieldsList-so_far, YieldsList-turn, YieldsList-end}
use Rattle.sabr_frontier.specs.session.Session.{PartSeen}
use Rattle.sabr_frontier.specs.session.Views.{seen_of, seen_left}
use Rattle.sabr_session.specs.SessionText.{seen_line}
use Rattle.sabr_session.proofs.TextLemmas.Gathering.{HasPut-append, Puts-stopped, Puts-after, lines-at, lines-more}
use Rattle.sabr_session.proofs.writing.session_text.put_parts.Goals as goal

pub returns-in_err-put_part : goal.returns-in_err-put_part
returns-in_err-put_part g c =
    let all : List PartSeen = seen_left c.args.parts in
    let ys = c.loop-part.yielded in
    let road = YieldsList-from_first seen_of seen_left all (ap seen_left c.into_iter-part-iterator.ensures.into_iter_gives) in
    let before = YieldsList-so_far road ys c.loop-part.part-iterator c.loop-part.yielded_by in
    let turn = YieldsList-turn road ys c.loop-part.part-iterator c.loop-part.yielded_by _ c.next.new.self c.in-Some.part c.in-Some.is c.next.ensures.steps in
    rw (lines-at seen_line all (map seen_of ys) (length ys) (seen_of c.in-Some.part) before turn)
    (Puts-after _ _ _ _ c.loop-part.invariant
    (Puts-stopped _ (seen_line (seen_of c.in-Some.part)) (flat_map seen_line (drop (length ys + 1) all)) c.from_residual.result c.from_residual.ensures.1 (c.in_err-put_part.ensures {u = tt})))

pub loop-part-preserved : goal.loop-part-preserved
loop-part-preserved g c =
    rw (lines-more seen_of c.loop-part.yielded c.in-Some.part)
    (HasPut-append _ _ c.loop-part.invariant (c.in_ok-put_part.ensures {u = tt}))

pub returns : goal.returns
returns g c =
    let all : List PartSeen = seen_left c.args.parts in
    let ys = c.loop-part.yielded in
    let road = YieldsList-from_first seen_of seen_left all (ap seen_left c.into_iter-part-iterator.ensures.into_iter_gives) in
    let done = YieldsList-end road ys c.loop-part.part-iterator c.loop-part.yielded_by _ c.next.new.self c.in-None.is c.next.ensures.steps in
    rw (← done.0) c.loop-part.invariant
