use Rattle.std.proofs.Common.{ℕ, List, ◌++◌, codes}
use Rattle.std.specs.List.{concat, flat_map}
use Rattle.sabr_frontier.specs.listing.State.{State}
use Rattle.sabr_session.specs.SessionText.{part_line, counts_pieces}
use Rattle.sabr_session.proofs.TextLemmas.Gathering.{Puts-stopped, Puts-after, state_in_pieces, lines_of_seen}
use Rattle.sabr_session.proofs.writing.session_text.put_state.Goals as goal

pub returns-in_err-put_counts : goal.returns-in_err-put_counts
returns-in_err-put_counts g c =
    let s : State = c.args.session.now.state in
    let counts : List ℕ = concat (counts_pieces s) in
    let lines : List ℕ = flat_map part_line s.parts in
    let ending : List ℕ = codes "end\n" in
    rw (state_in_pieces s)
    (Puts-stopped _ counts (lines ++ ending) c.from_residual.result c.from_residual.ensures.1 c.in_err-put_counts.ensures)

pub returns-in_err-put_parts : goal.returns-in_err-put_parts
returns-in_err-put_parts g c =
    let s : State = c.args.session.now.state in
    let counts : List ℕ = concat (counts_pieces s) in
    let lines : List ℕ = flat_map part_line s.parts in
    let ending : List ℕ = codes "end\n" in
    rw (state_in_pieces s)
    (Puts-after _ counts (lines ++ ending) _ c.in_ok-put_counts.ensures
    (Puts-stopped _ lines ending c.from_residual-in_err-put_parts.result c.from_residual-in_err-put_parts.ensures.1 (rw (lines_of_seen c.args.session.now.plan.plan c.args.session.now.request _ s.parts c.parts.ensures) at c.in_err-put_parts.ensures)))

pub returns : goal.returns
returns g c =
    let s : State = c.args.session.now.state in
    let counts : List ℕ = concat (counts_pieces s) in
    let lines : List ℕ = flat_map part_line s.parts in
    let ending : List ℕ = codes "end\n" in
    rw (state_in_pieces s)
    (Puts-after _ counts (lines ++ ending) _ c.in_ok-put_counts.ensures
    (Puts-after _ lines ending _ (rw (lines_of_seen c.args.session.now.plan.plan c.args.session.now.request _ s.parts c.parts.ensures) at c.in_ok-put_parts.ensures)
    c.put.ensures))
