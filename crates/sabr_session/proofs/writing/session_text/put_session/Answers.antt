use Rattle.std.proofs.Common.{ℕ, List, ◌++◌, codes}
use Rattle.sabr_session.specs.SessionText.{plan_line, request_line, state_lines, text_of}
use Rattle.sabr_session.proofs.TextLemmas.Gathering.{Puts-stopped, Puts-after}
use Rattle.sabr_session.proofs.writing.session_text.put_session.Goals as goal

pub returns-in_err-put : goal.returns-in_err-put
unfolding text_of
returns-in_err-put g c =
    let first : List ℕ = codes "cgr-session 2\n" in
    let plan : List ℕ = plan_line c.args.digest.now in
    let request : List ℕ = request_line c.args.session.now.request in
    let rest : List ℕ = state_lines c.args.session.now.state in
    (Puts-stopped _ first (plan ++ (request ++ rest)) c.from_residual.result c.from_residual.ensures.1 c.in_err-put.ensures)

pub returns-in_err-put_digest : goal.returns-in_err-put_digest
unfolding text_of
returns-in_err-put_digest g c =
    let first : List ℕ = codes "cgr-session 2\n" in
    let plan : List ℕ = plan_line c.args.digest.now in
    let request : List ℕ = request_line c.args.session.now.request in
    let rest : List ℕ = state_lines c.args.session.now.state in
    (Puts-after _ first (plan ++ (request ++ rest)) _ c.in_ok-put.ensures
    (Puts-stopped _ plan (request ++ rest) c.from_residual-in_err-put_digest.result c.from_residual-in_err-put_digest.ensures.1 c.in_err-put_digest.ensures))

pub returns-in_err-put_request : goal.returns-in_err-put_request
unfolding text_of
returns-in_err-put_request g c =
    let first : List ℕ = codes "cgr-session 2\n" in
    let plan : List ℕ = plan_line c.args.digest.now in
    let request : List ℕ = request_line c.args.session.now.request in
    let rest : List ℕ = state_lines c.args.session.now.state in
    (Puts-after _ first (plan ++ (request ++ rest)) _ c.in_ok-put.ensures
    (Puts-after _ plan (request ++ rest) _ c.in_ok-put_digest.ensures
    (Puts-stopped _ request rest c.from_residual-in_err-put_request.result c.from_residual-in_err-put_request.ensures.1 (rw c.request.ensures at c.in_err-put_request.ensures))))

pub returns : goal.returns
unfolding text_of
returns g c =
    let first : List ℕ = codes "cgr-session 2\n" in
    let plan : List ℕ = plan_line c.args.digest.now in
    let request : List ℕ = request_line c.args.session.now.request in
    let rest : List ℕ = state_lines c.args.session.now.state in
    (Puts-after _ first (plan ++ (request ++ rest)) _ c.in_ok-put.ensures
    (Puts-after _ plan (request ++ rest) _ c.in_ok-put_digest.ensures
    (Puts-after _ request rest _ (rw c.request.ensures at c.in_ok-put_request.ensures)
    c.put_state.ensures)))
