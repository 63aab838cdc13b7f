-- Each line is read as what it says.
use Rattle.std.proofs.Common.{◌≡◌, ℕ, ◌+◌, ◌≤◌, List, refl, sym, ◌∙◌, arith, inr, Option, Some, None, Result, Bor}
use Rattle.std.proofs.lemmas.Result.{err_from_is_err_and}
use Rattle.std.specs.Option.{ok_or, option_copied}
use Rattle.sabr_plan.specs.Steps.{given_as}
use Rattle.sabr_session.specs.SessionRead.{misspelled, spelled_at}
use Rattle.sabr_session.specs.declared.session_fault.SessionFault.{SessionFault}
use Rattle.sabr_session.proofs.TextLemmas.SaidLines.{spelled, line_1, line_2, line_3, line_4, line_5, line_6, other_line}
use Rattle.sabr_session.proofs.reading.session_lines.SessionLines.read_line.Goals as goal
use Rattle.sabr_session.proofs.reading.session_lines.SessionLines.read_line.Goals.{in_default-via-then-number-lt1, in_default-via-else-number-lt1+else-this-lt2+else-this-lt3+else-this-lt4+else-this-lt5+else-this-lt6+else-this-lt7}
use Rattle.sabr_session.proofs.reading.session_lines.SessionLines.read_line.Goals.{in-1+in_ok-self-inside-in-1, in-2+in_ok-digits-in-2+else-not-is_digest_of, in-4+in_ok-self-inside-in-4, in-5+in_ok-last_listed-in-5+in_ok-self-inside-in-5, in-6+in_ok-self-inside-in-6}

-- what was found as a slice
spelled_slice : {r s : Result (Bor (List ℕ)) SessionFault} (n : ℕ) (o : Option (Bor (List ℕ))) {x : Option (List ℕ)} → option_copied o ≡ x → r ≡ ok_or o (misspelled n) → r ≡ s → spelled_at n x ≡ given_as (λ b. b.now) s
spelled_slice n None is made was = rw (← is, ← was, made) refl
spelled_slice n (Some b) is made was = rw (← is, ← was, made) refl

pub returns-clause-value : goal.returns-clause-value
returns-clause-value g c =
    elim c.if-this-lt2.branch [
      | in-1+in_ok-self-inside-in-1 w ↦ rw (← c.self.view_is, w.self-inside-is) (line_1 _ _ _ _ _ (omega arith) (spelled 1 w.header_of.ensures w.ok_or.ensures.value w.in_ok-self-inside-in-1.was))
      | in-2+in_ok-digits-in-2+else-not-is_digest_of w ↦ rw (← c.self.view_is, w.self-inside-is) (line_2 _ _ _ _ _ (omega arith) (spelled_slice 2 _ w.digest_named.ensures w.ok_or-in-2.ensures.value w.in_ok-digits-in-2.was) ∙ rw (sym w.is_digest_of.ensures ∙ w.if-not-is_digest_of.false) refl)
      | in-4+in_ok-self-inside-in-4 w ↦ rw (← c.self.view_is, w.self-inside-is) (line_4 _ _ _ _ _ (omega arith) (spelled 4 w.emitted_of.ensures w.ok_or-in-4.ensures.value w.in_ok-self-inside-in-4.was))
      | in-5+in_ok-last_listed-in-5+in_ok-self-inside-in-5 w ↦ rw (← c.self.view_is, w.self-inside-is) (line_5 _ _ _ _ _ (omega arith) (spelled 5 w.in_ok-last_listed-in-5.ensures w.ok_or-in-5.ensures.value w.in_ok-self-inside-in-5.was))
      | in-6+in_ok-self-inside-in-6 w ↦ rw (← c.self.view_is, w.self-inside-is) (line_6 _ _ _ _ _ (omega arith) (spelled 6 w.count_of.ensures w.ok_or-in-6.ensures.value w.in_ok-self-inside-in-6.was))
    ]

pub returns-in_err-self-inside-in-1-clause-value : goal.returns-in_err-self-inside-in-1-clause-value
returns-in_err-self-inside-in-1-clause-value g c =
    let p = err_from_is_err_and c.from_residual.result c.from_residual.ensures.1 in
    rw (p.1, p.2, ← c.self.view_is) (inr (line_1 _ _ _ _ _ (omega arith) (spelled 1 c.header_of.ensures c.ok_or.ensures.value c.in_err-self-inside-in-1.was)))

pub returns-in_err-digits-in-2-clause-value : goal.returns-in_err-digits-in-2-clause-value
returns-in_err-digits-in-2-clause-value g c =
    let p = err_from_is_err_and c.from_residual-in_err-digits-in-2.result c.from_residual-in_err-digits-in-2.ensures.1 in
    rw (p.1, p.2, ← c.self.view_is) (inr (line_2 _ _ _ _ _ (omega arith) (spelled_slice 2 _ c.digest_named.ensures c.ok_or-in-2.ensures.value c.in_err-digits-in-2.was)))

pub returns-then-not-is_digest_of-clause-value : goal.returns-then-not-is_digest_of-clause-value
returns-then-not-is_digest_of-clause-value g c =
    rw (← c.self.view_is) (inr (line_2 _ _ _ _ _ (omega arith) (spelled_slice 2 _ c.digest_named.ensures c.ok_or-in-2.ensures.value c.in_ok-digits-in-2.was) ∙ rw (sym c.is_digest_of.ensures ∙ c.if-not-is_digest_of.true) refl))

pub returns-in_err-self-inside-in-4-clause-value : goal.returns-in_err-self-inside-in-4-clause-value
returns-in_err-self-inside-in-4-clause-value g c =
    let p = err_from_is_err_and c.from_residual-in_err-self-inside-in-4.result c.from_residual-in_err-self-inside-in-4.ensures.1 in
    rw (p.1, p.2, ← c.self.view_is) (inr (line_4 _ _ _ _ _ (omega arith) (spelled 4 c.emitted_of.ensures c.ok_or-in-4.ensures.value c.in_err-self-inside-in-4.was)))

pub returns-in_err-self-inside-in-5-clause-value : goal.returns-in_err-self-inside-in-5-clause-value
returns-in_err-self-inside-in-5-clause-value g c =
    let p = err_from_is_err_and c.from_residual-in_err-self-inside-in-5.result c.from_residual-in_err-self-inside-in-5.ensures.1 in
    rw (p.1, p.2, ← c.self.view_is) (inr (line_5 _ _ _ _ _ (omega arith) (spelled 5 c.in_ok-last_listed-in-5.ensures c.ok_or-in-5.ensures.value c.in_err-self-inside-in-5.was)))

pub returns-in_err-self-inside-in-6-clause-value : goal.returns-in_err-self-inside-in-6-clause-value
returns-in_err-self-inside-in-6-clause-value g c =
    let p = err_from_is_err_and c.from_residual-in_err-self-inside-in-6.result c.from_residual-in_err-self-inside-in-6.ensures.1 in
    rw (p.1, p.2, ← c.self.view_is) (inr (line_6 _ _ _ _ _ (omega arith) (spelled 6 c.count_of.ensures c.ok_or-in-6.ensures.value c.in_err-self-inside-in-6.was)))

pub returns-in_default-clause-value : goal.returns-in_default-clause-value
returns-in_default-clause-value g c =
    let after : 7 ≤ c.self.inside.lines + 1 = elim c.in_default.branch [ in_default-via-then-number-lt1 w ↦ omega arith | in_default-via-else-number-lt1+else-this-lt2+else-this-lt3+else-this-lt4+else-this-lt5+else-this-lt6+else-this-lt7 w ↦ omega arith ] in
    rw (other_line c.args.self.now.plan.plan c.args.digest.now (c.args.self.now.fed.lines + 1) c.args.self.now.fed.said c.args.line.now (rw (← c.self.view_is) after)) c.read_other.ensures.value

pub returns-in-3-clause-value : goal.returns-in-3-clause-value
returns-in-3-clause-value g c =
    rw (line_3 c.args.self.now.plan.plan c.args.digest.now (c.args.self.now.fed.lines + 1) c.args.self.now.fed.said c.args.line.now (rw (← c.self.view_is) (omega arith))) c.read_request.ensures.value
