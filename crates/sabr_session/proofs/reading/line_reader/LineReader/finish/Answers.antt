-- The text ends after the LF of `end`, or too early.
use Rattle.std.proofs.Common.{◌∙◌, refl, sym, ap}
use Rattle.sabr_session.specs.SessionRead.{misspelled}
use Rattle.sabr_session.specs.SessionFed.{OpenText}
use Rattle.sabr_session.proofs.ReadingLemmas.StepsTaken.{ended_early, ended_well}
use Rattle.sabr_session.proofs.reading.line_reader.LineReader.finish.Goals as goal

pub returns-then-not-has_end-clause-from : goal.returns-then-not-has_end-clause-from
returns-then-not-has_end-clause-from g c =
    let i = c.self.inside in
    let s : OpenText = record { plan = i.lines.plan; calls = i.lines.calls; fed = record { lines = i.lines.fed.lines; said = i.lines.fed.said; held = i.held.items } } in
    rw (← c.self.view_is) (ended_early s c.self.invariant.2 c.misspelled.result _ (sym c.has_end.ensures ∙ c.if-not-has_end.true) (c.misspelled.ensures ∙ ap misspelled c.next_number.ensures.value) refl)

pub returns-clause-from : goal.returns-clause-from
returns-clause-from g c =
    let i = c.self.inside in
    let s : OpenText = record { plan = i.lines.plan; calls = i.lines.calls; fed = record { lines = i.lines.fed.lines; said = i.lines.fed.said; held = i.held.items } } in
    rw (← c.self.view_is) (ended_well s c.self.invariant.2 _ (sym c.has_end.ensures ∙ c.if-not-has_end.false) c.self.invariant.1 c.into_paused.ensures.from)
