-- A line within the limits is line_executed.
use Rattle.sabr_plan.proofs.Names.{refl, sym, ap, ◌∙◌, ◌<◌, arith}
use Rattle.sabr_plan.specs.Reading.{most_lines}
use Rattle.sabr_plan.specs.Feeding.{Fed}
use Rattle.sabr_plan.proofs.Held.{known_refused, known_read}
use Rattle.sabr_plan.proofs.feed.PlanFeed.end_known_line.Goals as goal

pub returns-in-Err : goal.returns-in-Err
returns-in-Err g c =
    let i = c.self-2.inside in
    let none = ap (λ (s : Fed). s.held) c.self-2.view_is ∙ c.requires.held in
    let few : i.lines < most_lines = omega (arith, ap (λ (s : Fed). s.lines) (c.self-2.view_is ∙ sym c.self.view_is), c.if-self-ge-MAX_LINES.false) in
    rw (← c.self-2.view_is) (known_refused (record { lines = i.lines; reading = i.reading; held = i.held.items }) _ c.args.line.now none few c.if-line-gt-MAX_LINE_BYTES.false c.in-Err.kind (rw c.in-Err.is at c.execute_known.ensures) refl)

pub returns : goal.returns
returns g c =
    let i = c.self-2.inside in
    let none = ap (λ (s : Fed). s.held) c.self-2.view_is ∙ c.requires.held in
    let few : i.lines < most_lines = omega (arith, ap (λ (s : Fed). s.lines) (c.self-2.view_is ∙ sym c.self.view_is), c.if-self-ge-MAX_LINES.false) in
    rw (← c.self-2.view_is) (known_read (record { lines = i.lines; reading = i.reading; held = i.held.items }) _ c.args.line.now none few c.if-line-gt-MAX_LINE_BYTES.false tt (rw c.in_default.is at c.execute_known.ensures) refl none)
