-- The finder moves into the loader of the request.
use Rattle.std.proofs.Common.{◌≡◌, ℕ, refl, sym, ◌∙◌, arith, Option, Some, None}
use Rattle.std.specs.Option.{is_some}
use Rattle.std.specs.Prelude.{nat_lt}
use Rattle.sabr_session.proofs.TextLemmas.SaidLines.{spelled}
use Rattle.sabr_session.proofs.reading.session_lines.SessionLines.read_request.Goals as goal

-- there is no loader after two lines
no_loader : {X : Type 0} (loader : Option X) (lines : ℕ) → is_some loader ≡ nat_lt 2 lines → lines ≡ 2 → loader ≡ None
no_loader None lines has two = refl
no_loader (Some l) lines has two = absurd (grind arith)

pub returns-clause-value : goal.returns-clause-value
returns-clause-value g c =
    let none = no_loader c.self.inside.loader c.self.inside.lines c.self.invariant.1 (rw (← c.self.view_is) at c.requires) in
    rw (← c.self.view_is, spelled 3 c.request_of.ensures c.ok_or.ensures.value c.in_ok-values.was, c.in_ok-request.ensures, c.new.ensures, none) refl

pub returns-clause-calls : goal.returns-clause-calls
returns-clause-calls g c =
    let none = no_loader c.self.inside.loader c.self.inside.lines c.self.invariant.1 (rw (← c.self.view_is) at c.requires) in
    rw (← c.self.view_is, c.new.ensures, none, sym c.take.ensures.value ∙ c.in-Some.is) refl
