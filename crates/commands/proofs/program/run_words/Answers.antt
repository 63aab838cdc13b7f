use Rattle.std.proofs.Common.{inl, inr, refl}
use Rattle.clap.specs.Words.{found_of}
use Rattle.commands.proofs.WordLemmas.RequestWords.{has_fault}
use Rattle.commands.proofs.program.run_words.Goals as goal

pub returns-in-Some : goal.returns-in-Some
returns-in-Some g c =
    let call = rw c.in-Ok.ensures.given at c.in-Some.ensures in
    inr (c.in-Ok.ensures.fault, record { name = c.in-Some.command; found = found_of c.in-Some.words.now; is = call; does = c.run_command.ensures })

pub returns : goal.returns
returns g c =
    inl (
      elim c.tell_usage.ensures [
        | inl (text, other, reports, ends) ↦ inl (text, has_fault c.in-Err.refusal _ c.in-Err.ensures.fault other, reports, ends)
        | inr memory ↦ inr memory
      ],
      refl,
      refl,
    )
