-- How calls end over the texts that they are asked.
use Rattle.std.specs.Prelude.{◌≡◌, ◌⊎◌, IsSomeAnd, Result, Ok, Err}
use Rattle.commands.specs.declared.command.CommandName.{CommandName}
use Rattle.commands.specs.declared.command.CommandName.TheVariants as command
use Rattle.commands.specs.declared.failure.Failure.{Failure}
use Rattle.commands.specs.declared.failure.Failure.TheVariants as failure
use Rattle.commands.specs.declared.failure.Status.{Status}
use Rattle.commands.specs.declared.words.value_fault.ValueFault.{ValueFault}
use Rattle.commands.specs.texts.Messages.{WritesMessage, failure_of_value, message_text, status_of}
use Rattle.commands.specs.words.Values.{ValuesRead, values_in}
use Rattle.webcgrlist.specs.declared.asked.Asked.{Asked}
use Rattle.webcgrlist.specs.declared.call.Run.{Run}
use Rattle.webcgrlist.specs.declared.call.Run.TheVariants.{Command, Canonical}
use Rattle.webcgrlist.specs.Asked.{values_asked}
use Rattle.webcgrlist.specs.Runs.{RunsCanonical, RunsCheck, RunsExplain, RunsFirst, RunsFollow, RunsMany, RunsNext, RunsVerify, WritersSeen}

-- a call ended before its run: it writes the message of why, and nothing else
pub record StopsBefore (why : Failure) (old new : WritersSeen) (ended : Status) : Type 0 where
  pub no_report : new.report ≡ old.report
  pub no_session : new.session ≡ old.session
  pub reports : WritesMessage old.message (message_text why) new.message
  pub ends : ended ≡ status_of why

-- the run of a command with these values
abbrev pub RunsCommand : CommandName → Asked → ValuesRead → WritersSeen → WritersSeen → Status → Type 0
RunsCommand command.First a values old new ended = IsSomeAnd values.request (λ r. IsSomeAnd values.count (λ count. RunsFirst a r count old new ended))
RunsCommand command.Next a values old new ended = IsSomeAnd values.count (λ count. RunsNext a count old new ended)
RunsCommand command.Verify a values old new ended = RunsVerify a old new ended
RunsCommand command.Check a values old new ended = RunsCheck a old new ended
RunsCommand command.Explain a values old new ended = IsSomeAnd values.request (λ r. RunsExplain a r values.contacts old new ended)
RunsCommand command.Many a values old new ended = IsSomeAnd values.count (λ count. RunsMany a count old new ended)
RunsCommand command.Follow a values old new ended = RunsFollow a old new ended

-- a command is run with the values that were read, or it ended before its run, with the message of their first fault
abbrev pub RunsRead : CommandName → Asked → Result ValuesRead ValueFault → WritersSeen → WritersSeen → Status → Type 0
RunsRead name a (Ok values) old new ended = RunsCommand name a values old new ended
RunsRead name a (Err fault) old new ended = StopsBefore (failure_of_value fault) old new ended

-- how a call ends: memory is refused before its run, or it does as its texts say
abbrev pub EndsCall : Run → Asked → WritersSeen → WritersSeen → Status → Type 0
EndsCall (Command name) a old new ended = StopsBefore failure.NoMemory old new ended ⊎ RunsRead name a (values_in name (values_asked a)) old new ended
EndsCall Canonical a old new ended = StopsBefore failure.NoMemory old new ended ⊎ RunsCanonical a old new ended
