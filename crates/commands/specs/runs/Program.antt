-- What the program leaves, from the words after its name.
use Rattle.std.specs.Prelude.{◌≡◌, ◌≢◌, ◌⊎◌, List, [], ℕ, option_and_then, option_map}
use Rattle.std.specs.declared.option.Option.{Option}
use Rattle.std.specs.declared.option.Option.TheVariants.{Some}
use Rattle.clap.specs.Faults.{fault_of}
use Rattle.clap.specs.Walk.{Row, rows_of}
use Rattle.clap.specs.declared.parser.matches.Found.{Found}
use Rattle.sabr_model.specs.Devices.{Output}
use Rattle.commands.specs.declared.command.CommandName.{CommandName}
use Rattle.commands.specs.declared.failure.Failure.{Failure}
use Rattle.commands.specs.declared.failure.Failure.TheVariants as failure
use Rattle.commands.specs.declared.failure.Status.{Status}
use Rattle.commands.specs.declared.failure.Status.TheVariants as status
use Rattle.commands.specs.texts.Messages.{WritesMessage, message_text, status_of}
use Rattle.commands.specs.words.CommandLine.{given_by, program_app}
use Rattle.commands.specs.words.Values.{command_named}
use Rattle.commands.specs.runs.Calls.{FileRules, Left, RunsCommand, StopsBefore}

-- a subcommand's name, with what was given under the names of its words
abbrev pub Given : Type 0
Given = Option (List ℕ × List Row)

-- the command that was named
abbrev pub named_in : Given → Option CommandName
named_in given = option_and_then (λ g. command_named g.0) given

-- what was given to it
abbrev pub rows_in : Given → Option (List Row)
rows_in given = option_map (λ g. g.1) given

-- a command ended before its run, with the message and the status of why
pub record EndsBefore (rules : FileRules) (name : CommandName) (found : Found) (left left₁ : Left) (out out₁ err err₁ : Output) (ended : Status) : Type 0 where
  pub why : Failure
  pub stops : StopsBefore rules name found why
  pub writes_nothing : out₁ ≡ out
  pub makes_nothing : left₁ ≡ left
  pub reports : WritesMessage err (message_text why) err₁
  pub ends : ended ≡ status_of why

-- a command was run, or it ended before its run
abbrev pub EndsCommand : FileRules → CommandName → Found → Left → Left → Output → Output → Output → Output → Status → Type 0
EndsCommand rules name found left left₁ out out₁ err err₁ ended =
    RunsCommand name rules found left left₁ out out₁ err err₁ ended ⊎ EndsBefore rules name found left left₁ out out₁ err err₁ ended

-- the command that was named, with what was given to it
pub record IsCall (given : Given) (name : CommandName) (found : Found) : Type 0 where
  pub named : named_in given ≡ Some name
  pub rows : rows_in given ≡ Some (rows_of found)

-- the command that was named ended over what was given to it
pub record EndsNamed (rules : FileRules) (given : Given) (left left₁ : Left) (out out₁ err err₁ : Output) (ended : Status) : Type 0 where
  pub name : CommandName
  pub found : Found
  pub is : IsCall given name found
  pub does : EndsCommand rules name found left left₁ out out₁ err err₁ ended

-- the words were refused: for this reason, and then a text is written and the status is Usage; or memory was
abbrev pub ReportsRefusal : Type 0 → Output → Output → Status → Type 0
ReportsRefusal Why err err₁ ended =
    ((text : List ℕ) × Why × WritesMessage err text err₁ × (ended ≡ status.Usage))
    ⊎ (WritesMessage err (message_text failure.NoMemory) err₁ × (ended ≡ status.Memory))

-- what the program leaves over these words: if they have a fault or ask for help, and clap's own account names the
-- kinds, or if memory for them was refused, no command is begun; else the command that they name ended
abbrev pub EndsWords : FileRules → List (List ℕ) → Left → Left → Output → Output → Output → Output → Status → Type 0
EndsWords rules words left left₁ out out₁ err err₁ ended =
    (ReportsRefusal (fault_of program_app words ≢ []) err err₁ ended × (out₁ ≡ out) × (left₁ ≡ left))
    ⊎ ((fault_of program_app words ≡ []) × EndsNamed rules (given_by words) left left₁ out out₁ err err₁ ended)
