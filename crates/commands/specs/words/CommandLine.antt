-- The command line, in the words of clap's definitions.
use Rattle.std.specs.Prelude.{◌≡◌, ℕ, true, false, List, [], ◌∷◌, ◌++◌, codes, map}
use Rattle.std.specs.declared.option.Option.{Option}
use Rattle.std.specs.declared.option.Option.TheVariants.{Some}
use Rattle.clap.specs.Simple.{App, Shape, app_of, new_rule, new_shape, subcommand_of}
use Rattle.clap.specs.Walk.{Row, Rule, rule_of}
use Rattle.clap.specs.declared.builder.action.ArgAction.TheVariants.{Set}
use Rattle.clap.specs.declared.builder.arg.Arg.{Arg}
use Rattle.clap.specs.declared.builder.command.Command.{Command}
use Rattle.clap.specs.declared.builder.command.Command.TheViews.{out-Command}
use Rattle.commands.specs.declared.command.CommandName.{CommandName}
use Rattle.commands.specs.declared.command.CommandName.TheVariants as command
use Rattle.commands.specs.declared.words.table.Word.{Word}
use Rattle.commands.specs.declared.words.value_fault.ValueName.TheVariants as name
use Rattle.commands.specs.words.Values.{command_text, commands, name_text, lists_word, plan_word, requests_word, session_out_word, session_word}

-- a word with a value
abbrev pub option_rule : List ℕ → Rule
option_rule word = record (new_rule word) { long = Some word; action = Some Set; value_names = 1 }

-- a word that is required
abbrev pub required_rule : List ℕ → Rule
required_rule word = record (option_rule word) { required = true }

-- what a declared word is to clap
abbrev pub word_rule : Word → Rule
word_rule w = record (option_rule w.name.now) { required = w.required }

-- the words for the ends of a request, and for its limits
abbrev pub request_rules : List Rule
request_rules =
    required_rule (name_text name.From) ∷ required_rule (name_text name.To) ∷ required_rule (name_text name.At)
    ∷ option_rule (name_text name.MarginPpm) ∷ option_rule (name_text name.MaxHops) ∷ option_rule (name_text name.Avoid) ∷ []

-- the words of a command, in their order
abbrev pub rules_for : CommandName → List Rule
rules_for command.First = required_rule plan_word ∷ (request_rules ++ required_rule (name_text name.Count) ∷ option_rule session_out_word ∷ [])
rules_for command.Next = required_rule plan_word ∷ required_rule session_word ∷ required_rule (name_text name.Count) ∷ option_rule session_out_word ∷ []
rules_for command.Verify = required_rule plan_word ∷ required_rule session_word ∷ []
rules_for command.Check = required_rule plan_word ∷ []
rules_for command.Explain = required_rule plan_word ∷ (request_rules ++ required_rule (name_text name.Contacts) ∷ [])
rules_for command.Many = required_rule plan_word ∷ required_rule requests_word ∷ required_rule (name_text name.Count) ∷ []
rules_for command.Follow = required_rule plan_word ∷ required_rule lists_word ∷ []

-- a command with its words
abbrev pub shape_for : CommandName → Shape
shape_for c = record (new_shape (command_text c)) { rules = rules_for c }

-- the program, without its commands
abbrev pub bare_shape : Shape
bare_shape = record (new_shape (codes "cgrlist")) { has_version = true; no_binary_name = true; subcommand_required = true }

-- the program
abbrev pub program_app : App
program_app = record {
  top = record bare_shape { is_leaf = false };
  subs = map shape_for commands;
}

-- the subcommand that words name, with what they give under the names of its words
abbrev pub given_by : List (List ℕ) → Option (List ℕ × List Row)
given_by words = subcommand_of program_app words

-- an argument is this word's
pub record IsWord (rule : Rule) (a : Arg) : Type 0 where
  pub reads : rule_of a ≡ rule
  pub local : a.global ≡ false

-- a command is built, as it is declared
pub record IsCommand (shape : Shape) (c : Command) : Type 0 where
  pub reads : app_of c ≡ record { top = shape; subs = [] }
  pub local : (out-Command c).has_globals ≡ false

-- all commands were added to it
abbrev pub IsProgram : Command → Command → Type 0
IsProgram bare c =
    app_of c ≡ record {
      top = record (app_of bare).top { is_leaf = false };
      subs = (app_of bare).subs ++ program_app.subs;
    }
