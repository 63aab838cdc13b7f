use Rattle.std.proofs.Common.{map, take}
use Rattle.clap.specs.Simple.{new_shape}
use Rattle.commands.specs.words.CommandLine.{IsCommand, word_rule}
use Rattle.commands.specs.words.Values.{command_text}
use Rattle.commands.proofs.words.command_line.subcommand.Given as goal

abbrev pub invariant-loop-word : goal.invariant-loop-word
invariant-loop-word l = IsCommand (record (new_shape (command_text l.fn.command)) { rules = map word_rule (take l.word-index l.word-items) }) l.made
