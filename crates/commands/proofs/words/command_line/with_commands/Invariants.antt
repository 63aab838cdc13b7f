use Rattle.std.proofs.Common.{◌≡◌, take}
use Rattle.std.specs.List.{fold}
use Rattle.clap.specs.Words.{app_of, with_subcommand}
use Rattle.commands.specs.words.CommandLine.{shape_for}
use Rattle.commands.proofs.words.command_line.with_commands.Given as goal

abbrev pub invariant-loop-command : goal.invariant-loop-command
invariant-loop-command l = app_of l.made ≡ fold (λ a c. with_subcommand a (shape_for c)) (app_of l.fn.program) (take l.command-index l.command-items)
