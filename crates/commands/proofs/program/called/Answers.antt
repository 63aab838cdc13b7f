use Rattle.std.proofs.Common.{◌≡◌, sym, ◌∙◌}
use Rattle.clap.specs.Words.{subcommand_rows_of}
use Rattle.commands.specs.runs.Program.{named_in}
use Rattle.commands.specs.words.Values.{command_named}
use Rattle.commands.proofs.RunLemmas.PageTexts.{name_given, named_by}
use Rattle.commands.proofs.program.called.Goals as goal

pub returns : goal.returns
returns c =
    let named : named_in (subcommand_rows_of c.args.matches.now) ≡ command_named c.in_ok-name.name.now =
    named_by _ _ (name_given _ ∙ sym (rw c.in_ok-name.was at c.subcommand.ensures.name)) in
    record {
      named = named ∙ sym c.command_named.ensures ∙ c.in_ok-command.was;
      rows = sym (rw c.in_ok-name.was at c.subcommand.ensures.rows);
    }
