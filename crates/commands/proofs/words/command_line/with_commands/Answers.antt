use Rattle.std.proofs.Common.{ap, ap₂, sym, ◌∙◌}
use Rattle.std.proofs.lemmas.List.Sums.{fold_more}
use Rattle.clap.specs.Words.{App, with_subcommand}
use Rattle.commands.proofs.words.command_line.with_commands.Goals as goal

pub loop-command-preserved : goal.loop-command-preserved
loop-command-preserved c =
    let is = c.in_ok-subcommand.ensures in
    c.in_ok-made.ensures.shape is.local
    ∙ ap₂ with_subcommand c.loop-command.invariant (ap (λ (x : App). x.top) is.reads)
    ∙ sym (fold_more _ _ _ _ _ c.loop-command-test.true)
