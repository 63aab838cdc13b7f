use Rattle.std.proofs.Common.{[], ap, ap₂, sym, ◌∙◌, ◌||◌}
use Rattle.std.proofs.lemmas.List.{map_more}
use Rattle.clap.specs.Simple.{new_shape, with_rule}
use Rattle.commands.specs.words.CommandLine.{word_rule}
use Rattle.commands.specs.words.Values.{command_text}
use Rattle.commands.proofs.words.command_line.subcommand.Goals as goal

pub loop-word-preserved : goal.loop-word-preserved
loop-word-preserved c = record {
  reads = c.in_ok-made.ensures.shape c.argument.ensures.local
      ∙ ap₂ with_rule c.loop-word.invariant.reads c.argument.ensures.reads
      ∙ ap (λ rules. record { top = record (new_shape (command_text c.args.command)) { rules = rules }; subs = [] }) (sym (map_more word_rule _ _ _ c.loop-word-test.true));
  local = c.in_ok-made.ensures.globals ∙ ap₂ (λ a b. a || b) c.loop-word.invariant.local c.argument.ensures.local;
}
