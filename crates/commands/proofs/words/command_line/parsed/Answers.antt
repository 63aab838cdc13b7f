use Rattle.std.proofs.Common.{◌≡◌, ap, map, subst, ◌∙◌}
use Rattle.std.proofs.lemmas.Result.{IfOk-weaker}
use Rattle.clap.specs.Words.{App, FailsBy, app_of, fault_of, is_simple, is_simple_and_free, subcommand_of}
use Rattle.commands.specs.words.CommandLine.{program_app}
use Rattle.commands.proofs.WordLemmas.RequestWords.{is_free_program, is_simple_program}
use Rattle.commands.proofs.WordLemmas.NamedWords.{named_if_read}
use Rattle.commands.proofs.words.command_line.parsed.Goals as goal

pub returns-clause-given : goal.returns-clause-given
returns-clause-given c =
    let parse = c.try_get_matches_from in
    let is : app_of c.in_ok-program.field-0 ≡ program_app = c.in_ok-program.ensures in
    IfOk-weaker parse.result _ _ (λ m h. (h (ap is_simple is ∙ is_simple_program)).1 ∙ ap (λ (a : App). subcommand_of a (map (λ w. w.now) c.args.words.now)) is) parse.ensures.matches

pub returns-clause-fault : goal.returns-clause-fault
returns-clause-fault c =
    let parse = c.try_get_matches_from in
    let is : app_of c.in_ok-program.field-0 ≡ program_app = c.in_ok-program.ensures in
    subst (λ (a : App). FailsBy (fault_of a (map (λ w. w.now) c.args.words.now)) parse.result) is (parse.ensures.kinds (ap is_simple_and_free is ∙ is_free_program))

pub returns-clause-named : goal.returns-clause-named
returns-clause-named c = named_if_read _ _ (returns-clause-given c) (returns-clause-fault c)
