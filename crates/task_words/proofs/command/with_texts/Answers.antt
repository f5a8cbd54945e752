use Rattle.std.proofs.Common.{ap, ◌∙◌}
use Rattle.std.proofs.lemmas.Result.{IfOk-weaker}
use Rattle.clap.specs.Words.{app_of, with_subcommand}
use Rattle.task_words.proofs.command.with_texts.Goals as goal

pub returns-in-Ok : goal.returns-in-Ok
returns-in-Ok c =
    IfOk-weaker c.subcommand-in-Ok.result _ _ (λ r adds. adds.shape c.in-Ok.ensures.local ∙ ap (with_subcommand (app_of c.args.command)) c.in-Ok.ensures.shape) c.subcommand-in-Ok.ensures
