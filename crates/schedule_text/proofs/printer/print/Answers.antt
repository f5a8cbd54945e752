use Rattle.std.proofs.Common.{ap, ◌∙◌}
use Rattle.std.proofs.lemmas.Result.{IfOk-weaker}
use Rattle.schedule_text.specs.Schedule.{schedule_at}
use Rattle.schedule_text.proofs.ScheduleLaws.{schedule_again}
use Rattle.schedule_text.proofs.printer.print.Goals as goal

pub returns-clause-again : goal.returns-clause-again
returns-clause-again c =
    IfOk-weaker c.encoded.result _ _ (λ bytes e. ap schedule_at e ∙ schedule_again c.args.schedule.now c.requires) c.encoded.ensures
