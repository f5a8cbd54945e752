use Rattle.calm_command.proofs.OneCommand.{next_rests}
use Rattle.calm_command.proofs.RestsCalm.{is_calm}
use Rattle.calm_command.proofs.laws.law_calm_command.Goals as goal

pub returns : goal.returns
returns c = record { next = next_rests; calm = is_calm }
