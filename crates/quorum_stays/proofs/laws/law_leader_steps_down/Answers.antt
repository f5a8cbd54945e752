use Rattle.quorum_stays.proofs.SteppingDown.{active_steps_down, idle_steps_down, serving_steps_down}
use Rattle.quorum_stays.proofs.laws.law_leader_steps_down.Goals as goal

pub returns : goal.returns
returns c = record { serving = serving_steps_down; active = active_steps_down; idle = idle_steps_down }
