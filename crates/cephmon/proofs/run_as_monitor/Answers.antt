use Rattle.cephmon.proofs.run_as_monitor.Goals as goal

pub returns : goal.returns
returns c = record { lives = rw c.status_of.ensures (_, _, _, _, c.run_lives-ended.ensures.lives) }
