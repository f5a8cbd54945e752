use Rattle.cephmon.proofs.run_over.Goals as goal

pub returns : goal.returns
returns c = record { runs = rw c.status_of.ensures (_, _, _, _, c.run-ended.ensures.ends) }
