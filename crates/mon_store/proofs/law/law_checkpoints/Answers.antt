use Rattle.mon_store.proofs.Back.{checkpoint_takes}
use Rattle.mon_store.proofs.Again.{checkpoint_again}
use Rattle.mon_store.proofs.law.law_checkpoints.Goals as goal

pub returns-clause-found : goal.returns-clause-found
returns-clause-found c = checkpoint_takes

pub returns-clause-only : goal.returns-clause-only
returns-clause-only c = λ reading m. checkpoint_again m reading
