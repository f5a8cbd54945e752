use Rattle.quorum_near.proofs.Whole.{every, floors, near}
use Rattle.quorum_near.proofs.laws.law_majority_is_near.Goals as goal

pub returns : goal.returns
returns c = record { some = near; every = every; floors = floors }
