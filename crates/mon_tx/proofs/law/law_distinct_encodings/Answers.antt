use Rattle.mon_tx.proofs.Again.{distinct_encodings}
use Rattle.mon_tx.proofs.law.law_distinct_encodings.Goals as goal

pub returns : goal.returns
returns c = distinct_encodings
