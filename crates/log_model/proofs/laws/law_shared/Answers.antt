use Rattle.std.proofs.Common.{suc, arith}
use Rattle.log_model.proofs.Committed.{holds, keeps, keeps_shared}
use Rattle.log_model.proofs.FoldKeys.{kept_is, greatest_is, shares_next}
use Rattle.log_model.proofs.KeptKeys.{no_local}
use Rattle.log_model.proofs.laws.law_shared.Goals as goal

pub returns : goal.returns
returns c = record {
  keys = kept_is;
  own = λ log fits all c h. no_local log c (holds log fits all c h);
  greatest = greatest_is;
  keeps = λ log fits all c h m same at. keeps_shared log c m same at (keeps log fits all c h);
  learned = λ log fits all c h m same at. shares_next log c (holds log fits all (suc c) (omega arith)) (omega arith) m same at;
}
