use Rattle.log_model.proofs.Beginnings.{begun_text, begun_short, begun_grown}
use Rattle.log_model.proofs.Committed.{keeps, nothing_above, learns}
use Rattle.log_model.proofs.SomeLogs.{some_log}
use Rattle.log_model.proofs.laws.law_windows.Goals as goal

pub returns : goal.returns
returns c = record {
  fold = keeps;
  above = nothing_above;
  learned = learns;
  some = some_log;
  next = λ log all c h room w K at value V. (begun_text log c h all room w K at value V, begun_short log c h all room w K at value V, begun_grown log c h all room w K at value V);
}
