use Rattle.log_model.proofs.Committed.{shown, shown_shared}
use Rattle.log_model.proofs.LongestPrefix.{longest_is_prefix, others_remain}
use Rattle.log_model.proofs.laws.law_shown.Goals as goal

pub returns : goal.returns
returns c = record {
  kept = shown;
  shared = λ log fits all c h m same. shown_shared log c m same fits all h;
  first = longest_is_prefix;
  more = others_remain;
}
