use Rattle.log_model.proofs.ValueSizes.{any_text}
use Rattle.log_model.proofs.laws.law_proposed.Goals as goal

pub returns : goal.returns
returns c = any_text
