use Rattle.mon_bounds.proofs.Texts.{has_text}
use Rattle.mon_bounds.proofs.laws.law_message_fits.Goals as goal

pub returns : goal.returns
returns c = has_text
