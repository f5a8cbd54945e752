use Rattle.mon_name.proofs.Lives.{lives_apart}
use Rattle.mon_name.proofs.law.law_lives_apart.Goals as goal

pub returns : goal.returns
returns c = lives_apart
