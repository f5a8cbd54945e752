use Rattle.mon_kv.proofs.StoreLaws.{store-none}
use Rattle.mon_kv.proofs.kv.Kv.empty.Goals as goal

pub returns : goal.returns
returns c = store-none
