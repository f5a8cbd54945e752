use Rattle.map_kv.proofs.Kept.{none_kept}
use Rattle.map_kv.proofs.map.KvMap.new.Goals as goal

pub returns : goal.returns
returns c = none_kept c.new.result.entries c.new.ensures.empty
