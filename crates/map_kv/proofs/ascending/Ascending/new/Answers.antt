use Rattle.map_kv.proofs.Kept.{none_kept}
use Rattle.map_kv.proofs.ascending.Ascending.new.Goals as goal

pub returns : goal.returns
returns c = none_kept c.new.result.items c.new.ensures.items
