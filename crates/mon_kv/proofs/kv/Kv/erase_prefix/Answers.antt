use Rattle.mon_kv.proofs.StoreLaws.{store-without_prefix}
use Rattle.mon_kv.proofs.kv.Kv.erase_prefix.Goals as goal

pub returns : goal.returns
returns c = rw (← c.self.view_is) (store-without_prefix _ _ _ c.self.invariant.0 c.erase_prefix.ensures.after)
