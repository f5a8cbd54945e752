use Rattle.mon_kv.proofs.StoreLaws.{store-remove}
use Rattle.mon_kv.proofs.kv.Kv.erase.Goals as goal

pub returns : goal.returns
returns c = rw (← c.self.view_is) (store-remove _ _ _ c.self.invariant.0 _ c.erase.ensures.after)
