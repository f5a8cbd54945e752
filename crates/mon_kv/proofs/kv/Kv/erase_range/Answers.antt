use Rattle.mon_kv.proofs.StoreLaws.{store-without_versions}
use Rattle.mon_kv.proofs.kv.Kv.erase_range.Goals as goal

pub returns : goal.returns
returns c = rw (← c.self.view_is, ← c.get.ensures.value, ← c.get-2.ensures.value) (store-without_versions _ _ _ c.self.invariant.0 _ _ c.erase_range.ensures.after)
