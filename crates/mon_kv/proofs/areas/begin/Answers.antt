use Rattle.std.proofs.Common.{refl}
use Rattle.mon_kv.proofs.AreaLaws.{changes_begin}
use Rattle.mon_kv.proofs.areas.begin.Goals as goal

pub returns-clause-ok : goal.returns-clause-ok
returns-clause-ok c =
    changes_begin _ _ _ c.put.new.self _ _ c.requires.whole (c.in_ok-put-2.ensures.ok c.requires.whole.in_order) c.requires.prefix (c.in_ok-put.ensures.ok refl)
