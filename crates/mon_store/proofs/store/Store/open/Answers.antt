use Rattle.mon_store.proofs.Applying.{stands_pair}
use Rattle.mon_store.proofs.store.Store.open.Goals as goal

pub returns-in-Ok-clause-safe : goal.returns-in-Ok-clause-safe
returns-in-Ok-clause-safe g c =
    let found = c.in-Ok.found in
    rw (c.on.ensures.a, c.on.ensures.b, c.on.ensures.side, c.on.ensures.journal, c.on.ensures.map) (stands_pair g.D.Disk.state c.open_disks.new.a c.open_disks.new.b found.side found.journal found.kv c.in-Ok.ensures.sound)
