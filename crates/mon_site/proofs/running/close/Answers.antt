use Rattle.std.proofs.Common.{sym, subst}
use Rattle.mon_disk.specs.MemoryDisk.{MemoryState}
use Rattle.mon_store.specs.Whole.{disk_a}
use Rattle.mon_site.specs.Faults.{Rests}
use Rattle.mon_site.proofs.InUse.{rests}
use Rattle.mon_site.proofs.running.close.Goals as goal

pub returns-clause-rests : goal.returns-clause-rests
returns-clause-rests c member m f runs =
    let s = c.args.store in
    subst (λ (a : MemoryState). Rests member m f a c.close.result.b) (sym c.close.ensures.a)
    (subst (λ (b : MemoryState). Rests member m f (disk_a s) b) (sym c.close.ensures.b) (rests member m f s runs))
