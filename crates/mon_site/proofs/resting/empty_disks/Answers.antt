use Rattle.std.proofs.Common.{sym, subst}
use Rattle.std.specs.FinMap.{empty}
use Rattle.mon_disk.specs.MemoryDisk.{MemoryState}
use Rattle.quorum_model.specs.Files.{no_files}
use Rattle.mon_site.specs.Faults.{Rests}
use Rattle.mon_site.proofs.AtRest.{empty_disk, empty_rests}
use Rattle.mon_site.proofs.resting.empty_disks.Goals as goal

pub returns : goal.returns
returns c member =
    subst (λ (a : MemoryState). Rests member empty no_files a c.new-2.result) (sym c.new.ensures)
    (subst (λ (b : MemoryState). Rests member empty no_files empty_disk b) (sym c.new-2.ensures) (empty_rests member))
