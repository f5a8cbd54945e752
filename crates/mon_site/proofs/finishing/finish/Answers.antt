use Rattle.std.proofs.Common.{sym, subst}
use Rattle.std.specs.Prelude.{if◌then◌else◌}
use Rattle.mon_disk.specs.MemoryDisk.{MemoryState}
use Rattle.mon_store.specs.Whole.{disk_a}
use Rattle.mon_tx.specs.Map.{apply}
use Rattle.quorum_model.specs.Cuts.{append_cut}
use Rattle.mon_site.specs.Faults.{Settles}
use Rattle.mon_site.proofs.finishing.finish.Goals as goal

pub returns-in-Ok : goal.returns-in-Ok
returns-in-Ok c member m f faulty =
    let u = c.args.injected in
    let ops = c.args.tx.now in
    let s = c.apply_until_fault.new.store in
    let w = c.in-Ok.ensures member m f faulty in (
      w.0,
      w.1,
      subst (λ (a : MemoryState). Settles member (if c.in-Ok.kept then apply ops m else m) (append_cut f m u.disk u.call u.image ops) a c.close.result.b) (sym c.close.ensures.a)
          (subst (λ (b : MemoryState). Settles member (if c.in-Ok.kept then apply ops m else m) (append_cut f m u.disk u.call u.image ops) (disk_a s) b) (sym c.close.ensures.b) w.2),
    )
