use Rattle.std.proofs.Common.{sym, subst}
use Rattle.mon_types.specs.declared.names.Side.{Side}
use Rattle.mon_disk.specs.MemoryDisk.{MemoryState}
use Rattle.mon_site.specs.Faults.{IsReady}
use Rattle.mon_site.proofs.Readying.{ready_a, ready_b}
use Rattle.mon_site.proofs.disks.inject_one.Goals as goal
use Rattle.mon_site.proofs.disks.inject_one.Goals.{in-A, in-B}

pub returns : goal.returns
returns c member m f rests =
    let u = c.args.injected in
    elim c.match-injected.branch [
      | in-A w ↦
          subst (λ (x : MemoryState). IsReady u.disk u.call u.image member m f x c.match-injected.b) (sym w.a-is)
          (subst (λ (y : MemoryState). IsReady u.disk u.call u.image member m f w.upset.new.self y) (sym w.b-is)
          (subst (λ (s : Side). IsReady s u.call u.image member m f w.upset.new.self c.args.disks.b) (sym w.in-A.is)
          (ready_a member m f c.args.disks.a c.args.disks.b u.call u.image rests c.requires.first c.requires.most w.upset.new.self w.upset.ensures.state w.upset.ensures.seen w.upset.ensures.any_time)))
      | in-B w ↦
          subst (λ (x : MemoryState). IsReady u.disk u.call u.image member m f x c.match-injected.b) (sym w.a-is)
          (subst (λ (y : MemoryState). IsReady u.disk u.call u.image member m f c.args.disks.a y) (sym w.b-is)
          (subst (λ (s : Side). IsReady s u.call u.image member m f c.args.disks.a w.upset-in-B.new.self) (sym w.in-B.is)
          (ready_b member m f c.args.disks.a c.args.disks.b u.call u.image rests c.requires.first c.requires.most w.upset-in-B.new.self w.upset-in-B.ensures.state w.upset-in-B.ensures.seen w.upset-in-B.ensures.any_time)))
    ]
