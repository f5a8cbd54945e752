use Rattle.std.proofs.Common.{Some, sym, subst}
use Rattle.mon_msg.specs.Protocol.Readings.{readings_of}
use Rattle.mon_msg.specs.Protocol.State.{booting}
use Rattle.quorum_model.specs.Files.{after_opening}
use Rattle.mon_world.specs.declared.monitor.Kept.{Kept}
use Rattle.mon_world.specs.Monitor.{Represents}
use Rattle.mon_world.proofs.Holding.{holds_itself, started}
use Rattle.mon_disk.specs.MemoryDisk.{MemoryState}
use Rattle.mon_msg.specs.declared.view.Me.{Me}
use Rattle.mon_site.specs.Faults.{OpensMap}
use Rattle.mon_store.specs.Whole.{disk_a, disk_b}
use Rattle.mon_world.specs.Times.{Passes, PassesAt, a_of, b_of}
use Rattle.mon_world.proofs.Passing.{opening_passes}
use Rattle.mon_world.proofs.monitor.Monitor.start.Goals as goal

pub start-requires : goal.start-requires
start-requires c =
    let x = c.requires in
    let t = c.take-disks.ensures.takes x.1 x.2 x.3 (holds_itself x.0 x.1 x.2 x.3 c.args.self.now x.4) in (x.1, x.3, t.rests)

pub returns-clause-stands : goal.returns-clause-stands
returns-clause-stands c me m s f stands =
    let self = c.args.self.now in
    let t = c.take-disks.ensures.takes m s f (holds_itself me m s f self stands) in
    let boot = c.boot-core.ensures in
    subst (λ (k : Kept). Represents me m (Some (booting me.member.rank)) (after_opening f) (record self { kept = k })) (sym c.put.ensures)
    (started me m f self stands.me_is stands.last c.in_ok-store.store c.boot-core.result (c.in_ok-store.ensures.starts m f t.rests) boot.member boot.rule boot.state (boot.follows (readings_of m)))

pub returns-clause-passes : goal.returns-clause-passes
returns-clause-passes c me m s f stands =
    let self = c.args.self.now in
    let t = c.take-disks.ensures.takes m s f (holds_itself me m s f self stands) in
    let d = c.take-disks.result.disks in
    let x = disk_a c.in_ok-store.store in
    let y = disk_b c.in_ok-store.store in
    subst (λ (k : Kept). PassesAt (OpensMap me.member m) self (record self { kept = k })) (sym c.put.ensures)
    (subst (λ (me : Me). Passes (OpensMap me.member m) (a_of self.kept) (b_of self.kept) x y) stands.me_is
    (subst (λ (a : MemoryState). Passes (OpensMap self.me.member m) a (b_of self.kept) x y) c.take-disks.ensures.a
    (subst (λ (b : MemoryState). Passes (OpensMap self.me.member m) d.a b x y) c.take-disks.ensures.b
    (opening_passes (OpensMap self.me.member m) d.a d.b x y (c.in_ok-store.ensures.any_time m f t.rests)))))
