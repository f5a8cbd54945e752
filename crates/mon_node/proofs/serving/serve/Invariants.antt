use Rattle.std.proofs.Common.{◌≡◌}
use Rattle.mon_store.specs.Whole.{disk_a, disk_b}
use Rattle.mon_node.specs.Nodes.{unstarted, store_view_of, disks_of}
use Rattle.mon_node.specs.Servers.{serving_of, IsInUse}
use Rattle.mon_node.proofs.Looping.{HasServed}
use Rattle.mon_node.proofs.serving.serve.Given as goal

abbrev pub invariant-loop-done : goal.invariant-loop-done
invariant-loop-done g l = record {
  served : HasServed (record { member = l.fn.member; rule = l.fn.rule }) (unstarted l.fn.member.rank (store_view_of l.fn.store) (g.C.Clock.left l.fn.clock) (g.L.Link.state l.fn.link).observed)
      (disks_of g.D.Disk.state l.fn.store) (g.L.Link.history l.fn.link) l.done (serving_of l.server (g.C.Clock.left l.clock) (g.L.Link.state l.link).observed) (disks_of g.D.Disk.state l.server.store)
      (g.L.Link.history l.link);
  in_use : IsInUse g.D.Disk.state l.server;
  own : l.server.me ≡ record { member = l.fn.member; rule = l.fn.rule };
  faults : (g.L.Link.state l.link).faults ≡ (g.L.Link.state l.fn.link).faults;
  a : (g.D.Disk.state (disk_a l.server.store)).faults ≡ (g.D.Disk.state (disk_a l.fn.store)).faults;
  b : (g.D.Disk.state (disk_b l.server.store)).faults ≡ (g.D.Disk.state (disk_b l.fn.store)).faults;
}
