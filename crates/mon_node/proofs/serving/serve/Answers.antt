use Rattle.std.proofs.Common.{Ok, Err, ap, subst, ◌∙◌, arith}
use Rattle.mon_msg.specs.declared.view.Me.{Me}
use Rattle.mon_store.specs.Whole.{disk_a, disk_b}
use Rattle.mon_store.specs.declared.store.Store.{Store}
use Rattle.mon_node.specs.Lasting.{BothVisible, PassIteration}
use Rattle.mon_node.specs.Nodes.{unstarted, store_view_of, disks_of}
use Rattle.mon_node.specs.Servers.{serving_of}
use Rattle.mon_node.specs.Serving.{EndsIteration}
use Rattle.mon_node.specs.Iterations.{start, iteration}
use Rattle.mon_msg.specs.Protocol.Timers.{due}
use Rattle.mon_node.specs.Talking.{TalkIteration, asked}
use Rattle.mon_node.proofs.Talking.{talk_as}
use Rattle.mon_node.proofs.Looping.{start_as, iteration_as, pass_iteration_as, started, start_ends, goes_on, ends_here, all_made}
use Rattle.mon_node.proofs.Standing.{in_use_leaves}
use Rattle.mon_node.proofs.serving.serve.Goals as goal

pub returns-in-Err-clause-serves : goal.returns-in-Err-clause-serves
returns-in-Err-clause-serves g c =
    let me : Me = record { member = c.args.member; rule = c.args.rule } in
    let clock = g.C.Clock.left c.args.clock.now in
    let observed = (g.L.Link.state c.args.link.now).observed in
    let read = g.C.Clock.left c.now-first.new.self in
    let left = (g.L.Link.state c.take.new.link).observed in
    let first = c.now-first.result in
    let server = c.new-server.result in
    let e = c.in-Err.end in
    let begun = unstarted c.args.member.rank (store_view_of c.args.store) clock observed in
    let starts = start_as c.args.member.rank (store_view_of c.args.store) clock read observed first (serving_of server read observed) c.now-first.ensures.left (c.new-server.ensures.serving read observed) in
    rw (c.end.ensures.end, c.end.ensures.turns, c.end.ensures.a, c.end.ensures.b)
    (start_ends me begun (disks_of g.D.Disk.state c.args.store) (g.L.Link.history c.args.link.now) c.args.turns first e read left (disks_of g.D.Disk.state c.take.new.self.store) (g.L.Link.history c.take.new.link) c.now-first.ensures.shows
    (iteration_as {T = Unit {0}} me server.me _ (start first begun) (Err e) (serving_of c.take.new.self read left) c.new-server.ensures.me starts (c.in-Err.ensures.ends read))
    (pass_iteration_as {T = Unit {0}} g.D.Disk.state me server.me _ (start first begun) (Err e) left server.store c.args.store (disks_of g.D.Disk.state c.take.new.self.store) c.new-server.ensures.me starts c.new-server.ensures.store (c.in-Err.ensures.passes read))
    (talk_as {T = Unit {0}} g.D.Disk.state me server.me _ (start first begun) (Err e) _ _ server.store c.args.store (disks_of g.D.Disk.state c.take.new.self.store) c.new-server.ensures.me starts c.new-server.ensures.store (c.in-Err.ensures.talks read)))

pub loop-done-init : goal.loop-done-init
loop-done-init g c =
    let me : Me = record { member = c.args.member; rule = c.args.rule } in
    let clock = g.C.Clock.left c.args.clock.now in
    let observed = (g.L.Link.state c.args.link.now).observed in
    let read = g.C.Clock.left c.now-first.new.self in
    let first = c.now-first.result in
    let server = c.new-server.result in
    let after = serving_of c.take.new.self read (g.L.Link.state c.take.new.link).observed in
    let begun = unstarted c.args.member.rank (store_view_of c.args.store) clock observed in
    let starts = start_as c.args.member.rank (store_view_of c.args.store) clock read observed first (serving_of server read observed) c.now-first.ensures.left (c.new-server.ensures.serving read observed) in
    let disks = disks_of g.D.Disk.state c.take.new.self.store in
    let passes = pass_iteration_as g.D.Disk.state me server.me _ (start first begun) (Ok c.in_default.field-0) (g.L.Link.state c.take.new.link).observed server.store c.args.store disks c.new-server.ensures.me starts c.new-server.ensures.store (c.in_default.ensures.passes read) in
    record {
      served = started me begun (disks_of g.D.Disk.state c.args.store) (g.L.Link.history c.args.link.now) first after disks (g.L.Link.history c.take.new.link) c.now-first.ensures.shows (iteration_as me server.me _ (start first begun) (Ok c.in_default.field-0) after c.new-server.ensures.me starts (c.in_default.ensures.ends read)) (λ both. (passes both).0)
          (talk_as g.D.Disk.state me server.me _ (start first begun) (Ok c.in_default.field-0) _ _ server.store c.args.store disks c.new-server.ensures.me starts c.new-server.ensures.store (c.in_default.ensures.talks read));
      in_use = c.in_default.ensures.in_use;
      own = c.in_default.ensures.me ∙ c.new-server.ensures.me;
      faults = c.in_default.ensures.faults;
      a = c.in_default.ensures.counts.0 ∙ ap (λ (s : Store g.row.D.Denot). (g.D.Disk.state (disk_a s)).faults) c.new-server.ensures.store;
      b = c.in_default.ensures.counts.1 ∙ ap (λ (s : Store g.row.D.Denot). (g.D.Disk.state (disk_b s)).faults) c.new-server.ensures.store;
    }

pub returns-in-Err-iteration-clause-serves : goal.returns-in-Err-iteration-clause-serves
returns-in-Err-iteration-clause-serves g c =
    let l = c.loop-done in
    let me : Me = record { member = c.args.member; rule = c.args.rule } in
    let begun = unstarted c.args.member.rank (store_view_of c.args.store) (g.C.Clock.left c.args.clock.now) (g.L.Link.state c.args.link.now).observed in
    let now = serving_of l.server (g.C.Clock.left l.clock) (g.L.Link.state l.link).observed in
    let clock = g.C.Clock.left c.iteration.new.clock in
    let observed = (g.L.Link.state c.iteration.new.link).observed in
    let e = c.in-Err-iteration.end in
    let t = c.in-Err-iteration.ensures.iteration in
    let old = disks_of g.D.Disk.state l.server.store in
    let new = disks_of g.D.Disk.state c.iteration.new.self.store in
    let h = subst (λ (x : Me). EndsIteration {T = Unit {0}} x (iteration x t.0 now) (Err e) (serving_of c.iteration.new.self clock observed)) l.invariant.own t.2 in
    let passes = subst (λ (x : Me). BothVisible old → PassIteration {T = Unit {0}} x (iteration x t.0 now) (Err e) observed old new) l.invariant.own t.3 in
    let talk = subst (λ (x : Me). TalkIteration {T = Unit {0}} x (iteration x t.0 now) (asked (due now.node.state.timers) t.0) (Err e) (g.L.Link.history l.link) (g.L.Link.history c.iteration.new.link) old new) l.invariant.own t.4 in
    rw (c.end-in-Err-iteration.ensures.end, c.end-in-Err-iteration.ensures.turns, c.end-in-Err-iteration.ensures.a, c.end-in-Err-iteration.ensures.b)
    (ends_here me begun (disks_of g.D.Disk.state c.args.store) (g.L.Link.history c.args.link.now) l.done now old (g.L.Link.history l.link) l.invariant.served t.0 t.1 c.args.turns e clock observed new (g.L.Link.history c.iteration.new.link) (omega (arith, c.loop-done-test.true)) h passes talk)

pub loop-done-preserved : goal.loop-done-preserved
loop-done-preserved g c =
    let l = c.loop-done in
    let me : Me = record { member = c.args.member; rule = c.args.rule } in
    let begun = unstarted c.args.member.rank (store_view_of c.args.store) (g.C.Clock.left c.args.clock.now) (g.L.Link.state c.args.link.now).observed in
    let now = serving_of l.server (g.C.Clock.left l.clock) (g.L.Link.state l.link).observed in
    let after = serving_of c.iteration.new.self (g.C.Clock.left c.iteration.new.clock) (g.L.Link.state c.iteration.new.link).observed in
    let t = c.in_default-iteration.ensures.iteration in
    let old = disks_of g.D.Disk.state l.server.store in
    let new = disks_of g.D.Disk.state c.iteration.new.self.store in
    let passes = subst (λ (x : Me). BothVisible old → PassIteration x (iteration x t.0 now) (Ok c.in_default-iteration.field-0) (g.L.Link.state c.iteration.new.link).observed old new) l.invariant.own t.3 in
    let talk = subst (λ (x : Me). TalkIteration x (iteration x t.0 now) (asked (due now.node.state.timers) t.0) (Ok c.in_default-iteration.field-0) (g.L.Link.history l.link) (g.L.Link.history c.iteration.new.link) old new) l.invariant.own t.4 in
    record {
      served = goes_on me begun (disks_of g.D.Disk.state c.args.store) (g.L.Link.history c.args.link.now) l.done now old (g.L.Link.history l.link) l.invariant.served t.0 t.1 after new (g.L.Link.history c.iteration.new.link) (subst (λ (x : Me). EndsIteration x (iteration x t.0 now) (Ok c.in_default-iteration.field-0) after) l.invariant.own t.2) (λ both. (passes both).0) talk;
      in_use = c.in_default-iteration.ensures.in_use;
      own = c.in_default-iteration.ensures.me ∙ l.invariant.own;
      faults = c.in_default-iteration.ensures.faults ∙ l.invariant.faults;
      a = c.in_default-iteration.ensures.counts.0 ∙ l.invariant.a;
      b = c.in_default-iteration.ensures.counts.1 ∙ l.invariant.b;
    }

pub returns-clause-serves : goal.returns-clause-serves
returns-clause-serves g c =
    let l = c.loop-done in
    let me : Me = record { member = c.args.member; rule = c.args.rule } in
    let begun = unstarted c.args.member.rank (store_view_of c.args.store) (g.C.Clock.left c.args.clock.now) (g.L.Link.state c.args.link.now).observed in
    let now = serving_of l.server (g.C.Clock.left l.clock) (g.L.Link.state l.link).observed in
    rw (c.end-2.ensures.end, c.end-2.ensures.turns, c.end-2.ensures.a, c.end-2.ensures.b)
    (all_made me begun (disks_of g.D.Disk.state c.args.store) (g.L.Link.history c.args.link.now) l.done now (disks_of g.D.Disk.state l.server.store) (g.L.Link.history l.link) l.invariant.served c.args.turns (omega (arith, c.loop-done-test.false, l.auto.done-end))
    (in_use_leaves g.D.Disk.state l.server.store l.invariant.in_use.unbroken l.invariant.in_use.sound))
