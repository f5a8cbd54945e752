use Rattle.std.proofs.Common.{inl, inr, refl}
use Rattle.mon_store.specs.Whole.{disk_a, disk_b}
use Rattle.mon_node.specs.Nodes.{store_view_of}
use Rattle.mon_node.proofs.Sends.{no_call}
use Rattle.cephmon_run.proofs.Nodes.{count_since, counted_none, ends_served, ends_unopened, visible_still}
use Rattle.cephmon_run.proofs.node.run_node.Goals as goal

pub returns-in-Err-clause-cause : goal.returns-in-Err-clause-cause
returns-in-Err-clause-cause g c =
    let it = c.in-Err.ensures in
    ends_unopened g.D.Disk.state c.args.me.now c.args.turns
    (record { disks = c.args.disks; link = g.L.Link.state c.args.link.now; clock = g.C.Clock.left c.args.clock.now })
    (record { disks = c.in-Err.refused.disks; link = g.L.Link.state c.args.link.now; clock = g.C.Clock.left c.args.clock.now })
    c.in-Err.refused.why c.of_opening.result c.of_opening.ensures
    (record { is_stop = it.answer; counts = it.counts; alike = it.any_time; link = refl; clock = refl })

pub returns-in-Err-clause-talks : goal.returns-in-Err-clause-talks
returns-in-Err-clause-talks g c =
    let it = c.in-Err.ensures in
    inl (c.in-Err.refused.why, record { is_stop = it.answer; counts = it.counts; alike = it.any_time; link = refl; clock = refl }, c.of_opening.ensures, no_call (g.L.Link.history c.args.link.now))

pub returns-in-Ok-clause-cause : goal.returns-in-Ok-clause-cause
returns-in-Ok-clause-cause g c =
    let it = c.in-Ok.ensures in
    let run = c.serve-served.ensures.serves in
    let state = g.D.Disk.state in
    let none = counted_none (state c.args.disks.a) (state c.args.disks.b) (state (disk_a c.in-Ok.store)) (state (disk_b c.in-Ok.store)) it.counts in
    ends_served state c.args.me.now c.args.turns
    (record { disks = c.args.disks; link = g.L.Link.state c.args.link.now; clock = g.C.Clock.left c.args.clock.now })
    (record { disks = c.serve-served.result.disks; link = g.L.Link.state c.serve-served.new.link; clock = g.C.Clock.left c.serve-served.new.clock })
    c.serve-served.result.end c.of_end.result c.of_end.ensures
    (record {
      store_view = store_view_of c.in-Ok.store;
      opened = it.answer;
      open_disks = record { a = disk_a c.in-Ok.store; b = disk_b c.in-Ok.store };
      alike = it.any_time;
      begun = c.serve-served.result.turns;
      first = run.0;
      given = run.1;
      serves = run.2;
      stands = λ both_visible. run.3 (
        visible_still (state c.args.disks.a).content.seen (state (disk_a c.in-Ok.store)).content.seen it.a_visible both_visible.0,
        visible_still (state c.args.disks.b).content.seen (state (disk_b c.in-Ok.store)).content.seen it.b_visible both_visible.1,
      );
      link_counts = c.serve-served.ensures.faults;
      disks_count = count_since c.serve-served.result.end _ _ _ _ _ _ none.0 none.1 c.serve-served.ensures.counts;
    })

pub returns-in-Ok-clause-talks : goal.returns-in-Ok-clause-talks
returns-in-Ok-clause-talks g c =
    let it = c.in-Ok.ensures in
    let run = c.serve-served.ensures.serves in
    let state = g.D.Disk.state in
    let none = counted_none (state c.args.disks.a) (state c.args.disks.b) (state (disk_a c.in-Ok.store)) (state (disk_b c.in-Ok.store)) it.counts in
    inr (
      c.serve-served.result.end,
      record {
        store_view = store_view_of c.in-Ok.store;
        opened = it.answer;
        open_disks = record { a = disk_a c.in-Ok.store; b = disk_b c.in-Ok.store };
        alike = it.any_time;
        begun = c.serve-served.result.turns;
        first = run.0;
        given = run.1;
        serves = run.2;
        stands = λ both_visible. run.3 (
          visible_still (state c.args.disks.a).content.seen (state (disk_a c.in-Ok.store)).content.seen it.a_visible both_visible.0,
          visible_still (state c.args.disks.b).content.seen (state (disk_b c.in-Ok.store)).content.seen it.b_visible both_visible.1,
        );
        link_counts = c.serve-served.ensures.faults;
        disks_count = count_since c.serve-served.result.end _ _ _ _ _ _ none.0 none.1 c.serve-served.ensures.counts;
      },
      c.of_end.ensures,
      run.4,
    )
