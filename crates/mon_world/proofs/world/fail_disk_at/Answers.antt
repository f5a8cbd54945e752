use Rattle.std.proofs.Common.{sym, subst, ◌∙◌}
use Rattle.std.proofs.lemmas.Option.{same_Some}
use Rattle.mon_world.specs.declared.monitor.Monitor.{Monitor}
use Rattle.mon_world.specs.Meeting.{MeetsFault}
use Rattle.mon_world.specs.Monitor.{Represents}
use Rattle.mon_world.proofs.Placing.{read_there, wrote_there, wrote_elsewhere}
use Rattle.mon_world.proofs.world.fail_disk_at.Goals as goal

pub fail_disk-requires-clause-stands : goal.fail_disk-requires-clause-stands
fail_disk-requires-clause-stands c =
    c.requires.stands c.index_mut.result.now (read_there c.args.monitors.now.items c.args.rank c.get.result c.get.ensures.value c.index_mut.result.now c.requires.within c.index_mut.ensures.value)

pub returns-clause-others : goal.returns-clause-others
returns-clause-others c = wrote_elsewhere c.args.monitors.now.items c.args.rank c.get.result c.get.ensures.value c.fail_disk.new.monitor

pub returns-clause-meets : goal.returns-clause-meets
returns-clause-meets c = λ old new was is me m s f h.
    let before = read_there c.args.monitors.now.items c.args.rank c.get.result c.get.ensures.value c.index_mut.result.now c.requires.within c.index_mut.ensures.value in
    let after = wrote_there c.args.monitors.now.items c.args.rank c.get.result c.get.ensures.value c.fail_disk.new.monitor c.requires.within in
    subst (λ (new : Monitor). MeetsFault c.args.injected me c.args.at m s f c.args.input.now new c.fail_disk.result) (same_Some c.fail_disk.new.monitor new (sym after ∙ is))
    (c.fail_disk.ensures me m s f (subst (λ (old : Monitor). Represents me m s f old) (same_Some old c.index_mut.result.now (sym was ∙ before)) h))
