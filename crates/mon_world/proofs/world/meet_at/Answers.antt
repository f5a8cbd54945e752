use Rattle.std.proofs.Common.{sym, subst, ◌∙◌}
use Rattle.std.proofs.lemmas.Option.{same_Some}
use Rattle.mon_world.specs.declared.monitor.Monitor.{Monitor}
use Rattle.mon_world.specs.Meeting.{Meets}
use Rattle.mon_world.specs.Times.{PassesHandled}
use Rattle.mon_world.specs.Monitor.{Represents}
use Rattle.mon_world.proofs.Placing.{read_there, wrote_there, wrote_elsewhere}
use Rattle.mon_world.proofs.world.meet_at.Goals as goal

pub meet-requires-clause-stands : goal.meet-requires-clause-stands
meet-requires-clause-stands c =
    c.requires.stands c.index_mut.result.now (read_there c.args.monitors.now.items c.args.rank c.get.result c.get.ensures.value c.index_mut.result.now c.requires.within c.index_mut.ensures.value)

pub returns-clause-others : goal.returns-clause-others
returns-clause-others c = wrote_elsewhere c.args.monitors.now.items c.args.rank c.get.result c.get.ensures.value c.meet.new.monitor

pub returns-clause-meets : goal.returns-clause-meets
returns-clause-meets c = λ old new was is me m s f h.
    let before = read_there c.args.monitors.now.items c.args.rank c.get.result c.get.ensures.value c.index_mut.result.now c.requires.within c.index_mut.ensures.value in
    let after = wrote_there c.args.monitors.now.items c.args.rank c.get.result c.get.ensures.value c.meet.new.monitor c.requires.within in
    subst (λ (new : Monitor). Meets me c.args.at m s f c.args.input.now new c.meet.result) (same_Some c.meet.new.monitor new (sym after ∙ is))
    (c.meet.ensures.meets me m s f (subst (λ (old : Monitor). Represents me m s f old) (same_Some old c.index_mut.result.now (sym was ∙ before)) h))

pub returns-clause-passes : goal.returns-clause-passes
returns-clause-passes c = λ old new was is me m s f h.
    let before = read_there c.args.monitors.now.items c.args.rank c.get.result c.get.ensures.value c.index_mut.result.now c.requires.within c.index_mut.ensures.value in
    let after = wrote_there c.args.monitors.now.items c.args.rank c.get.result c.get.ensures.value c.meet.new.monitor c.requires.within in
    let same = same_Some old c.index_mut.result.now (sym was ∙ before) in
    subst (λ (old : Monitor). PassesHandled me.member m c.meet.result old new) (sym same)
    (subst (λ (new : Monitor). PassesHandled me.member m c.meet.result c.index_mut.result.now new) (same_Some c.meet.new.monitor new (sym after ∙ is))
    (c.meet.ensures.passes me m s f (subst (λ (old : Monitor). Represents me m s f old) same h)))
