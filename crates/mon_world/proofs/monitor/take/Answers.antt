use Rattle.std.proofs.Common.{sym, ◌∙◌}
use Rattle.mon_world.proofs.Holding.{taken_up, up}
use Rattle.mon_world.proofs.monitor.take.Goals as goal

pub returns-in-Up-clause-takes : goal.returns-in-Up-clause-takes
returns-in-Up-clause-takes c m s f holds =
    let me = c.args.me.now in
    let r = c.in-Up.field-0 in
    let used = up me m s f c.args.kept.now r (sym c.replace.ensures.value ∙ c.in-Up.is) holds in
    taken_up me m s f c.close.result r used (c.close.ensures.rests me.member m f used.is_up.runs)
