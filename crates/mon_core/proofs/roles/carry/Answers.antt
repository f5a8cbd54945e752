use Rattle.std.proofs.Common.{subst}
use Rattle.mon_msg.specs.Protocol.Readings.{readings_of}
use Rattle.mon_msg.specs.declared.plan.Next.{Next}
use Rattle.mon_plan.specs.Plans.{act, done}
use Rattle.mon_event.specs.Events.{Reaches, remembering}
use Rattle.mon_core.proofs.roles.carry.Goals as goal

pub act-requires : goal.act-requires
act-requires g c = c.requires c.carry_out.new.self c.in_ok-next.next c.in_ok-next.ensures

pub returns : goal.returns
returns g c = λ cs fit encodes x u.
    let m = c.args.here.now.kv.now in
    let k = c.in_ok-next.ensures in
    let after = done (remembering g.S.RoleState.put) cs c.args.plan x in
    subst (λ (n : Next). Reaches (readings_of m) (act c.args.here.now.me.now c.args.here.now.time n after) c.act.new.event c.act.result) k.next
    (c.act.ensures after (k.done cs fit encodes (readings_of m) x u))
