use Rattle.mon_world.proofs.Outgoing.{one_more}
use Rattle.mon_world.proofs.sending.send.Goals as goal

pub loop-one-preserved : goal.loop-one-preserved
loop-one-preserved c =
    one_more c.args.rank c.args.messages.now.items c.loop-one.messages.items c.send_one.new.messages.items c.loop-one.yielded c.in-Some.one c.loop-one.gone c.send_one.new.gone c.loop-one.invariant c.in_ok-send_one.ensures
