use Rattle.mon_world.proofs.Holding.{up}
use Rattle.mon_world.proofs.monitor.Monitor.state.Goals as goal

pub state-requires : goal.state-requires
state-requires c =
    let x = c.requires in
    let used = up x.0 x.1 x.2 x.3 c.args.self.now.kept c.in-Up.running c.in-Up.is x.4.holds in (x.0, x.1, used.state, x.3, used.is_up)
