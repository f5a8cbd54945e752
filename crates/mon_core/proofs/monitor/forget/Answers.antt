use Rattle.std.proofs.Common.{◌∙◌}
use Rattle.mon_core.proofs.Reacting.{rests_ready}
use Rattle.mon_core.proofs.monitor.forget.Goals as goal

pub returns : goal.returns
returns c = rests_ready c.args.me.now c.booting.result c.booting.ensures _ (c.replace.ensures.after ∙ c.begun-begun.ensures)
