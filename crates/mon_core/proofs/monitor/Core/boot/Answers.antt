use Rattle.mon_msg.specs.declared.view.Me.{Me}
use Rattle.svc_core.proofs.Following.{follows_any}
use Rattle.mon_core.proofs.Reacting.{rests_ready}
use Rattle.mon_core.proofs.monitor.Core.boot.Goals as goal

pub invariant_of-result : goal.invariant_of-result
invariant_of-result c =
    let me : Me = record { member = c.args.member; rule = c.args.rule } in
    rests_ready me c.booting-state.result c.booting-state.ensures c.begun.result c.begun.ensures

pub returns-clause-follows : goal.returns-clause-follows
returns-clause-follows c = follows_any c.empty.result c.empty.ensures
