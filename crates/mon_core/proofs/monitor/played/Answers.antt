use Rattle.std.proofs.Common.{◌≡◌, false, rules, sym}
use Rattle.mon_msg.specs.Protocol.Readings.{readings_of}
use Rattle.svc_core.specs.Cache.{known, known_once_read}
use Rattle.mon_event.specs.State.{state_of}
use Rattle.mon_core.specs.Known.{asks_any_map, asks_for, is_shown}
use Rattle.mon_core.proofs.Shown.{asks_none, on_ok_any, unasked}
use Rattle.mon_core.proofs.monitor.played.Goals as goal

pub returns-in-Set-clause-known : goal.returns-in-Set-clause-known
returns-in-Set-clause-known c =
    let w = readings_of c.args.here.now.kv.now in
    let none : asks_any_map c.args.input.now ≡ false = search rules in
    on_ok_any c.run.result _ (λ s.
    let k = known c.args.cache.now s in
    sym
    (unasked (is_shown c.args.here.now.me.now c.args.here.now.time w (state_of c.args.event.now.state)) (asks_for s c.args.input.now) (known_once_read w s k) k
    (asks_none c.args.input.now none s)))
