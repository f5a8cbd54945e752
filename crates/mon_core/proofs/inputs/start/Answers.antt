use Rattle.std.proofs.Common.{◌≡◌, ◌++◌, ◌+◌, List, Result, is_some, ap, sym, subst, ◌∙◌, arith}
use Rattle.mon_msg.specs.Protocol.Changes.{encoded}
use Rattle.mon_msg.specs.Protocol.Course.{Course}
use Rattle.mon_msg.specs.Protocol.Readings.{readings_of}
use Rattle.mon_msg.specs.Protocol.Table.{at_rest}
use Rattle.mon_tx.specs.Map.{Store}
use Rattle.mon_tx.specs.declared.op.Op.{Op}
use Rattle.mon_types.specs.declared.names.Which.{Which}
use Rattle.mon_event.specs.Events.{IsUnderWay, Reaches}
use Rattle.mon_event.specs.State.{state_of}
use Rattle.mon_core.specs.Rows.{first_changes, started}
use Rattle.mon_core.proofs.Acting.{rests}
use Rattle.mon_core.proofs.Starting.{first_keeps, spent, starts}
use Rattle.mon_core.proofs.inputs.start.Goals as goal

pub returns-then-boot-gt-GREATEST : goal.returns-then-boot-gt-GREATEST
returns-then-boot-gt-GREATEST c =
    let m = c.args.here.now.kv.now in
    let told : c.boot-boot.result ≡ (readings_of m).boot = c.boot-boot.ensures.value ∙ ap (λ (m : Store). (readings_of m).boot) c.of-stored.ensures in
    let past = c.if-boot-gt-GREATEST.true in
    spent c.args.here.now.me.now c.args.here.now.time (readings_of m) (state_of c.args.event.now.state) (omega arith)

pub bootstrap-requires : goal.bootstrap-requires
bootstrap-requires c =
    λ alone.
    let within = c.if-boot-gt-GREATEST.false in
    first_keeps c.args.here.now.kv.now c.count_start.new.event.tx (c.boot-boot.result + 1) (is_some (readings_of c.of-stored.result).epoch) (omega arith)
    (c.in_ok-count_start.ensures.written
    ∙ ap (λ (ops : List Op). ops ++ encoded (first_changes (c.boot-boot.result + 1) (is_some (readings_of c.of-stored.result).epoch))) c.requires.unwritten)

pub returns : goal.returns
returns c =
    let me = c.args.here.now.me.now in
    let m = c.args.here.now.kv.now in
    let w = readings_of m in
    let s = state_of c.args.event.now.state in
    let told : c.boot-boot.result ≡ w.boot = c.boot-boot.ensures.value ∙ ap (λ (m : Store). (readings_of m).boot) c.of-stored.ensures in
    let within = c.if-boot-gt-GREATEST.false in
    subst (λ (r : Result Course Which). Reaches w r c.bootstrap.new.event c.bootstrap.result)
    (sym (starts me c.args.here.now.time w s (c.boot-boot.result + 1) (omega arith) (omega arith)))
    (c.bootstrap.ensures (started me c.args.here.now.time (c.boot-boot.result + 1) (is_some w.epoch) s.elector (at_rest w s))
    (subst
    (λ (m : Store). IsUnderWay w c.count_start.new.event
    (started me c.args.here.now.time (c.boot-boot.result + 1) (is_some (readings_of m).epoch) s.elector (at_rest w s)))
    c.of-stored.ensures (c.in_ok-count_start.ensures.goes w (at_rest w s) (rests me m c.args.event.now c.requires))))
