use Rattle.std.proofs.Common.{◌≡◌, suc, ◌+◌, ap, sym, ◌∙◌, arith}
use Rattle.std.specs.Option.{option_copied}
use Rattle.mon_msg.specs.Protocol.Readings.{readings_of}
use Rattle.mon_stored.proofs.Reading.{has-other, has-none, has-bytes}
use Rattle.mon_stored.proofs.stored.Stored.has_pending.Goals as goal

pub returns-then-pending_v-next : goal.returns-then-pending_v-next
returns-then-pending_v-next c =
    let w = readings_of c.args.self.now in
    has-other w.pending_v w.pending_pn w.last w.record_of (λ e. c.if-pending_v-next.true (omega (arith, e, c.pending_v.ensures.value, c.get-next.ensures.value, c.last.ensures.value)))

pub returns-in-Some : goal.returns-in-Some
returns-in-Some c =
    let w = readings_of c.args.self.now in
    let next : c.get-next.result + 1 ≡ suc w.last = omega (arith, c.get-next.ensures.value, c.last.ensures.value) in
    has-bytes w.pending_v w.pending_pn w.last w.record_of c.in-Some.bytes.now c.counts.result (omega (arith, next, c.pending_v.ensures.value, c.if-pending_v-next.false))
    (sym (ap option_copied c.in-Some.is) ∙ c.stored.ensures ∙ ap w.record_of next) c.counts.ensures

pub returns-in-None : goal.returns-in-None
returns-in-None c =
    let w = readings_of c.args.self.now in
    let next : c.get-next.result + 1 ≡ suc w.last = omega (arith, c.get-next.ensures.value, c.last.ensures.value) in
    has-none w.pending_v w.pending_pn w.last w.record_of (omega (arith, next, c.pending_v.ensures.value, c.if-pending_v-next.false))
    (sym (ap option_copied c.in-None.is) ∙ c.stored.ensures ∙ ap w.record_of next)
