use Rattle.std.proofs.Common.{◌≡◌, suc, ◌+◌, Some, ap, sym, ◌∙◌, arith}
use Rattle.mon_msg.specs.Protocol.Readings.{readings_of}
use Rattle.mon_msg.specs.Protocol.Records.{record_at}
use Rattle.mon_stored.proofs.Reading.{pending-lost, pending-empty, pending-there}
use Rattle.mon_stored.proofs.stored.Stored.pending.Goals as goal

pub returns-then-not-has_pending : goal.returns-then-not-has_pending
returns-then-not-has_pending c =
    let w = readings_of c.args.self.now in
    pending-lost w.pending_v w.pending_pn w.last w.record_of (sym c.has_pending.ensures ∙ c.if-not-has_pending.true)

pub returns-in_default : goal.returns-in_default
returns-in_default c =
    let w = readings_of c.args.self.now in
    let next : c.get-next.result + 1 ≡ suc w.last = omega (arith, c.get-next.ensures.value, c.last.ensures.value) in
    pending-empty w.pending_v w.pending_pn w.last w.record_of (sym c.in_default.is ∙ c.in_ok-value.ensures ∙ ap (record_at w.record_of) next)

pub returns : goal.returns
returns c =
    let w = readings_of c.args.self.now in
    let next : c.get-next.result + 1 ≡ suc w.last = omega (arith, c.get-next.ensures.value, c.last.ensures.value) in
    let there : record_at w.record_of (suc w.last) ≡ Some c.in-Some.value = sym (ap (record_at w.record_of) next) ∙ sym c.in_ok-value.ensures ∙ c.in-Some.is in
    let version : c.known-version.result ≡ w.pending_v = c.known-version.ensures ∙ c.pending_v.ensures.value in
    (λ i. Some (record { version = version i; pn = c.pending_pn-pn.ensures i; value = c.in-Some.value }))
    ∙ pending-there w.pending_v w.pending_pn w.last w.record_of c.in-Some.value (sym c.has_pending.ensures ∙ c.if-not-has_pending.false) there
