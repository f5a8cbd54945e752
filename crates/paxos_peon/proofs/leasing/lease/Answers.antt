use Rattle.std.proofs.Common.{◌+◌, ◌^◌, min, [], ◌∷◌, refl, ap, sym, ◌∙◌}
use Rattle.mon_lease.specs.Lease.{extended}
use Rattle.mon_msg.specs.Protocol.Course.{peon_is}
use Rattle.mon_msg.specs.Protocol.Peon.{hear_lease}
use Rattle.mon_msg.specs.Protocol.Readings.{readings_of, epoch_of}
use Rattle.mon_msg.specs.Protocol.Sending.{message_to}
use Rattle.mon_msg.specs.Protocol.Timers.{length_of}
use Rattle.mon_msg.specs.declared.plan.Arming.TheVariants as arming
use Rattle.mon_msg.specs.declared.plan.Arming.{Arming}
use Rattle.mon_msg.specs.declared.plan.Next.TheVariants as next
use Rattle.mon_msg.specs.declared.plan.Sent.{Sent}
use Rattle.mon_wire.specs.declared.body.Body.TheVariants as body
use Rattle.mon_wire.specs.declared.phase.Timer.TheVariants as timer
use Rattle.mon_plan.proofs.Kept.{kept-peon}
use Rattle.mon_plan.proofs.Planning.{does, only_acts}
use Rattle.paxos_peon.specs.Rows.{IsOurs}
use Rattle.paxos_peon.proofs.LeaseLaws.{lease-dropped, lease-taken}
use Rattle.paxos_peon.proofs.leasing.lease.Goals as goal

pub returns-then-is_refused-clause-plans : goal.returns-then-is_refused-clause-plans
returns-then-is_refused-clause-plans c =
    λ e.
    let here = c.args.here.now in
    let me = here.me.now in
    let s = here.state.now in
    let w = readings_of here.stored.now in
    only_acts me here.time peon_is (IsOurs w s s.leader e) (λ x. x) (hear_lease me here.time s.leader e c.args.version)
    [] tt s (λ x b. kept-peon s x b.role) next.Stay (λ x. refl)
    (λ x b. lease-dropped w s s.leader e x b me here.time c.args.version (sym c.is_refused.ensures ∙ c.if-is_refused.true))
    c.stay.result c.stay.ensures

pub returns-clause-plans : goal.returns-clause-plans
returns-clause-plans c =
    λ e.
    let here = c.args.here.now in
    let me = here.me.now in
    let s = here.state.now in
    let w = readings_of here.stored.now in
    does me here.time peon_is (IsOurs w s s.leader e) (λ x. x) (hear_lease me here.time s.leader e c.args.version)
    [] tt (message_to me (epoch_of w) (body.LeaseAck w.last) s.leader ∷ []) (arming.Arm timer.Lease (min (here.time + length_of timer.Lease) (2 ^ 62)) ∷ [])
    (record s { lease = extended here.time }) next.Stay
    (λ x b. lease-taken w s s.leader e x b me here.time c.args.version (sym c.is_refused.ensures ∙ c.if-is_refused.false))
    (record { tx = c.new.result; out = c.in_ok-out.out; timers = c.in_ok-timers.timers; state = c.with_lease.result; next = next.Stay })
    c.new.ensures
    (c.in_ok-out.ensures
    ∙ ap (λ (m : Sent). m ∷ []) (c.message-sent.ensures ∙ (λ i. message_to me (c.epoch.ensures i) (body.LeaseAck (c.last.ensures.value i)) s.leader)))
    (c.in_ok-timers.ensures ∙ ap (λ (a : Arming). a ∷ []) c.armed.ensures)
    c.with_lease.ensures refl
