use Rattle.std.proofs.Common.{◌≡◌, [], ◌∷◌, refl, sym, ap, ◌∙◌, arith}
use Rattle.mon_msg.specs.Protocol.Leader.{hear_lease_ack}
use Rattle.mon_msg.specs.Protocol.Phases.{phase_of}
use Rattle.mon_msg.specs.Protocol.Readings.{Readings, readings_of}
use Rattle.mon_msg.specs.declared.paxos.Leader.{Leader}
use Rattle.mon_msg.specs.declared.plan.Arming.TheVariants as arming
use Rattle.mon_msg.specs.declared.plan.Next.TheVariants as next
use Rattle.mon_wire.specs.declared.phase.Phase.TheVariants as phase
use Rattle.mon_wire.specs.declared.phase.Timer.TheVariants as timer
use Rattle.paxos_leader.specs.Rows.{IsHeard}
use Rattle.paxos_leader.proofs.Hearing.{ack-other, heard-few-acks, heard-all-acks}
use Rattle.paxos_leader.proofs.Noting.{nothing_but, notes}
use Rattle.paxos_leader.proofs.values.hear_lease_ack.Goals as goal

pub returns-then-get-clause-plans : goal.returns-then-get-clause-plans
returns-then-get-clause-plans c =
    λ now e.
    let me = c.args.here.now.me.now in
    let l : Leader = c.args.state in
    let w : Readings = readings_of c.args.here.now.kv.now in
    let own : c.own_last-own.result ≡ w.last = c.own_last-own.ensures in
    nothing_but me now (IsHeard (phase.Active ∷ []) c.args.from e w l) (hear_lease_ack me c.args.from e c.args.last) l (λ x b _. b.stage)
    next.Stay (λ x. refl) (λ x b. b.role)
    (λ x b. ack-other me c.args.from e x c.args.last b.member
    (λ same. c.if-get.true (let is : c.args.last ≡ w.last = same ∙ ap (λ (r : Readings). r.last) b.readings in omega (arith, is, own, c.get.ensures.value, c.get-2.ensures.value))))
    c.stay.result c.stay.ensures

pub returns-then-not-are_within-clause-plans : goal.returns-then-not-are_within-clause-plans
returns-then-not-are_within-clause-plans c =
    λ now e.
    let me = c.args.here.now.me.now in
    let l : Leader = c.args.state in
    let w : Readings = readings_of c.args.here.now.kv.now in
    let new : Leader = c.with_ack-state.result in
    let own : c.own_last-own.result ≡ w.last = c.own_last-own.ensures in
    let is : c.args.last ≡ w.last = omega (arith, own, c.if-get.false, c.get.ensures.value, c.get-2.ensures.value) in
    notes me now (IsHeard (phase.Active ∷ []) c.args.from e w l) (hear_lease_ack me c.args.from e c.args.last) new
    (λ x b _. ap (λ (k : Leader). phase_of k.stage) c.with_ack-state.ensures ∙ b.stage) []
    (λ x b. heard-few-acks me c.args.from e c.args.last w l new x b c.with_ack-state.ensures is (sym c.are_within.ensures ∙ c.if-not-are_within.true))
    c.stay-then-not-are_within.result c.stay-then-not-are_within.ensures

pub returns-clause-plans : goal.returns-clause-plans
returns-clause-plans c =
    λ now e.
    let me = c.args.here.now.me.now in
    let l : Leader = c.args.state in
    let w : Readings = readings_of c.args.here.now.kv.now in
    let new : Leader = c.with_ack-state.result in
    let own : c.own_last-own.result ≡ w.last = c.own_last-own.ensures in
    let is : c.args.last ≡ w.last = omega (arith, own, c.if-get.false, c.get.ensures.value, c.get-2.ensures.value) in
    notes me now (IsHeard (phase.Active ∷ []) c.args.from e w l) (hear_lease_ack me c.args.from e c.args.last) new
    (λ x b _. ap (λ (k : Leader). phase_of k.stage) c.with_ack-state.ensures ∙ b.stage) (arming.Disarm timer.LeaseAck ∷ [])
    (λ x b. heard-all-acks me c.args.from e c.args.last w l new x b c.with_ack-state.ensures is (sym c.are_within.ensures ∙ c.if-not-are_within.false))
    c.in_ok-all_acked.field-0 c.in_ok-all_acked.ensures
