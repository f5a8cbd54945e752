use Rattle.std.proofs.Common.{◌≡◌, List, ap, refl, sym, ◌∙◌, Result, Err, subst}
use Rattle.std.proofs.lemmas.Result.{err_from_is_err_and}
use Rattle.mon_msg.specs.Protocol.Course.{Course}
use Rattle.mon_msg.specs.Protocol.Phases.{phase_of}
use Rattle.mon_msg.specs.Protocol.Readings.{readings_of}
use Rattle.mon_msg.specs.Protocol.State.{State}
use Rattle.mon_msg.specs.declared.paxos.Leader.{Leader}
use Rattle.mon_msg.specs.declared.plan.Next.TheVariants as next
use Rattle.mon_msg.specs.declared.plan.RoleStop.{RoleStop}
use Rattle.mon_plan.specs.Plans.{leads}
use Rattle.mon_tx.specs.Map.{Store, apply}
use Rattle.mon_tx.specs.declared.op.Op.{Op}
use Rattle.paxos_leader.specs.Drafts.{IsLed}
use Rattle.mon_event.specs.Events.{IsUnderWay}
use Rattle.mon_event.specs.State.{state_of}
use Rattle.mon_event.specs.declared.event.Event.{Event}
use Rattle.mon_core.specs.Acts.{Acts}
use Rattle.mon_core.proofs.Acting.{act_ends, act_fails, tells}
use Rattle.mon_core.proofs.Regaining.{carried_whole, leader_taken, put_leader}
use Rattle.mon_core.proofs.acts.begin.Goals as goal

pub begin_owned-requires : goal.begin_owned-requires
begin_owned-requires c = c.requires.2

-- an event under way at a leader that remembers what was taken
led : (m : Store) (e : Event) (l : Leader) → l ≡ e.state.leader → apply e.tx m ≡ m → e.state.phase ≡ phase_of e.state.leader.stage
    → (x : Course) → IsUnderWay (readings_of m) e x → IsLed (readings_of m) l x
led m e l taken unwritten leads x u = record {
  readings = tells m e x u ∙ ap readings_of unwritten;
  role = ap (λ (s : State). s.leader) (sym u.state) ∙ sym taken;
  phase = ap (λ (s : State). s.phase) (sym u.state) ∙ leads ∙ ap (λ (k : Leader). phase_of k.stage) (sym taken);
}

pub returns-in_err-plan : goal.returns-in_err-plan
returns-in_err-plan c =
    let m = c.args.here.now.kv.now in
    let e = c.args.event.now in
    let n = next.Begin c.args.value c.args.origin in
    let l = c.take_leader-leader.result in
    let left = record e { state = c.take_leader-leader.new.self } in
    let p = err_from_is_err_and c.from_residual.result c.from_residual.ensures.1 in
    subst (λ (r : Result Unit RoleStop). Acts c.args.here.now.me.now m c.args.here.now.time e n left r)
    (sym (p.1 ∙ ap Err p.2))
    (act_fails c.args.here.now.me.now c.args.here.now.time m leads n e (IsLed (readings_of m) l)
    (led m e l c.take_leader-leader.ensures.taken (ap (λ (ops : List Op). apply ops m) c.requires.0) c.requires.1)
    left c.in_err-plan.field-0.0 c.in_err-plan.ensures.plans)

pub returns : goal.returns
returns c =
    let m = c.args.here.now.kv.now in
    let e = c.args.event.now in
    let n = next.Begin c.args.value c.args.origin in
    let l = c.take_leader-leader.result in
    let left = record e { state = c.take_leader-leader.new.self } in
    act_ends c.args.here.now.me.now c.args.here.now.time m leads n e (IsLed (readings_of m) l)
    (led m e l c.take_leader-leader.ensures.taken (ap (λ (ops : List Op). apply ops m) c.requires.0) c.requires.1)
    e (λ w x u. u) c.in_ok-plan.plan c.in_ok-plan.ensures.plans
    c.carry_out.new.self c.in_ok-carry_out.field-0
    (carried_whole put_leader e left refl refl (leader_taken (state_of e.state) (state_of left.state) c.take_leader-leader.ensures.left) c.in_ok-plan.plan c.carry_out.new.self c.in_ok-carry_out.field-0 c.in_ok-carry_out.ensures)
    c.in_ok-plan.ensures.stays
