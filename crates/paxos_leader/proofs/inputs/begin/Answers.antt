use Rattle.std.proofs.Common.{◌≡◌, true, List, sym, subst}
use Rattle.mon_msg.specs.Protocol.Readings.{readings_of}
use Rattle.mon_msg.specs.Protocol.Records.{may_begin}
use Rattle.mon_msg.specs.declared.paxos.Leader.{Leader}
use Rattle.mon_msg.specs.declared.plan.Next.TheVariants as next
use Rattle.mon_tx.specs.declared.op.Op.{Op}
use Rattle.mon_plan.specs.Plans.{PlansAct, leads}
use Rattle.paxos_leader.specs.Drafts.{IsLed}
use Rattle.paxos_leader.proofs.inputs.begin.Goals as goal

pub begin_owned-requires : goal.begin_owned-requires
begin_owned-requires c = subst (λ (value : List Op). may_begin value ≡ true) (sym c.in_ok-value.ensures) c.requires

pub returns-clause-plans : goal.returns-clause-plans
returns-clause-plans c =
    let me = c.args.me.now in
    let w = readings_of c.args.kv.now in
    let o = c.args.origin.now in
    let r = c.begin_owned.result in
    subst (λ (l : Leader). PlansAct me c.args.now leads (IsLed w l) (next.Begin c.args.value.now o) r) c.in_ok-copy.ensures
    (subst (λ (value : List Op). PlansAct me c.args.now leads (IsLed w c.in_ok-copy.field-0) (next.Begin value o) r) c.in_ok-value.ensures c.begin_owned.ensures.plans)
