use Rattle.std.proofs.Common.{◌≡◌, ℕ, List, [], refl, subst}
use Rattle.mon_msg.specs.Protocol.Collecting.{collect, reign}
use Rattle.mon_msg.specs.Protocol.Course.{in_phase}
use Rattle.mon_msg.specs.Protocol.Readings.{Readings, readings_of}
use Rattle.mon_msg.specs.Protocol.State.{start_leader}
use Rattle.mon_msg.specs.declared.plan.Sent.{Sent}
use Rattle.mon_tx.specs.Map.{Store}
use Rattle.mon_wire.specs.declared.phase.Phase.TheVariants as phase
use Rattle.paxos_leader.specs.Drafts.{GoesOn, IsAsking, IsWon}
use Rattle.paxos_leader.proofs.Beginning.{victories, entered-asks, reign-is}
use Rattle.paxos_leader.proofs.Going.{from_start}
use Rattle.paxos_leader.proofs.inputs.enter.Goals as goal

pub returns-clause-plans : goal.returns-clause-plans
returns-clause-plans c =
    let me = c.args.me.now in
    let now = c.args.now in
    let e = c.args.epoch in
    let q = c.args.quorum in
    let w : Readings = readings_of c.args.kv.now in
    let told : List Sent = victories me e q in
    let sent : c.in_ok-out.out ≡ told = c.in_ok-out.ensures in
    let At = λ (m : Store) (o : List Sent) (n : ℕ). GoesOn me now (IsAsking e (readings_of m)) (record { tx = []; out = o; state = start_leader }) (collect me now q n) c.collect.result in
    from_start me now (IsAsking e w) (record { tx = []; out = told; state = start_leader }) (collect me now q 0) c.collect.result refl
    (subst (λ (m : Store). At m told 0) c.of-stored.ensures (subst (λ (o : List Sent). At c.of-stored.result o 0) sent (subst (λ (n : ℕ). At c.of-stored.result c.in_ok-out.out n) c.known-above.ensures c.collect.ensures.goes)))
    (IsWon e w) (in_phase phase.Collecting) (reign me now q)
    (λ x b. entered-asks me now e w q x b)
    (λ x b. reign-is me now e w q x b)
