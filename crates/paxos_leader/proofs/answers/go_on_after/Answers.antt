use Rattle.std.proofs.Common.{ℕ, [], subst}
use Rattle.mon_msg.specs.Protocol.Readings.{readings_of, epoch_of}
use Rattle.mon_tx.specs.Map.{Store}
use Rattle.paxos_leader.specs.Drafts.{ActsOn, GoesOn, IsAsking}
use Rattle.paxos_leader.specs.Rows.{goes_on}
use Rattle.paxos_leader.specs.declared.seen.Act.{Act}
use Rattle.paxos_leader.proofs.answers.go_on_after.Goals as goal

pub returns-clause-goes : goal.returns-clause-goes
returns-clause-goes c =
    let me = c.args.here.now.me.now in
    let now = c.args.here.now.time in
    let a = c.args.answer.now in
    let At = λ (e : ℕ) (m : Store).
    GoesOn me now (IsAsking e (readings_of m)) (record { tx = []; out = []; state = c.args.state }) (goes_on me now a.from a.last a.whole a.pending.now) c.go_on.result in
    subst (λ (m : Store). At (epoch_of (readings_of m)) m) c.in_ok-stored.ensures (subst (λ (e : ℕ). At e c.in_ok-stored.stored) c.epoch.ensures
    (subst
    (λ (act : Act). ActsOn act (IsAsking act.epoch (readings_of c.in_ok-stored.stored)) (record { tx = []; out = []; state = c.args.state }) (λ me now. goes_on me now a.from a.last a.whole a.pending.now) c.go_on.result)
    c.of-act.ensures c.go_on.ensures.goes))
