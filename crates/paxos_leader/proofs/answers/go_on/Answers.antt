use Rattle.std.proofs.Common.{[], refl, sym, ap, ◌∙◌}
use Rattle.mon_msg.specs.Protocol.Collecting.{collect}
use Rattle.mon_msg.specs.Protocol.Leader.{hear_whole}
use Rattle.mon_msg.specs.Protocol.Readings.{Readings, readings_of}
use Rattle.mon_msg.specs.Protocol.State.{start_leader}
use Rattle.mon_msg.specs.declared.paxos.Leader.{Leader}
use Rattle.paxos_leader.specs.Drafts.{IsAsking}
use Rattle.paxos_leader.specs.Rows.{goes_on}
use Rattle.paxos_leader.proofs.Answering.{goes-whole, goes-asking}
use Rattle.paxos_leader.proofs.Going.{otherwise, hands_on}
use Rattle.paxos_leader.proofs.Settling.{collect-fresh}
use Rattle.paxos_leader.proofs.answers.go_on.Goals as goal

pub returns-then-answer-clause-goes : goal.returns-then-answer-clause-goes
returns-then-answer-clause-goes c =
    let me = c.args.act.now.me.now in
    let now = c.args.act.now.time in
    let a = c.args.answer.now in
    let w : Readings = readings_of c.args.stored.now in
    otherwise me now (IsAsking c.args.act.now.epoch w) (record { tx = []; out = []; state = c.args.state }) (goes_on me now a.from a.last a.whole a.pending.now) (hear_whole me now a.from a.last a.pending.now)
    (λ y b r. goes-whole me now a.from a.last a.pending.now a.whole y c.if-answer.true)
    c.hear_whole.result c.hear_whole.ensures.goes

pub returns-clause-goes : goal.returns-clause-goes
returns-clause-goes c =
    let me = c.args.act.now.me.now in
    let now = c.args.act.now.time in
    let l : Leader = c.args.state in
    let a = c.args.answer.now in
    let w : Readings = readings_of c.args.stored.now in
    hands_on me now (IsAsking c.args.act.now.epoch w) (record { tx = []; out = []; state = l }) (goes_on me now a.from a.last a.whole a.pending.now)
    (IsAsking c.args.act.now.epoch w) (record { tx = []; out = []; state = start_leader }) (collect me now l.quorum c.known-above.result) [] tt [] refl refl
    (λ y b r. record { epoch = b.epoch; kept = b.kept; phase = b.phase; stage = refl })
    (λ y b r.
    goes-asking me now a.from a.last a.pending.now a.whole y l.quorum c.if-answer.false (ap (λ (k : Leader). k.quorum) r)
    ∙ ap (λ n. collect me now l.quorum n y) (sym c.known-above.ensures)
    ∙ sym (collect-fresh me now l.quorum c.known-above.result y start_leader))
    c.ask_again.result c.ask_again.ensures.goes
