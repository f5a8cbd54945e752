use Rattle.std.proofs.Common.{◌≡◌, Option, ap, ◌∙◌}
use Rattle.mon_msg.specs.Protocol.Collecting.{collector}
use Rattle.mon_msg.specs.Protocol.Readings.{readings_of}
use Rattle.mon_msg.specs.Protocol.Sets.{only}
use Rattle.mon_msg.specs.Protocol.State.{start_leader}
use Rattle.mon_msg.specs.declared.paxos.Found.{Found}
use Rattle.mon_msg.specs.declared.paxos.Leader.{Leader}
use Rattle.paxos_leader.specs.Inputs.{may_begin_found}
use Rattle.paxos_leader.proofs.Pending.{pending-begins}
use Rattle.paxos_leader.proofs.collecting.ask.Goals as goal

pub returns-clause-draft : goal.returns-clause-draft
returns-clause-draft c =
    let me = c.args.act.now.me.now in
    let state : c.collector-state.result ≡ collector me c.args.quorum c.args.pn (readings_of c.args.stored.now) =
    c.collector-state.ensures
    ∙ ap (λ (f : Option Found). record start_leader { quorum = c.args.quorum; pn = c.args.pn; answered = only me.member.rank; found = f }) c.in_ok-found.ensures in
    λ i. record { tx = c.in_ok-tx.ensures i; out = c.in_ok-out.ensures i; state = state i }

pub returns-clause-found : goal.returns-clause-found
returns-clause-found c =
    ap (λ (l : Leader). may_begin_found l.found) c.collector-state.ensures ∙ ap may_begin_found c.in_ok-found.ensures ∙ pending-begins (readings_of c.args.stored.now)
