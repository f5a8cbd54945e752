use Rattle.paxos_leader.proofs.values.with_ack.Goals as goal

pub returns : goal.returns
returns c = λ i. record c.args.state { acks = c.with-state.ensures i }
