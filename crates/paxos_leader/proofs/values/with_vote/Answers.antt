use Rattle.paxos_leader.proofs.values.with_vote.Goals as goal

pub returns : goal.returns
returns c = λ i. record c.args.state { accepted = c.with-state.ensures i }
