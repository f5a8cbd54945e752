use Rattle.paxos_leader.proofs.answers.prepended.Goals as goal

pub returns : goal.returns
returns c = λ i. record c.args.plan { tx = c.in_ok-append.ensures.ok i }
