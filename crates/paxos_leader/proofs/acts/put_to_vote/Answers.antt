use Rattle.paxos_leader.proofs.acts.put_to_vote.Goals as goal

pub returns-clause-draft : goal.returns-clause-draft
returns-clause-draft c = λ i. record { tx = c.in_ok-put_vote.ensures.changes i; out = c.in_ok-out.ensures i; state = c.args.draft.state }
