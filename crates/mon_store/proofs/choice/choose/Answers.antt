use Rattle.mon_store.proofs.choice.choose.Goals as goal

pub returns-in-Closed-Closed-clause-found : goal.returns-in-Closed-Closed-clause-found
returns-in-Closed-Closed-clause-found c = λ p q. rw (c.in-Closed-Closed.is-0, c.in-Closed-Closed.is-1) (c.new_store.ensures.found p q)
