use Rattle.std.proofs.Common.{List, ◌++◌, ap, ◌∙◌}
use Rattle.mon_msg.specs.Protocol.Changes.{Numbers, ops_of}
use Rattle.mon_tx.specs.declared.op.Op.{Op}
use Rattle.paxos_leader.proofs.collecting.to_number.Goals as goal

pub returns : goal.returns
returns c = c.in_ok-put_numbers.ensures.changes ∙ ap (λ (t : List Op). t ++ ops_of (Numbers c.args.pn)) c.new-tx.ensures
