use Rattle.mon_node.proofs.Passing.{store_view_then}
use Rattle.quorum_network.proofs.EachIteration.{asked_in_time, kept_first, sends_messages, takes_timer}
use Rattle.quorum_network.proofs.laws.law_iterations.Goals as goal

pub returns : goal.returns
returns c = record { timers = takes_timer; waits = asked_in_time; keeps = store_view_then; ends = kept_first; messages = sends_messages }
