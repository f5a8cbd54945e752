use Rattle.timed_failover.proofs.PeonParts.{parted_in_time}
use Rattle.timed_failover.proofs.laws.law_lost_peon_parts.Goals as goal

pub returns : goal.returns
returns c = λ ms full q pace earlier best lost reign r t last more quick short R S may W other C B silent none N fits. parted_in_time ms full q pace earlier best lost reign r t last more quick short R S may W other C B silent none N fits
