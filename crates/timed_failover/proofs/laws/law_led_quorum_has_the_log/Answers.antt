use Rattle.timed_failover.proofs.Led.{as_led}
use Rattle.timed_failover.proofs.laws.law_led_quorum_has_the_log.Goals as goal

pub returns : goal.returns
returns c = as_led
