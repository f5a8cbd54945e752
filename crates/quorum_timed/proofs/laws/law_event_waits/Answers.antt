use Rattle.quorum_timed.proofs.Events as events
use Rattle.quorum_timed.proofs.laws.law_event_waits.Goals as goal

pub returns : goal.returns
returns c = record { starts = events.starts; goes_on = events.goes_on }
