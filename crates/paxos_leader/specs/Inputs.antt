-- The inputs of a leader, and the phases in which it hears them.
use Rattle.std.specs.Prelude.{Bool, true, false, ◌&&◌, List, Option, Some, None, [], ◌∷◌}
use Rattle.mon_msg.specs.Protocol.Records.{may_begin}
use Rattle.mon_msg.specs.declared.input.Input.TheVariants as input
use Rattle.mon_msg.specs.declared.input.Input.{Input}
use Rattle.mon_msg.specs.declared.paxos.Found.{Found}
use Rattle.mon_msg.specs.declared.paxos.Leader.{Leader}
use Rattle.mon_tx.specs.declared.op.Op.{Op}
use Rattle.mon_wire.specs.declared.body.Body.TheVariants as body
use Rattle.mon_wire.specs.declared.body.Body.{Body}
use Rattle.mon_wire.specs.declared.phase.Phase.TheVariants as phase
use Rattle.mon_wire.specs.declared.phase.Phase.{Phase}
use Rattle.mon_wire.specs.declared.phase.Timer.TheVariants as timer
use Rattle.mon_wire.specs.declared.phase.Timer.{Timer}

abbrev pub is_role_message : Body → Bool
is_role_message (body.Last pn first last whole from values pending) = true
is_role_message (body.Accept pn version) = true
is_role_message (body.LeaseAck last) = true
is_role_message b = false

-- the phases in which such a message is heard
abbrev pub phases_for : Body → List Phase
phases_for (body.Last pn first last whole from values pending) = phase.Collecting ∷ []
phases_for (body.Accept pn version) = phase.Previous ∷ phase.Updating ∷ []
phases_for (body.LeaseAck last) = phase.Active ∷ []
phases_for b = []

abbrev pub is_own : Timer → Bool
is_own timer.Collect = true
is_own timer.Accept = true
is_own timer.Renew = true
is_own timer.LeaseAck = true
is_own t = false

abbrev pub is_input : Input → Bool
is_input (input.Deliver m) = is_role_message m.body
is_input (input.Timer t) = is_own t
is_input input.Start = false
is_input (input.Client session r) = false

-- ---- a BEGIN with each value that a leader remembers may be sent

abbrev pub may_begin_any : Option (List Op) → Bool
may_begin_any None = true
may_begin_any (Some value) = may_begin value

abbrev pub may_begin_found : Option Found → Bool
may_begin_found None = true
may_begin_found (Some found) = may_begin found.value

abbrev pub may_begin_all : Leader → Bool
may_begin_all l = may_begin_any l.value && may_begin_found l.found
