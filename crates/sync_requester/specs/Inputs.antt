-- The inputs of a requester.
use Rattle.std.specs.Prelude.{Bool, true, false}
use Rattle.mon_msg.specs.declared.input.Input.TheVariants as input
use Rattle.mon_msg.specs.declared.input.Input.{Input}
use Rattle.mon_wire.specs.declared.body.Body.TheVariants as body
use Rattle.mon_wire.specs.declared.body.Body.{Body}
use Rattle.mon_wire.specs.declared.phase.Timer.TheVariants as timer
use Rattle.mon_wire.specs.declared.phase.Timer.{Timer}

-- what a provider sends
abbrev pub is_role_message : Body → Bool
is_role_message (body.Cookie full cookie last) = true
is_role_message (body.Chunk cookie place values entries done) = true
is_role_message (body.LastChunk cookie place values entries last) = true
is_role_message (body.NoCookie cookie) = true
is_role_message b = false

abbrev pub is_own : Timer → Bool
is_own timer.Sync = true
is_own timer.Step = true
is_own t = false

abbrev pub is_input : Input → Bool
is_input input.Start = false
is_input (input.Deliver m) = is_role_message m.body
is_input (input.Timer t) = is_own t
is_input (input.Client session r) = false
