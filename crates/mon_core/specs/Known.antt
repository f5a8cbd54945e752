-- Which services' maps a core keeps.
use Rattle.std.specs.Prelude.{ℕ, Bool, true, false, ◌&&◌, ◌||◌, Option, if◌then◌else◌}
use Rattle.mon_lease.specs.Lease.{readable}
use Rattle.mon_msg.specs.Protocol.Phases.{is_member}
use Rattle.mon_msg.specs.Protocol.Readings.{Readings}
use Rattle.mon_msg.specs.Protocol.State.{State, lease_of}
use Rattle.mon_msg.specs.declared.input.Input.TheVariants as input
use Rattle.mon_msg.specs.declared.input.Input.{Input}
use Rattle.mon_msg.specs.declared.view.Me.{Me}
use Rattle.mon_wire.specs.declared.request.Request.TheVariants as request
use Rattle.mon_wire.specs.declared.request.Request.{Request}
use Rattle.mon_wire.specs.declared.request.Service.TheVariants as service
use Rattle.mon_wire.specs.declared.request.Service.{Service}
use Rattle.svc_core.specs.Cache.{known_once_read}
use Rattle.svc_core.specs.declared.cache.Known.{Known}

-- whether a client that asks for a map is shown it
abbrev pub is_shown : Me → (now : ℕ) → Readings → State → Bool
is_shown me now w s = is_member s.phase && readable w.last me.member.monitors (lease_of s) now

abbrev pub asks_map : Service → Request → Bool
asks_map service.Kv (request.Show service.Kv) = true
asks_map service.Log (request.Show service.Log) = true
asks_map s r = false

-- whether an input asks for the map of this service
abbrev pub asks_for : Service → Input → Bool
asks_for s (input.Client session r) = asks_map s r
asks_for s input.Start = false
asks_for s (input.Deliver m) = false
asks_for s (input.Timer t) = false

-- What is known of a service after an input, before the event's changes: a map that is shown is read first, and no
-- other input makes a map known.
abbrev pub known_by_then : Me → (now : ℕ) → Readings → State → Input → Service → Option Known → Option Known
known_by_then me now w st came s k = if is_shown me now w st && asks_for s came then known_once_read w s k else k

-- whether an input asks for a map
abbrev pub asks_any_map : Input → Bool
asks_any_map came = asks_for service.Kv came || asks_for service.Log came
