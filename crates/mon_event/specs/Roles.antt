-- Which role of a monitor answers an input.
use Rattle.std.specs.Prelude.{Option, Some, None}
use Rattle.mon_msg.specs.declared.input.Input.TheVariants as input
use Rattle.mon_msg.specs.declared.input.Input.{Input}
use Rattle.mon_wire.specs.declared.body.Body.TheVariants as body
use Rattle.mon_wire.specs.declared.body.Body.{Body}
use Rattle.mon_wire.specs.declared.phase.Timer.TheVariants as timer
use Rattle.mon_wire.specs.declared.phase.Timer.{Timer}
use Rattle.mon_wire.specs.declared.request.Request.TheVariants as request
use Rattle.mon_wire.specs.declared.request.Request.{Request}
use Rattle.mon_event.specs.declared.role.Role.TheVariants as role
use Rattle.mon_event.specs.declared.role.Role.{Role}

-- The role that hears a message. None hears a request or a reply, which go between clients and monitors.
abbrev pub hearer : Body → Option Role
hearer body.Probe = Some role.Prober
hearer (body.ProbeReply quorum first last) = Some role.Prober
hearer (body.Propose table) = Some role.Elector
hearer body.Ack = Some role.Elector
hearer (body.Victory quorum) = Some role.Elector
hearer (body.Collect pn first last) = Some role.Peon
hearer (body.Last pn first last whole from values pending) = Some role.Leader
hearer (body.Begin pn v value) = Some role.Peon
hearer (body.Accept pn v) = Some role.Leader
hearer (body.Commit from values) = Some role.Peon
hearer (body.Lease last) = Some role.Peon
hearer (body.LeaseAck last) = Some role.Leader
hearer (body.Forward seq c) = Some role.Clients
hearer (body.Route seq r) = Some role.Clients
hearer body.GetCookieFull = Some role.Provider
hearer (body.GetCookieRecent last) = Some role.Provider
hearer (body.Cookie full cookie last) = Some role.Requester
hearer (body.GetChunk cookie place) = Some role.Provider
hearer (body.Chunk cookie place values entries done) = Some role.Requester
hearer (body.LastChunk cookie place values entries last) = Some role.Requester
hearer (body.NoCookie cookie) = Some role.Requester
hearer (body.Ping table) = Some role.Elector
hearer (body.PingReply table) = Some role.Elector
hearer (body.Request id r) = None
hearer (body.Reply id r) = None

abbrev pub woken_by : Timer → Role
woken_by timer.Probe = role.Prober
woken_by timer.Election = role.Elector
woken_by timer.Collect = role.Leader
woken_by timer.Accept = role.Leader
woken_by timer.Renew = role.Leader
woken_by timer.LeaseAck = role.Leader
woken_by timer.Lease = role.Peon
woken_by timer.Sync = role.Requester
woken_by timer.Step = role.Requester
woken_by timer.Propose = role.Clients
woken_by timer.Ping = role.Elector

-- The role that answers a client's request. A request for a map has none: the core itself shows it.
abbrev pub helper : Request → Option Role
helper (request.Set key value) = Some role.Clients
helper (request.Remove key) = Some role.Clients
helper (request.Log text) = Some role.Clients
helper (request.Since s version) = Some role.Clients
helper (request.Show s) = None

abbrev pub role_of : Input → Option Role
role_of input.Start = None
role_of (input.Deliver m) = hearer m.body
role_of (input.Timer t) = Some (woken_by t)
role_of (input.Client session r) = helper r
