-- What clients read.
use Rattle.std.specs.Prelude.{ℕ, suc, Bool, not, ◌||◌, ◌==◌, nat_le, nat_lt, List, Result, Ok, if◌then◌else◌, ◌-◌, length}
use Rattle.mon_lease.specs.Lease.{stands, readable}
use Rattle.mon_msg.specs.Protocol.Course.{Course}
use Rattle.mon_msg.specs.Protocol.Phases.{is_member}
use Rattle.mon_msg.specs.Protocol.Services.{service_first, service_last, read_map, kept_from, fits_reply}
use Rattle.mon_msg.specs.Protocol.Records.{longest}
use Rattle.mon_msg.specs.Protocol.Sending.{reply_to}
use Rattle.mon_msg.specs.Protocol.State.{State, lease_of}
use Rattle.mon_msg.specs.Protocol.Readings.{Readings}
use Rattle.mon_wire.specs.declared.reply.Reply.TheVariants as reply
use Rattle.mon_wire.specs.declared.reply.Reply.{Reply}
use Rattle.mon_wire.specs.declared.request.Service.{Service}
use Rattle.mon_wire.specs.declared.request.Session.{Session}
use Rattle.mon_msg.specs.declared.view.Me.{Me}
use Rattle.mon_types.specs.declared.names.Which.{Which}

-- the incrementals after version v that are kept, as many as one reply takes, and whether there are more
abbrev pub changes_after : Readings → Service → ℕ → List (List ℕ) → Reply
changes_after w s v kept =
    let updates = longest fits_reply kept in reply.Since s v updates (nat_lt (length updates) (length kept))

abbrev pub shown : Readings → Service → Reply
shown w s = reply.Shown s w.last (service_last w s) (read_map w s)

-- the incrementals after version v; if the next one isn't kept any more, the whole map
unfoldable pub since : Readings → Service → ℕ → Reply
since w s v =
    if nat_le (service_first w s) (suc v)
    then changes_after w s v (kept_from w s (service_last w s - v) (suc v))
    else shown w s

module _ (me : Me) (now : ℕ) where
  -- the lease is valid, or the map has no other monitor
  abbrev pub is_standing : State → Bool
  is_standing s = me.member.monitors == 1 || stands (lease_of s) now

  abbrev pub read : Session → (Readings → Reply) → Course → Result Course Which
  read session reading x =
      if not (is_member x.state.phase) then Ok (reply_to session reply.Unavailable x) else (
      if not (readable x.readings.last me.member.monitors (lease_of x.state) now)
      then Ok (reply_to session (reply.NotReadable x.readings.last (is_standing x.state)) x)
      else Ok (reply_to session (reading x.readings) x))
