-- The words of traces.
use Rattle.std.specs.Prelude.{ℕ, Bool, true, false, List, codes}
use Rattle.mon_wire.specs.declared.body.Body.{Body}
use Rattle.mon_wire.specs.declared.body.Body.TheVariants as body
use Rattle.mon_wire.specs.declared.phase.Phase.{Phase}
use Rattle.mon_wire.specs.declared.phase.Phase.TheVariants.{Booting, Probing, Synchronizing, Electing, Collecting, Previous, Active, Updating, Peon}

abbrev pub flag_text : Bool → List ℕ
flag_text false = codes "0"
flag_text true = codes "1"

-- what became of a transaction
abbrev pub fate_text : Bool → List ℕ
fate_text false = codes "lost"
fate_text true = codes "kept"

abbrev pub phase_text : Phase → List ℕ
phase_text Booting = codes "booting"
phase_text Probing = codes "probing"
phase_text Synchronizing = codes "synchronizing"
phase_text Electing = codes "electing"
phase_text Collecting = codes "collecting"
phase_text Previous = codes "previous"
phase_text Active = codes "active"
phase_text Updating = codes "updating"
phase_text Peon = codes "peon"

-- the kind of a message
abbrev pub kind_text : Body → List ℕ
kind_text body.Probe = codes "PROBE"
kind_text (body.ProbeReply quorum first last) = codes "PROBE_REPLY"
kind_text (body.Propose table) = codes "PROPOSE"
kind_text body.Ack = codes "ACK"
kind_text (body.Victory quorum) = codes "VICTORY"
kind_text (body.Collect pn first last) = codes "COLLECT"
kind_text (body.Last pn first last whole from values pending) = codes "LAST"
kind_text (body.Begin pn version value) = codes "BEGIN"
kind_text (body.Accept pn version) = codes "ACCEPT"
kind_text (body.Commit from values) = codes "COMMIT"
kind_text (body.Lease last) = codes "LEASE"
kind_text (body.LeaseAck last) = codes "LEASE_ACK"
kind_text (body.Forward seq command) = codes "FORWARD"
kind_text (body.Route seq reply) = codes "ROUTE"
kind_text body.GetCookieFull = codes "GET_COOKIE_FULL"
kind_text (body.GetCookieRecent last) = codes "GET_COOKIE_RECENT"
kind_text (body.Cookie full cookie last) = codes "COOKIE"
kind_text (body.GetChunk cookie place) = codes "GET_CHUNK"
kind_text (body.Chunk cookie place values entries done) = codes "CHUNK"
kind_text (body.LastChunk cookie place values entries last) = codes "LAST_CHUNK"
kind_text (body.NoCookie cookie) = codes "NO_COOKIE"
kind_text (body.Ping table) = codes "PING"
kind_text (body.PingReply table) = codes "PING_REPLY"
kind_text (body.Request id request) = codes "REQUEST"
kind_text (body.Reply id reply) = codes "REPLY"
