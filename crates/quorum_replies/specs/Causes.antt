-- Why a monitor doesn't serve a request: what its phase, its lease, its last version or its queue is when it says so.
use Rattle.std.specs.Prelude.{◌≡◌, ◌⊎◌, ℕ, ◌≤◌, ◌||◌, ◌==◌, true, false, length}
use Rattle.mon_lease.specs.Lease.{readable, stands}
use Rattle.mon_msg.specs.Protocol.Phases.{is_leading, is_member, is_peon}
use Rattle.mon_msg.specs.Protocol.Readings.{Readings}
use Rattle.mon_msg.specs.Protocol.State.{State, lease_of}
use Rattle.mon_msg.specs.declared.limits.TheConstants.{MOST_WAITING}
use Rattle.mon_wire.specs.declared.reply.Reply.{Reply}
use Rattle.mon_wire.specs.declared.reply.Reply.TheVariants as reply
use Rattle.quorum_replies.specs.Kinds.{IsServing, kind_of}

-- the queue of a leader has as many commands as may wait
abbrev pub HasFullQueue : State → Type 0
HasFullQueue s = (is_leading s.phase ≡ true) × (MOST_WAITING ≤ length s.clients.queue)

-- as many sessions wait at a peon as may wait
abbrev pub HasFullSessions : State → Type 0
HasFullSessions s = (is_peon s.phase ≡ true) × (MOST_WAITING ≤ length s.clients.sessions)

-- A monitor of n has a cause for this reply to a session of its own, by its store's readings, its state and the time. It
-- is in no quorum; or it is in one, and has no version or no valid lease; or as many wait as may wait. Only a reply that
-- says that a request isn't served needs a cause.
abbrev pub HasCause : (n now : ℕ) → Readings → State → Reply → Type 0
HasCause n now w s reply.Unavailable = is_member s.phase ≡ false
HasCause n now w s (reply.NotReadable has lease) =
    (is_member s.phase ≡ true) × (has ≡ w.last) × (lease ≡ (n == 1 || stands (lease_of s) now))
    × (readable w.last n (lease_of s) now ≡ false)
HasCause n now w s (reply.Busy waiting) = (waiting ≡ MOST_WAITING) × (HasFullQueue s ⊎ HasFullSessions s)
HasCause n now w s other = IsServing (kind_of other)

-- A leader in this state has a cause for this answer to a forwarded command: of these replies it is Busy alone.
abbrev pub HasCauseToRoute : State → Reply → Type 0
HasCauseToRoute s (reply.Busy waiting) = (waiting ≡ MOST_WAITING) × HasFullQueue s
HasCauseToRoute s other = IsServing (kind_of other)
