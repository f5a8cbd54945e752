-- What is known of a monitor from the headers of the messages that it sends and gets. This may be less than its core
-- knows.
use Rattle.std.specs.Prelude.{ℕ, max, ◌+◌, ◌==◌, ◌&&◌, Bool, true, false, nat_le, List, Option, Some, None, is_some, slice_set, slice_index_or, replicate, if◌then◌else◌}
use Rattle.mon_types.specs.Faults.{risen}
use Rattle.mon_link.specs.declared.link.Peer.{Peer}
use Rattle.mon_link.specs.declared.link.Peer.TheVariants.{Monitor, Client}
use Rattle.mon_wire.specs.Phases.{same_phase, is_member}
use Rattle.mon_wire.specs.declared.kind.Kind.{Kind}
use Rattle.mon_wire.specs.declared.kind.Kind.TheVariants as kind
use Rattle.mon_wire.specs.declared.phase.Phase.{Phase}
use Rattle.mon_wire.specs.declared.phase.Phase.TheVariants as phase
use Rattle.mon_decode.specs.Headers.{header_of}
use Rattle.mon_decode.specs.declared.header.Header.{Header}
use Rattle.mon_watch.specs.declared.contact.Contact.{Contact}
use Rattle.mon_watch.specs.declared.contact.TheConstants.{SILENCE}
use Rattle.mon_watch.specs.declared.seen.Seen.{Seen}
use Rattle.mon_watch.specs.declared.seen.Victory.{Victory}

-- ---- another monitor

abbrev pub no_contact : Contact
no_contact = record { heard = None; asked = None }

-- The monitor was heard, so it has nothing to answer.
abbrev pub heard_at : ℕ → Contact
heard_at now = record { heard = Some now; asked = None }

-- when it was first sent something to answer since it was heard: at the time noted, if there is one, and otherwise now
abbrev pub or_first : ℕ → Option ℕ → Option ℕ
or_first now None = Some now
or_first now (Some at) = Some at

abbrev pub asked_at : ℕ → Contact → Contact
asked_at now c = record { heard = c.heard; asked = or_first now c.asked }

-- something to answer was sent at the time noted, ten seconds ago or earlier
abbrev pub is_past : ℕ → Option ℕ → Bool
is_past now None = false
is_past now (Some at) = nat_le (at + SILENCE) now

abbrev pub is_silent : ℕ → Contact → Bool
is_silent now c = is_past now c.asked

-- ---- a message that is sent

-- the phase of a monitor that sends a message of this kind to another one, if the kind shows it
abbrev pub shown : Kind → Option Phase
shown kind.Probe = Some phase.Probing
shown kind.Propose = Some phase.Electing
shown kind.Ack = Some phase.Electing
shown kind.Victory = Some phase.Collecting
shown kind.Collect = Some phase.Collecting
shown kind.Lease = Some phase.Active
shown kind.Last = Some phase.Peon
shown kind.Accept = Some phase.Peon
shown kind.LeaseAck = Some phase.Peon
shown kind.GetCookieFull = Some phase.Synchronizing
shown kind.GetCookieRecent = Some phase.Synchronizing
shown k = None

abbrev pub shows : Option Kind → Bool
shows (Some k) = is_some (shown k)
shows None = false

-- The header of a message that is sent is read if its kind shows a phase.
abbrev pub header_read : Option Kind → List ℕ → Option Header
header_read k bytes = if shows k then header_of bytes else None

-- who leads the quorum of a monitor of this rank that sends to `to` in such a phase
abbrev pub led_by : (own to : ℕ) → Phase → Option ℕ
led_by own to phase.Collecting = Some own
led_by own to phase.Active = Some own
led_by own to phase.Peon = Some to
led_by own to p = None

-- the monitor from which it takes a store, until it is in a quorum
abbrev pub taken_from : (to : ℕ) → Phase → Option ℕ → Option ℕ
taken_from to phase.Synchronizing old = Some to
taken_from to p old = if is_member p then None else old

-- how many elections began: one more if it elects now and didn't before, or did in an earlier epoch
abbrev pub elections_after : (epoch : ℕ) → Phase → Seen → ℕ
elections_after epoch phase.Electing s =
    if same_phase s.phase phase.Electing && nat_le epoch s.epoch then s.elections else risen s.elections
elections_after epoch p s = s.elections

-- the sender's last version, if the message names it
abbrev pub named : Kind → (first : ℕ) → ℕ
named kind.Lease first = first
named kind.LeaseAck first = first
named k first = 0

-- ---- victories

-- the victory of the latest epoch
abbrev pub later_of : Victory → Option Victory → Option Victory
later_of v None = Some v
later_of v (Some w) = if nat_le w.epoch v.epoch then Some v else Some w

-- the victory that is known after a message of this monitor
abbrev pub victory_after : (leader : ℕ) → Kind → (epoch quorum : ℕ) → Option Victory → Option Victory
victory_after leader kind.Victory epoch quorum old = later_of (record { leader = leader; epoch = epoch; quorum = quorum }) old
victory_after leader k epoch quorum old = old

-- the quorum of a monitor that follows this leader in this epoch, as bits: 0 if it isn't known
abbrev pub quorum_of : (leader : Option ℕ) → (epoch : ℕ) → Option Victory → ℕ
quorum_of (Some r) epoch (Some v) = if v.leader == r && v.epoch == epoch then v.quorum else 0
quorum_of leader epoch v = 0

-- ---- the fold

abbrev pub nothing_seen : Seen
nothing_seen = record {
  phase = phase.Booting;
  epoch = 0;
  leader = None;
  source = None;
  victory = None;
  version = 0;
  elections = 0;
  contacts = replicate 15 no_contact;
}

-- The monitor of rank `own` sent a message of this header to the monitor `to`, which shows this phase.
abbrev pub after_phase : (own to : ℕ) → Header → Option Phase → Seen → Seen
after_phase own to h None s = s
after_phase own to h (Some p) s = record {
  phase = p;
  epoch = h.epoch;
  leader = led_by own to p;
  source = taken_from to p s.source;
  victory = victory_after own h.kind h.epoch h.first s.victory;
  version = max s.version (named h.kind h.first);
  elections = elections_after h.epoch p s;
  contacts = s.contacts;
}

-- Without a header nothing more is known.
abbrev pub after_header : (own to : ℕ) → Option Header → Seen → Seen
after_header own to None s = s
after_header own to (Some h) s = after_phase own to h (shown h.kind) s

-- whether a monitor that is well answers each message of this kind
abbrev pub awaits : Kind → Bool
awaits kind.Probe = true
awaits kind.Collect = true
awaits kind.Begin = true
awaits kind.Lease = true
awaits kind.Forward = true
awaits kind.GetCookieFull = true
awaits kind.GetCookieRecent = true
awaits kind.GetChunk = true
awaits kind.Ping = true
awaits k = false

abbrev pub contact_after : (now : ℕ) → Option Kind → Contact → Contact
contact_after now (Some k) c = if awaits k then asked_at now c else c
contact_after now None c = c

abbrev pub with_contact : ℕ → Contact → Seen → Seen
with_contact j c s = record s { contacts = slice_set s.contacts j c }

-- a datagram of a message of this kind, or of none, went out at this time
abbrev pub after_sent : (own now : ℕ) → Peer → Option Kind → List ℕ → Seen → Seen
after_sent own now (Monitor to) k bytes s =
    with_contact to (contact_after now k (slice_index_or s.contacts to no_contact)) (after_header own to (header_read k bytes) s)
after_sent own now (Client c) k bytes s = s

-- ---- a message that comes

-- The header of a message that comes is read if it announces a victory.
abbrev pub announces : Option Kind → Bool
announces (Some kind.Victory) = true
announces k = false

abbrev pub header_heard : Option Kind → List ℕ → Option Header
header_heard k bytes = if announces k then header_of bytes else None

-- a message of this header came from the monitor `from`
abbrev pub after_heard : (from : ℕ) → Option Header → Seen → Seen
after_heard from None s = s
after_heard from (Some h) s = record s { victory = victory_after from h.kind h.epoch h.first s.victory }

-- a datagram of a message of this kind, or of none, came at this time
abbrev pub after_arrival : (now : ℕ) → Peer → Option Kind → List ℕ → Seen → Seen
after_arrival now (Monitor from) k bytes s =
    with_contact from (heard_at now) (after_heard from (header_heard k bytes) s)
after_arrival now (Client c) k bytes s = s
