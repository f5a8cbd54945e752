-- How many datagrams a monitor sent and got, by what they are.
use Rattle.std.specs.Prelude.{ℕ, List, Option, Some, None, slice_set, slice_index_or, replicate, if◌then◌else◌}
use Rattle.mon_types.specs.Faults.{risen}
use Rattle.mon_link.specs.declared.link.Got.{Got}
use Rattle.mon_link.specs.declared.link.Got.TheVariants.{Datagram, Idle, Closed}
use Rattle.mon_link.specs.declared.link.Peer.{Peer}
use Rattle.mon_frag.specs.Headers.{is_piece}
use Rattle.mon_decode.specs.Headers.{kind_byte}
use Rattle.mon_wire.specs.declared.kind.Kind.{Kind}
use Rattle.mon_watch.specs.Kinds.{kind_named}
use Rattle.mon_watch.specs.declared.notes.Notes.{Notes}
use Rattle.mon_watch.specs.declared.traffic.Traffic.{Traffic}
use Rattle.mon_watch.specs.Seen.{after_sent, after_arrival, nothing_seen}

-- the place at which a datagram counts: the byte of the kind that it names, or 0 if it is a piece of a long message
abbrev pub place : List ℕ → Option Kind → Option ℕ
place bytes (Some k) = Some (kind_byte k)
place bytes None = if is_piece bytes then Some 0 else None

abbrev pub no_traffic : Traffic
no_traffic = record { sent = replicate 26 0; received = replicate 26 0; refused = 0 }

abbrev pub counted_at : ℕ → List ℕ → List ℕ
counted_at k counts = slice_set counts k (risen (slice_index_or counts k 0))

abbrev pub with_sent : Option ℕ → Traffic → Traffic
with_sent (Some k) t = record t { sent = counted_at k t.sent }
with_sent None t = t

-- a datagram that is neither is refused
abbrev pub with_received : Option ℕ → Traffic → Traffic
with_received (Some k) t = record t { received = counted_at k t.received }
with_received None t = record t { refused = risen t.refused }

-- ---- all that is noted

abbrev pub no_notes : Notes
no_notes = record { seen = nothing_seen; traffic = no_traffic; now = 0 }

-- The monitor of rank `own` sent a datagram. It is noted at the time at which the link below last gave something.
abbrev pub notes_sent : (own : ℕ) → Peer → List ℕ → Notes → Notes
notes_sent own to bytes n =
    let k = kind_named bytes in
    record n { seen = after_sent own n.now to k bytes n.seen; traffic = with_sent (place bytes k) n.traffic }

abbrev pub notes_arrival : Peer → List ℕ → Notes → Notes
notes_arrival from bytes n =
    let k = kind_named bytes in
    record n { seen = after_arrival n.now from k bytes n.seen; traffic = with_received (place bytes k) n.traffic }

-- the link below gave this at this time
abbrev pub notes_got : (now : ℕ) → Got → Notes → Notes
notes_got now (Datagram from bytes) n = notes_arrival from bytes (record n { now = now })
notes_got now Idle n = record n { now = now }
notes_got now Closed n = record n { now = now }
