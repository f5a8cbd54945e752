-- What goes over the wire, in the frame of a quorum's tag.
use Rattle.std.specs.Prelude.{◌≡◌, ◌⊎◌, ℕ, List, Result, Ok, Err, None}
use Rattle.mon_bytes.specs.Reading.{IsBytes}
use Rattle.mon_link.specs.declared.link.Got.{Got}
use Rattle.mon_link.specs.declared.link.Got.TheVariants.{Datagram, Idle, Closed}
use Rattle.mon_link.specs.declared.link.Peer.{Peer}
use Rattle.mon_link.specs.declared.link.Peer.TheVariants.{Monitor, Client}
use Rattle.mon_types.specs.declared.names.Stop.{Stop}
use Rattle.mon_name.specs.Frames.{framed, unframed}
use Rattle.quorum_network.specs.Network.{Network, CameFrom}

-- Bytes may come over the wire to monitor i. From the address of a monitor these are a datagram that it sent to this
-- one in any of its lives, framed, or any bytes at all that aren't framed with the tag. From a client any bytes may
-- come.
abbrev pub CameOver : (tag : ℕ) → Network → ℕ → Peer → List ℕ → Type 0
CameOver tag net i (Monitor j) bytes =
    ((d : List ℕ) × CameFrom net i (Monitor j) d × (bytes ≡ framed tag d)) ⊎ (unframed tag bytes ≡ None)
CameOver tag net i (Client c) bytes = IsBytes bytes

abbrev pub IsOverWire : (tag : ℕ) → Network → ℕ → Result Got Stop → Type 0
IsOverWire tag net i (Ok (Datagram from bytes)) = CameOver tag net i from bytes
IsOverWire tag net i (Ok Idle) = Unit {0}
IsOverWire tag net i (Ok Closed) = Unit {0}
IsOverWire tag net i (Err e) = Unit {0}
