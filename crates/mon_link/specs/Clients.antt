-- The clients that a link knows, and who is the client of a number.
use Rattle.std.specs.Prelude.{◌≡◌, ℕ, zero, suc, ◌+◌, ◌%◌, nat_lt, Bool, true, false, List, [], ◌∷◌, ◌++◌, length, replicate, slice_get, slice_set, slice_index_or, Some, if◌then◌else◌}
use Rattle.std.specs.List.{list_any, position_or_len}
use Rattle.std.specs.declared.net.socket_addr.SocketAddr.{SocketAddr}
use Rattle.std.specs.contracts.net.socket_addr.SocketAddrPartialEq.TheImpl as address_eq
use Rattle.mon_link.specs.declared.clients.Ring.{Ring}
use Rattle.mon_link.specs.declared.link.Peer.{Peer}
use Rattle.mon_link.specs.declared.link.Peer.TheVariants.{Monitor, Client}
use Rattle.mon_link.specs.declared.link.Got.{Got}
use Rattle.mon_link.specs.declared.link.Got.TheVariants.{Datagram, Idle, Closed}

-- how many clients are known at a time
abbrev pub MOST_CLIENTS : ℕ
MOST_CLIENTS = 1024

-- the addresses by number, and the ring of all numbers
pub record KnownClients : Type 0 where
  pub addresses : List SocketAddr
  pub ring : Ring

-- whether two addresses are equal
abbrev pub same_address : SocketAddr → SocketAddr → Bool
same_address = (address_eq.ghosts).eq

-- no number has a mark, and the hand is at the first
abbrev pub unmarked : Ring
unmarked = record { marks = replicate MOST_CLIENTS false; hand = 0 }

-- the number after this one in the ring
abbrev pub next : ℕ → ℕ
next number = (number + 1) % MOST_CLIENTS

-- The hand goes to the first number without a mark, past `most` others at most, and takes their marks.
unfoldable pub stopped : (most : ℕ) → Ring → Ring
stopped zero ring = ring
stopped (suc most) ring =
    if slice_index_or ring.marks ring.hand false then stopped most (record { marks = slice_set ring.marks ring.hand false; hand = next ring.hand })
    else ring

-- the ring after the client of a number was heard again
abbrev pub marked : ℕ → Ring → Ring
marked number ring = record ring { marks = slice_set ring.marks number true }

-- an address takes the number at which the hand is, and the hand goes on to the next
abbrev pub replaced : SocketAddr → List SocketAddr → Ring → KnownClients
replaced address addresses ring = record { addresses = slice_set addresses ring.hand address; ring = record ring { hand = next ring.hand } }

-- The clients after a datagram from an address. A known one keeps its number, which gets a mark. A new one gets the next
-- number. If all are taken, it gets the first one without a mark from the hand on, or that of the hand if all have marks.
abbrev pub seen : SocketAddr → KnownClients → KnownClients
seen address clients =
    if list_any (same_address address) clients.addresses then record clients { ring = marked (position_or_len (same_address address) clients.addresses) clients.ring }
    else if nat_lt (length clients.addresses) MOST_CLIENTS then record clients { addresses = clients.addresses ++ address ∷ [] }
    else replaced address clients.addresses (stopped MOST_CLIENTS clients.ring)

-- A sender that is no monitor is the client of its number. What a monitor sends changes no client.
abbrev pub Recognizes : Peer → SocketAddr → KnownClients → KnownClients → Type 0
Recognizes (Monitor rank) sender old new = new ≡ old
Recognizes (Client n) sender old new = (new ≡ seen sender old) × (slice_get new.addresses n ≡ Some sender)

-- a datagram has a sender, and nothing else changes a client
abbrev pub KnowsSender : Got → KnownClients → KnownClients → Type 0
KnowsSender (Datagram from bytes) old new = (sender : SocketAddr) × Recognizes from sender old new
KnowsSender Idle old new = new ≡ old
KnowsSender Closed old new = new ≡ old

abbrev pub is_datagram : Got → Bool
is_datagram (Datagram from bytes) = true
is_datagram Idle = false
is_datagram Closed = false
