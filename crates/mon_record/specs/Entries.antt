-- The entries of a record: what a clock showed, what a link returned, and what it was asked to send.
use Rattle.std.specs.Prelude.{ℕ, ◌==◌, List, [], ◌∷◌, ◌++◌, length, Result, Ok, Err, if◌then◌else◌}
use Rattle.mon_bytes.specs.Forms.{u32_bytes}
use Rattle.mon_frag.specs.Pieces.{u64_bytes}
use Rattle.mon_link.specs.declared.link.Got.{Got}
use Rattle.mon_link.specs.declared.link.Got.TheVariants.{Datagram, Idle, Closed}
use Rattle.mon_link.specs.declared.link.Peer.{Peer}
use Rattle.mon_link.specs.declared.link.Peer.TheVariants.{Monitor, Client}
use Rattle.mon_types.specs.declared.names.Stop.{Stop}
use Rattle.mon_types.specs.declared.names.Stop.TheVariants.{Failed, OutOfMemory}
use Rattle.mon_record.specs.declared.entry.Front.{Front}
use Rattle.mon_record.specs.declared.entry.TheConstants.{READ, CAME, IDLE, CLOSED, DEAF, FULL, SENT, LOST, UNSENT, GAP}

-- ---- bytes

-- what comes before the bytes that an entry counts
abbrev pub head : Front → (length : ℕ) → List ℕ
head f n = f.kind ∷ f.party ∷ u32_bytes f.who ++ u64_bytes f.number ++ u32_bytes n

abbrev pub entry : Front → List ℕ → List ℕ
entry f bytes = head f (length bytes) ++ bytes

abbrev pub of_kind : (kind number : ℕ) → Front
of_kind kind number = record { kind = kind; party = 0; who = 0; number = number }

abbrev pub of_peer : (kind : ℕ) → Peer → (number : ℕ) → Front
of_peer kind (Monitor rank) number = record { kind = kind; party = 1; who = rank; number = number }
of_peer kind (Client client) number = record { kind = kind; party = 2; who = client; number = number }

-- ---- what is recorded

-- the clock showed this time
abbrev pub reading : ℕ → List ℕ
reading time = entry (of_kind READ time) []

-- this many entries are missing, if any
abbrev pub gap : ℕ → List ℕ
gap n = if n == 0 then [] else entry (of_kind GAP n) []

-- a link returned this after at most `wait` milliseconds
abbrev pub came : (wait : ℕ) → Result Got Stop → Front
came wait (Ok (Datagram from bytes)) = of_peer CAME from wait
came wait (Ok Idle) = of_kind IDLE wait
came wait (Ok Closed) = of_kind CLOSED wait
came wait (Err Failed) = of_kind DEAF wait
came wait (Err OutOfMemory) = of_kind FULL wait

abbrev pub datagram : Result Got Stop → List ℕ
datagram (Ok (Datagram from bytes)) = bytes
datagram (Ok Idle) = []
datagram (Ok Closed) = []
datagram (Err e) = []

-- it was asked to send a datagram, and returned this
abbrev pub went : Peer → Result (Unit {0}) Stop → Front
went to (Ok x) = of_peer SENT to 0
went to (Err Failed) = of_peer LOST to 0
went to (Err OutOfMemory) = of_peer UNSENT to 0

abbrev pub received : (wait : ℕ) → Result Got Stop → List ℕ
received wait result = entry (came wait result) (datagram result)

abbrev pub sent : Peer → List ℕ → Result (Unit {0}) Stop → List ℕ
sent to bytes result = entry (went to result) bytes
