-- What a peer sends, which of it arrives, and what an assembly answers to that.
use Rattle.std.specs.Prelude.{◌≡◌, ◌≤◌, ◌<◌, ◌^◌, ℕ, false, List, [], ◌∷◌, length, Option, Some, None, Ok, Err}
use Rattle.std.specs.List.{Contains, AllByRecursion}
use Rattle.mon_bytes.specs.declared.limits.TheConstants.{MOST_MESSAGE}
use Rattle.mon_link.specs.declared.link.Peer.{Peer}
use Rattle.mon_frag.specs.declared.cutting.TheConstants.{DATAGRAM}
use Rattle.mon_frag.specs.declared.partial.Partial.{Partial}
use Rattle.mon_frag.specs.Pieces.{pieces_of}
use Rattle.mon_frag.specs.Headers.{is_piece}
use Rattle.mon_frag.specs.Keeping.{Outcome, taken}

-- a message, and the numbers that it was sent under
pub record Message : Type 0 where
  pub boot : ℕ
  pub seq : ℕ
  pub bytes : List ℕ

-- a message that can be cut, and isn't taken for a piece
pub record IsMessage (m : Message) : Type 0 where
  pub most : length m.bytes ≤ MOST_MESSAGE
  pub boot : m.boot < 2 ^ 64
  pub seq : m.seq < 2 ^ 64
  pub no_piece : is_piece m.bytes ≡ false

-- the message is longer than a datagram
abbrev pub IsLong : Message → Type 0
IsLong m = DATAGRAM < length m.bytes

-- These are messages, and no two of them that are longer than a datagram share their two numbers.
pub record AreSent (sent : List Message) : Type 0 where
  pub messages : (m : Message) → Contains sent m → IsMessage m
  pub numbered : (m n : Message) → Contains sent m → Contains sent n → IsLong m → IsLong n → m.boot ≡ n.boot → m.seq ≡ n.seq → m.bytes ≡ n.bytes

-- bytes from a peer
pub record FromPeer : Type 0 where
  pub from : Peer
  pub bytes : List ℕ

-- These bytes are a datagram of one of these messages.
abbrev pub IsDatagram : List Message → List ℕ → Type 0
IsDatagram sent bytes = (m : Message) × Contains sent m × Contains (pieces_of m.bytes m.boot m.seq) bytes

-- These bytes are one of these messages, whole.
abbrev pub IsWhole : List Message → List ℕ → Type 0
IsWhole sent bytes = (m : Message) × Contains sent m × (m.bytes ≡ bytes)

-- a property of the bytes, if they are from this peer
abbrev pub From : Peer → (List ℕ → Type 0) → FromPeer → Type 0
From q P d = q ≡ d.from → P d.bytes

-- what is answered to datagrams in the order in which they come, and from whom it is
abbrev pub and_answered : Peer → Option (List ℕ) → List FromPeer → List FromPeer
and_answered from None later = later
and_answered from (Some bytes) later = record { from = from; bytes = bytes } ∷ later

abbrev pub answer_in : Outcome → Option (List ℕ)
answer_in (Ok t) = t.answer
answer_in (Err e) = None

abbrev pub kept_in : List Partial → Outcome → List Partial
kept_in old (Ok t) = t.kept
kept_in old (Err e) = old

abbrev pub answered : List Partial → List FromPeer → List FromPeer
answered kept [] = []
answered kept (d ∷ later) =
    and_answered d.from (answer_in (taken kept d.from d.bytes)) (answered (kept_in kept (taken kept d.from d.bytes)) later)

-- The datagrams of one peer are those of what it sent, and what comes from other peers are any bytes.
abbrev pub AllWhole : Type 0
AllWhole =
    (q : Peer) (sent : List Message) (came : List FromPeer) → AreSent sent → AllByRecursion (From q (IsDatagram sent)) came
    → AllByRecursion (From q (IsWhole sent)) (answered [] came)
