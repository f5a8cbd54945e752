-- How what a monitor sends goes out as datagrams.
use Rattle.std.specs.Prelude.{◌≡◌, ℕ, ◌+◌, ◌^◌, ◌<◌, nat_lt, List, [], ◌∷◌, ◌++◌, length, map, take, Option, Result, Ok, Err, option_map, if◌then◌else◌}
use Rattle.mon_bounds.specs.Fitting.{answer_in}
use Rattle.mon_frag.specs.Pieces.{pieces_of}
use Rattle.mon_frag.specs.declared.cutting.TheConstants.{DATAGRAM}
use Rattle.mon_kv.specs.Readers.{epoch}
use Rattle.mon_link.specs.Histories.{Happened}
use Rattle.mon_link.specs.Links.{Observed}
use Rattle.mon_link.specs.declared.link.Outgoing.{Outgoing}
use Rattle.mon_link.specs.declared.link.Peer.TheVariants.{Monitor, Client}
use Rattle.mon_link.specs.declared.link.Peer.{Peer}
use Rattle.mon_msg.specs.declared.plan.Sent.TheVariants as sent
use Rattle.mon_msg.specs.declared.plan.Sent.{Sent}
use Rattle.mon_msg.specs.declared.view.Me.{Me}
use Rattle.mon_tx.specs.Keys.{number}
use Rattle.mon_tx.specs.Map.{Store}
use Rattle.mon_tx.specs.declared.key.Area.TheVariants as area
use Rattle.mon_tx.specs.declared.key.Key.TheVariants as key
use Rattle.mon_types.specs.declared.names.Which.TheVariants as which
use Rattle.mon_wire.specs.Message.Whole.{text}
use Rattle.mon_node.specs.Sends.{LinkNow, Went, WentFirst}
use Rattle.mon_node.specs.declared.end.NodeEnd.TheVariants as end
use Rattle.mon_node.specs.declared.end.NodeEnd.{NodeEnd}

abbrev pub to_peer : Peer → List ℕ → Outgoing
to_peer to bytes = record { to = to; bytes = bytes }

-- a message or a reply as bytes for its receiver: a reply goes to its client in a message with this epoch
abbrev pub letter : Me → (epoch : ℕ) → Sent → Outgoing
letter me e (sent.Message to m) = to_peer (Monitor to) (text m)
letter me e (sent.Reply to r) = to_peer (Client to.client) (text (answer_in me e to r))

-- the number that is next after a message of this length: one that is longer than a datagram uses its number up
abbrev pub next_after_message : (next : ℕ) → (len : ℕ) → ℕ
next_after_message next len = if nat_lt DATAGRAM len then next + 1 else next

-- the number that is next after all of these were sent
abbrev pub next_after : ℕ → List Outgoing → ℕ
next_after next [] = next
next_after next (l ∷ letters) = next_after (next_after_message next (length l.bytes)) letters

-- the datagrams of one message, and of all in order
abbrev pub datagrams_of : (boot next : ℕ) → Outgoing → List Outgoing
datagrams_of boot next l = map (to_peer l.to) (pieces_of l.bytes boot next)

abbrev pub datagrams : (boot next : ℕ) → List Outgoing → List Outgoing
datagrams boot next [] = []
datagrams boot next (l ∷ letters) =
    datagrams_of boot next l ++ datagrams boot (next_after_message next (length l.bytes)) letters

-- the messages before the first that is longer than a datagram and for which no number is left
abbrev pub with_number : (next : ℕ) → List Outgoing → List Outgoing
with_number next [] = []
with_number next (l ∷ letters) =
    if nat_lt (2 ^ 62 + 1) (next_after_message next (length l.bytes)) then []
    else l ∷ with_number (next_after_message next (length l.bytes)) letters

-- the messages and replies as bytes, with the epoch of a store; and how often its monitor was started
abbrev pub letters : Me → Store → List Sent → List Outgoing
letters me m out = map (letter me (epoch m)) out

abbrev pub boot_in : Store → ℕ
boot_in m = number m area.Monitor key.BootCount

-- ---- what a link is asked to send

abbrev pub and_sent : List Outgoing → Observed → Observed
and_sent ds t = record t { sent = t.sent ++ ds }

abbrev pub SendsAll : List Outgoing → Option Observed → Option Observed → Type 0
SendsAll ds old new = new ≡ option_map (and_sent ds) old

-- a prefix of them
abbrev pub SendsPrefix : List Outgoing → Option Observed → Option Observed → Type 0
SendsPrefix ds old new = (n : ℕ) × SendsAll (take n ds) old new

abbrev pub SendsBy : {T E : Type 0} → List Outgoing → Result T E → Option Observed → Option Observed → Type 0
SendsBy ds (Ok x) old new = SendsAll ds old new
SendsBy ds (Err e) old new = SendsPrefix ds old new

abbrev pub WentBy : {T E : Type 0} → List Outgoing → Result T E → (before after : List Happened → Type 0) → Type 0
WentBy ds (Ok x) before after = Went ds before after
WentBy ds (Err e) before after = WentFirst ds before after

-- All of these datagrams were sent, or a prefix of them if the node ended. No fault is counted.
pub record Posts {T E : Type 0} (ds : List Outgoing) (result : Result T E) (old new : LinkNow) : Type 0 where
  pub observed : SendsBy ds result old.state.observed new.state.observed
  pub went : WentBy ds result old.history new.history
  pub faults : new.state.faults ≡ old.state.faults

-- why not all of them were: the number of the next one passes the greatest, or memory ran out
abbrev pub IsSpent : (next : ℕ) → NodeEnd → Type 0
IsSpent next (end.Spent which.Seq) = 2 ^ 62 + 1 < next
IsSpent next (end.Spent other) = ⊥
IsSpent next end.OutOfMemory = Unit {0}
IsSpent next other = ⊥
