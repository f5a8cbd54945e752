-- What processes promise of their maps and of who leads, and how what they send reaches clients.
use Rattle.std.specs.Prelude.{◌≡◌, ℕ, ◌<◌, ◌≤◌, max, Bool, true, List, [], length}
use Rattle.std.specs.List.{AllByRecursion, Contains}
use Rattle.mon_frag.specs.Whole.{FromPeer, answered}
use Rattle.mon_kv.specs.Readers.{is_marked}
use Rattle.mon_link.specs.declared.link.Peer.{Peer}
use Rattle.mon_link.specs.declared.link.Peer.TheVariants.{Monitor, Client}
use Rattle.mon_msg.specs.Protocol.Readings.{epoch_of, readings_of}
use Rattle.mon_node.specs.Nodes.{Serving}
use Rattle.mon_tx.specs.Keys.{cell, number, shared}
use Rattle.mon_tx.specs.Map.{Store}
use Rattle.mon_tx.specs.declared.key.Area.TheVariants as area
use Rattle.mon_tx.specs.declared.key.Key.TheVariants as key
use Rattle.quorum_model.specs.Agree.{Agrees, IsAsked}
use Rattle.quorum_model.specs.Growth.{last_of}
use Rattle.quorum_model.specs.Happens.{is_active}
use Rattle.quorum_model.specs.Kept.{AcknowledgedOnce, IsKept}
use Rattle.quorum_model.specs.Monitors.{Monitors}
use Rattle.quorum_model.specs.World.{Acknowledgement, Asked}
use Rattle.quorum_network.specs.Network.{Network, Posted, Up, map_of, state_of}
use Rattle.quorum_network.specs.Running.{IsPiece}

-- ---- what goes to a client, and what it joins

-- Bytes that were sent to a client are a datagram of a message that its monitor may send to this client.
abbrev pub IfToClient : (MaySend : (i c : ℕ) → List ℕ → Type 0) → (i : ℕ) → Peer → List ℕ → Type 0
IfToClient MaySend i (Monitor j) bytes = Unit {0}
IfToClient MaySend i (Client c) bytes = (whole : List ℕ) × MaySend i c whole × IsPiece whole bytes

-- Whether a monitor knew a client by a number. Each monitor numbers clients by itself, anew in each of its lives.
abbrev pub Numbers : Type 0
Numbers = (monitor number : ℕ) → Bool

-- If a client receives a datagram from monitor i, that monitor sent it to a number of this client. From others, any
-- bytes may come.
abbrev pub ReachesClient : List Posted → Numbers → Peer → List ℕ → Type 0
ReachesClient sent numbers (Monitor i) bytes =
    (c : ℕ) × (numbers i c ≡ true)
    × Contains sent (record { by = i; datagram = record { to = Client c; bytes = bytes } })
ReachesClient sent numbers (Client other) bytes = Unit {0}

-- a message that it joined, if it is a monitor's, is one that this monitor may send to a number of this client
abbrev pub IsJoined : (MaySend : (i c : ℕ) → List ℕ → Type 0) → Numbers → Peer → List ℕ → Type 0
IsJoined MaySend numbers (Monitor i) bytes = (c : ℕ) × (numbers i c ≡ true) × MaySend i c bytes
IsJoined MaySend numbers (Client other) bytes = Unit {0}

-- Each of these datagrams, if it went to a client, is a message that its monitor may send, or a piece of one. A client
-- that joins them, however often and in whatever order they come, joins such messages whole.
pub record AreAnswers (MaySend : (i c : ℕ) → List ℕ → Type 0) (sent : List Posted) : Type 0 where
  pub each : AllByRecursion (λ (d : Posted). IfToClient MaySend d.by d.datagram.to d.datagram.bytes) sent
  pub joined : (numbers : Numbers) (came : List FromPeer)
      → AllByRecursion (λ (d : FromPeer). ReachesClient sent numbers d.from d.bytes) came
      → AllByRecursion (λ (d : FromPeer). IsJoined MaySend numbers d.from d.bytes) (answered [] came)

-- ---- the log

-- these processes keep what was acknowledged
abbrev pub IsKeptBy : ℕ → Network → List (List ℕ) → Acknowledgement → Type 0
IsKeptBy n net log a = IsKept n log (λ i. state_of (net.process i)) (λ i. map_of (net.process i)) a

-- Each entry of the log is the value of a command that a client asked, over the entries before it. All maps are the
-- log's, except those under a full synchronization. All that was acknowledged is kept, and no version is acknowledged
-- twice.
pub record IsLogOf (ms : Monitors) (requests : List Asked) (acks : List Acknowledgement) (net : Network)
    (log : List (List ℕ)) : Type 0 where
  pub values : (v : ℕ) → v < length log → IsAsked ms.count requests log v
  pub maps : (i : ℕ) → i < ms.count → ¬ (is_marked (map_of (net.process i)) ≡ true) → Agrees log (map_of (net.process i))
  pub kept : AllByRecursion (IsKeptBy ms.count net log) acks
  pub once : AcknowledgedOnce (λ (a : Acknowledgement). a.version) acks

-- ---- two maps

-- a map keeps a committed version
pub record Keeps (m : Store) (v : ℕ) : Type 0 where
  pub unmarked : ¬ (is_marked m ≡ true)
  pub from : max 1 (number m area.Paxos key.FirstCommitted) ≤ v
  pub to : v ≤ last_of m

-- Two maps have the same bytes of each version that both keep. If neither is under a full synchronization, and both
-- have the same last version, then their shared keys have the same values.
pub record AgreeWith (a b : Store) : Type 0 where
  pub versions : (v : ℕ) → Keeps a v → Keeps b v
      → cell a area.Paxos (key.Version v) ≡ cell b area.Paxos (key.Version v)
  pub contents : ¬ (is_marked a ≡ true) → ¬ (is_marked b ≡ true) → last_of a ≡ last_of b → shared a ≡ shared b

-- ---- leaders

-- the process of monitor i is up, and an active leader in epoch e
pub record Leads (net : Network) (i e : ℕ) : Type 0 where
  pub serving : Serving
  pub up : net.process i ≡ Up serving
  pub active : is_active serving.node.state.phase ≡ true
  pub epoch : epoch_of (readings_of serving.node.store.kv) ≡ e
