-- When a network does what a run of the model does.
use Rattle.std.specs.Prelude.{◌≡◌, ℕ, ◌<◌, List, Some}
use Rattle.std.specs.List.{AllByRecursion, Contains}
use Rattle.mon_frag.specs.Pieces.{pieces_of}
use Rattle.mon_link.specs.declared.link.Peer.{Peer}
use Rattle.mon_link.specs.declared.link.Peer.TheVariants.{Monitor, Client}
use Rattle.mon_node.specs.Nodes.{Serving}
use Rattle.mon_wire.specs.Message.Whole.{text}
use Rattle.mon_wire.specs.declared.body.Body.TheVariants as body
use Rattle.mon_wire.specs.declared.message.Message.{Message}
use Rattle.mon_wire.specs.declared.reply.Reply.{Reply}
use Rattle.mon_wire.specs.declared.request.Session.{Session}
use Rattle.quorum_model.specs.Events.{AllFit}
use Rattle.quorum_model.specs.Monitors.{Monitors}
use Rattle.quorum_model.specs.Runs.{run}
use Rattle.quorum_model.specs.Safe.{Safe}
use Rattle.quorum_model.specs.World.{Asked, World, Event, Replied}
use Rattle.quorum_network.specs.Network.{Network, Posted, Up, map_of}

-- the message by which monitor i of n replies in a session
abbrev pub reply_message : (n i epoch : ℕ) → Session → Reply → Message
reply_message n i epoch session r = record { from = i; monitors = n; epoch = epoch; body = body.Reply session.id r }

-- the message that brings a client this reply
abbrev pub answer_of : (count : ℕ) → Replied → Message
answer_of count r = reply_message count r.rank r.epoch r.session r.reply

-- bytes are a message with this text, or a piece of it with some numbers
abbrev pub IsPiece : List ℕ → List ℕ → Type 0
IsPiece whole bytes = (life seq : ℕ) × Contains (pieces_of whole life seq) bytes

-- What process i sent to a monitor is a message of the run, which monitor i sent to that monitor, or a piece of it.
-- What it sent to a client is a reply of the run, by monitor i and in a session of that client, or a piece of it.
abbrev pub IsSentInRun : (count : ℕ) → World → (by : ℕ) → Peer → List ℕ → Type 0
IsSentInRun count w i (Monitor j) bytes =
    (m : Message) × Contains w.messages (record { to = j; message = m }) × (m.from ≡ i) × IsPiece (text m) bytes
IsSentInRun count w i (Client c) bytes =
    (r : Replied) × Contains w.replied r × (r.rank ≡ i) × (r.session.client ≡ c) × IsPiece (text (answer_of count r)) bytes

-- Each process keeps the map that its monitor's store has in the run. A process that is up remembers what its monitor
-- remembers there. Each datagram that was sent is a message or a reply of the run, or a piece of one.
pub record IsOfRun (ms : Monitors) (net : Network) (w : World) : Type 0 where
  pub maps : (i : ℕ) → i < ms.count → map_of (net.process i) ≡ w.store i
  pub states : (i : ℕ) (s : Serving) → i < ms.count → net.process i ≡ Up s → w.state i ≡ Some s.node.state
  pub sent_in_run : AllByRecursion (λ (d : Posted). IsSentInRun ms.count w d.by d.datagram.to d.datagram.bytes) net.sent

-- A network does what some run of the model does, in which clients asked these requests, in this order. That run is
-- safe.
pub record DoesARun (ms : Monitors) (requests : List Asked) (net : Network) : Type 0 where
  pub events : List Event
  pub fit : AllFit ms.count events
  pub of_run : IsOfRun ms net (run ms events)
  pub asked : (run ms events).asked ≡ requests
  pub safe : Safe ms events
