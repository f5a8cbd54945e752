-- Processes over sockets: what arrives at a process went out of the socket of another one.
use Rattle.std.specs.Prelude.{◌≡◌, ◌⊎◌, ℕ, List, [], ◌∷◌, Option, Some, None, Result}
use Rattle.std.specs.List.{Contains}
use Rattle.mon_bytes.specs.Reading.{IsBytes}
use Rattle.mon_hello.specs.Formats.{a_hello}
use Rattle.mon_hello.specs.declared.own.Own.{Own}
use Rattle.mon_link.specs.Histories.{Happened, received, sent}
use Rattle.mon_link.specs.declared.link.Got.TheVariants.{Datagram, Idle, Closed}
use Rattle.mon_link.specs.declared.link.Got.{Got}
use Rattle.mon_link.specs.declared.link.Outgoing.{Outgoing}
use Rattle.mon_link.specs.declared.link.Peer.TheVariants.{Monitor, Client}
use Rattle.mon_msg.specs.Protocol.Timers.{due}
use Rattle.mon_name.specs.Frames.{unframed}
use Rattle.mon_node.specs.Hearing.{due_by}
use Rattle.mon_resend.specs.Copied.{IsOneOf}
use Rattle.mon_types.specs.declared.names.Stop.{Stop}
use Rattle.mon_wire.specs.declared.phase.Timer.{Timer}
use Rattle.quorum_model.specs.Monitors.{Monitors}
use Rattle.quorum_network.specs.Network.{Begins, Doing, Down, Iterates, May, Network, Process, Step, Up, network, posted, under}
use Rattle.stack_laws.specs.Stack.{Came, Stack}

-- A life of a monitor's process: what the monitor says of itself; the number of the life; what happened on the link that
-- its node calls; and what happened on its socket.
pub record Life : Type 0 where
  pub own : Own
  pub number : ℕ
  pub above : List Happened
  pub socket : List Happened

abbrev pub to_monitor : ℕ → List ℕ → Outgoing
to_monitor j bytes = record { to = Monitor j; bytes = bytes }

-- What comes over the socket of monitor i from the address of a monitor went out of a socket of that monitor, in any of
-- its lives; or it isn't framed with the tag. From a client any bytes may come.
abbrev pub IsFromSocket : (tag : ℕ) → (ℕ → List Life) → ℕ → Got → Type 0
IsFromSocket tag lives i (Datagram (Monitor j) bytes) =
    ((l : Life) × Contains (lives j) l × IsOneOf (sent l.socket) (to_monitor i bytes)) ⊎ (unframed tag bytes ≡ None)
IsFromSocket tag lives i (Datagram (Client c) bytes) = IsBytes bytes
IsFromSocket tag lives i Idle = Unit {0}
IsFromSocket tag lives i Closed = Unit {0}

-- The lives of each rank's processes: between a node and its socket are a monitor's links, of this tag. What the nodes
-- sent is what the network's steps sent.
pub record AreSockets (tag : ℕ) (net : Network) (lives : ℕ → List Life) : Type 0 where
  pub stacks : (i : ℕ) (l : Life) → Contains (lives i) l
      → Stack l.own.member l.own tag l.number l.above l.socket × (l.own.datagram ≡ a_hello.text l.own.hello)
  pub posts : (i : ℕ) (l : Life) (d : Outgoing) → Contains (lives i) l → IsOneOf (sent l.above) d
      → Contains net.sent (posted i (under l.number d))
  pub came : (i : ℕ) (l : Life) (got : Got) → Contains (lives i) l → Came l.socket got → IsFromSocket tag lives i got

-- ---- which steps there may be

-- The link is asked only if no timer is due. What it gives, it gave in a life over a socket.
abbrev pub IsAskedOver : (tag : ℕ) → Network → ℕ → Option Timer → Result Got Stop → Type 0
IsAskedOver tag net i (Some t) answer = Unit {0}
IsAskedOver tag net i None answer =
    (lives : ℕ → List Life) × AreSockets tag net lives
    × (l : Life) × Contains (lives i) l × IsOneOf (received l.above) answer

abbrev pub MayOver : (tag : ℕ) → Network → ℕ → Process → Doing → Type 0
MayOver tag net i p (Begins number store_view clock link first) =
    May net i p (Begins number store_view clock link first)
MayOver tag net i (Up s) (Iterates g) = IsAskedOver tag net i (due_by g.began (due s.node.state.timers)) g.answer
MayOver tag net i (Down m) (Iterates g) = Unit {0}

unfoldable pub AllMayOver : (tag : ℕ) → Monitors → List Step → Type 0
AllMayOver tag ms [] = Unit {0}
AllMayOver tag ms (s ∷ earlier) =
    AllMayOver tag ms earlier
    × MayOver tag (network ms earlier) s.rank ((network ms earlier).process s.rank) s.doing
