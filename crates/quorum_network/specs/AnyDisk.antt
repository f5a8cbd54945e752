-- Lives that begin on any store: on disks that were lost, that are old copies, or that are another monitor's.
use Rattle.std.specs.Prelude.{ℕ, List, [], ◌∷◌, ◌++◌, map, Option, Some, None, IfSome}
use Rattle.std.specs.List.{AllByRecursion, Contains}
use Rattle.mon_core.specs.Reacts.{SendsNamed}
use Rattle.mon_frag.specs.Keeping.{taken}
use Rattle.mon_frag.specs.Whole.{FromPeer, answer_in, answered}
use Rattle.mon_link.specs.declared.link.Outgoing.{Outgoing}
use Rattle.mon_link.specs.declared.link.Peer.TheVariants.{Monitor, Client}
use Rattle.mon_msg.specs.Protocol.Reaction.{Reaction}
use Rattle.mon_msg.specs.Protocol.Timers.{due}
use Rattle.mon_msg.specs.declared.view.Me.{Me}
use Rattle.mon_node.specs.Hearing.{due_by}
use Rattle.mon_node.specs.Nodes.{Node}
use Rattle.mon_node.specs.Posting.{letters}
use Rattle.mon_node.specs.Iterations.{Iteration, map_after}
use Rattle.quorum_model.specs.Monitors.{Monitors, me_of}
use Rattle.quorum_network.specs.Network.{Network, Process, Up, Down, Doing, Begins, Iterates, Until, Step, CameFrom, IsAsked, IsNew, network, iteration_of}
use Rattle.quorum_network.specs.Promises.{IsJoined, Numbers, ReachesClient}
use Rattle.quorum_network.specs.Requests.{kept_by}

-- ---- the whole messages that were sent

-- a whole message, and the monitor that sent it
pub record Mailed : Type 0 where
  pub by : ℕ
  pub whole : Outgoing

abbrev pub mail : ℕ → Outgoing → Mailed
mail i o = record { by = i; whole = o }

abbrev pub mailed_by : ℕ → Me → Node → Option Reaction → List Mailed
mailed_by i me n (Some r) = map (mail i) (letters me (map_after n r) r.sends)
mailed_by i me n None = []

abbrev pub mailed_in_iteration : ℕ → Me → Until → Option Iteration → List Mailed
mailed_in_iteration i me u (Some t) = mailed_by i me t.serving.node (kept_by me t u)
mailed_in_iteration i me u None = []

abbrev pub mailed_at : Network → Step → Option Me → List Mailed
mailed_at net s (Some me) = mailed_in_iteration s.rank me s.up_to (iteration_of me (net.process s.rank) s.doing)
mailed_at net s None = []

-- The messages of all reactions whose transactions were kept, whether or not all of their datagrams were sent.
unfoldable pub mailed : Monitors → List Step → List Mailed
mailed ms [] = []
mailed ms (s ∷ earlier) = mailed ms earlier ++ mailed_at (network ms earlier) s (me_of ms s.rank)

-- ---- which steps there may be

-- A process begins on any store, with a number that its rank didn't have before.
abbrev pub MayAnyhow : Network → ℕ → Process → Doing → Type 0
MayAnyhow net i p (Begins number store_view clock link first) = IsNew net i number
MayAnyhow net i (Up s) (Iterates g) = IsAsked net i (due_by g.began (due s.node.state.timers)) g.answer
MayAnyhow net i (Down m) (Iterates g) = Unit {0}

-- If a reaction's transaction is kept, each store entry in its messages has a valid prefix and a valid key.
-- `Core::react` ensures this of each reaction, on any store that its types can hold.
abbrev pub AreNamed : Me → Until → Option Iteration → Type 0
AreNamed me u (Some t) = IfSome (kept_by me t u) (λ r. AllByRecursion SendsNamed r.sends)
AreNamed me u None = Unit {0}

abbrev pub NamesAt : Network → Step → Option Me → Type 0
NamesAt net s (Some me) = AreNamed me s.up_to (iteration_of me (net.process s.rank) s.doing)
NamesAt net s None = Unit {0}

unfoldable pub AllMayAnyhow : Monitors → List Step → Type 0
AllMayAnyhow ms [] = Unit {0}
AllMayAnyhow ms (s ∷ earlier) =
    AllMayAnyhow ms earlier × MayAnyhow (network ms earlier) s.rank ((network ms earlier).process s.rank) s.doing
    × NamesAt (network ms earlier) s (me_of ms s.rank)

-- ---- what is joined

abbrev pub IsMail : List Mailed → (j i : ℕ) → Option (List ℕ) → Type 0
IsMail mails j i None = Unit {0}
IsMail mails j i (Some bytes) = Contains mails (record { by = j; whole = record { to = Monitor i; bytes = bytes } })

-- What a process that is up joins with any datagram of a monitor is nothing yet, or a whole message of that monitor to it.
abbrev pub JoinsWhole : Network → List Mailed → ℕ → Process → Type 0
JoinsWhole net mails i (Up s) =
    (j : ℕ) (bytes : List ℕ) → CameFrom net i (Monitor j) bytes
    → IsMail mails j i (answer_in (taken s.outside.parts (Monitor j) bytes))
JoinsWhole net mails i (Down m) = Unit {0}

-- bytes are a whole message of monitor j to client c
abbrev pub IsMailTo : List Mailed → (j c : ℕ) → List ℕ → Type 0
IsMailTo mails j c bytes = Contains mails (record { by = j; whole = record { to = Client c; bytes = bytes } })

-- A client joins monitors' datagrams only to whole messages that they sent to it, whichever datagrams come and in
-- whatever order.
abbrev pub ClientsJoinWhole : Network → List Mailed → Type 0
ClientsJoinWhole net mails =
    (numbers : Numbers) (came : List FromPeer)
    → AllByRecursion (λ (d : FromPeer). ReachesClient net.sent numbers d.from d.bytes) came
    → AllByRecursion (λ (d : FromPeer). IsJoined (IsMailTo mails) numbers d.from d.bytes) (answered [] came)
