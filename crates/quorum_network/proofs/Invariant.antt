-- What holds of a network and of the world of its run.
use Rattle.law_names.proofs.Runs.{Acknowledgement, Asked, Envelope, Event, Monitors, PlainFits, Replied, World, happens, me_of, plain_of}
use Rattle.law_names.proofs.Table.{AllByRecursion, Contains, HasText, Me, Message, State, Store}
use Rattle.mon_wire.specs.Message.Whole.{text}
use Rattle.quorum_network.proofs.Acts.{Act, DoesSo}
use Rattle.quorum_network.proofs.Adding.{Adds}
use Rattle.quorum_network.proofs.Assembling.{Assembly}
use Rattle.quorum_network.proofs.Letters.{AreLetters, IsLong, IsPosted, Letter}
use Rattle.quorum_network.proofs.Names.{Client, Down, Leadership, MayRemember, Monitor, Network, Peer, Posted, Process, Serving, Up, answer_of, map_of, newest, number_of}
use Rattle.std.proofs.Common.{List, None, Ok, Option, Some, [], ℕ, ◌++◌, ◌+◌, ◌<◌, ◌^◌, ◌≡◌, ◌≤◌}

-- bytes that monitor i sent: the text of one of these messages, or of one of these replies of its
abbrev pub Says : (count i : ℕ) → List Envelope → List Replied → Peer → List ℕ → Type 0
Says count i es rs (Monitor j) bytes =
    (m : Message) × Contains es (record { to = j; message = m }) × HasText m × (m.from ≡ i) × (bytes ≡ text m)
Says count i es rs (Client c) bytes =
    (r : Replied) × Contains rs r × HasText (answer_of count r) × (r.rank ≡ i) × (r.session.client ≡ c) × (bytes ≡ text (answer_of count r))

-- a letter that goes to this peer is a message or a reply of the world
abbrev pub IsSaid : (count : ℕ) → World → Letter → Peer → Type 0
IsSaid count w l to = Says count l.by w.messages w.replied to l.bytes

-- a process that is up has a life, whose number is among these
abbrev pub IsAlive : List ℕ → Process → Type 0
IsAlive lives (Up s) = Contains lives (newest lives)
IsAlive lives (Down m) = Unit {0}

module _ (A : Assembly) (ms : Monitors) where
  -- a process that is up
  pub record IsUp (ls : List Letter) (life i : ℕ) (st : Option State) (s : Serving) : Type 0 where
    pub state : st ≡ Some s.node.state
    pub parts : A.Keeps ls i s.outside.parts
    pub next : (l : Letter) → Contains ls l → IsLong l → l.by ≡ i → l.boot ≡ life → l.seq < s.node.next
    pub most : s.node.next ≤ 2 ^ 62 + 1
    pub remembers : (me : Me) → me_of ms i ≡ Some me → MayRemember me s.node.state

  abbrev pub IfUp : List Letter → (life i : ℕ) → Option State → Process → Type 0
  IfUp ls life i st (Up s) = IsUp ls life i st s
  IfUp ls life i st (Down m) = Unit {0}

  pub record Mine (ls : List Letter) (life i : ℕ) (p : Process) (m : Store) (st : Option State) : Type 0 where
    pub map : map_of p ≡ m
    pub up : IfUp ls life i st p

  pub record Inv (net : Network) (w : World) : Type 0 where
    pub ls : List Letter
    pub mine : (j : ℕ) → j < ms.count → Mine ls (number_of net.lives j) j (net.process j) (w.store j) (w.state j)
    pub posted : AllByRecursion (IsPosted ls) net.sent
    pub letters : AreLetters ls
    pub said : (l : Letter) → Contains ls l → IsSaid ms.count w l l.to
    -- the number of the life in which a letter was sent is one of its sender's
    pub known : (l : Letter) → Contains ls l → Contains (net.lives l.by) l.boot
    pub alive : (j : ℕ) → j < ms.count → IsAlive (net.lives j) (net.process j)
    pub numbers : (j : ℕ) → number_of net.lives j ≤ 2 ^ 62

  -- The run has one further event, which adds these requests, acknowledgements and leaders. The network has further
  -- datagrams after these.
  pub record Moves (asks : List Asked) (acks : List Acknowledgement) (leads : List Leadership) (act : Option Act) (before : List Posted) (ls : List Letter) (net : Network) (w : World) : Type 0 where
    pub event : Event
    pub world : World
    pub fits : PlainFits ms.count (plain_of event)
    pub next : happens ms w event ≡ Ok world
    pub did : DoesSo ms w world act
    pub sent : List Posted
    pub wire : net.sent ≡ before ++ sent
    pub adds : Adds ms.count asks acks leads sent w world
    pub inv : Inv net world
    pub old : (l : Letter) → Contains ls l → Contains inv.ls l
    pub new : (l : Letter) → Contains adds.letters l → Contains inv.ls l

  -- The invariant holds after a step of the network, with no further event of the run or with one.
  pub data Next (asks : List Asked) (acks : List Acknowledgement) (leads : List Leadership) (act : Option Act) (before : List Posted) (ls : List Letter) (net : Network) (w : World) : Type 0 where
    Still : net.sent ≡ before → asks ≡ [] → acks ≡ [] → leads ≡ [] → act ≡ None → (I : Inv net w) → I.ls ≡ ls → Next asks acks leads act before ls net w
    Moved : Moves asks acks leads act before ls net w → Next asks acks leads act before ls net w
