-- The processes of a map's monitors, and the datagrams that they send.
use Rattle.std.specs.Prelude.{◌≡◌, ℕ, ◌^◌, ◌≤◌, List, [], ◌∷◌, ◌++◌, map, take, Option, Some, None, Result, Ok, Err}
use Rattle.std.specs.FinMap.{empty}
use Rattle.std.specs.List.{Contains}
use Rattle.mon_bytes.specs.Reading.{IsBytes}
use Rattle.mon_link.specs.Clocks.{Readings}
use Rattle.mon_link.specs.Links.{Observed}
use Rattle.mon_link.specs.declared.link.Got.{Got}
use Rattle.mon_link.specs.declared.link.Got.TheVariants.{Datagram, Idle, Closed}
use Rattle.mon_link.specs.declared.link.Outgoing.{Outgoing}
use Rattle.mon_link.specs.declared.link.Peer.{Peer}
use Rattle.mon_link.specs.declared.link.Peer.TheVariants.{Monitor, Client}
use Rattle.mon_msg.specs.Protocol.Reaction.{Reaction}
use Rattle.mon_msg.specs.Protocol.State.{State}
use Rattle.mon_msg.specs.Protocol.Timers.{due}
use Rattle.mon_msg.specs.declared.view.Me.{Me}
use Rattle.mon_node.specs.Hearing.{Given, due_by}
use Rattle.mon_node.specs.Nodes.{Node, Serving, unstarted}
use Rattle.mon_node.specs.Serving.{of_kept, sends_of}
use Rattle.mon_node.specs.Iterations.{Iteration, map_after, numbered_by, start, iteration, ended_iteration}
use Rattle.mon_node.specs.declared.end.NodeEnd.{NodeEnd}
use Rattle.mon_name.specs.Numbers.{renumbered}
use Rattle.mon_store.specs.StoreView.{StoreView}
use Rattle.mon_tx.specs.Map.{Store}
use Rattle.mon_types.specs.declared.names.Stop.{Stop}
use Rattle.mon_wire.specs.declared.phase.Timer.{Timer}
use Rattle.quorum_model.specs.Happens.{put_at}
use Rattle.quorum_model.specs.Monitors.{Monitors, me_of}

-- ---- what there is

-- The process of a monitor is up and serves. Or it is down: it has ended, was killed or was never begun, and its disks
-- keep a map.
pub data Process : Type 0 where
  Up : (serving : Serving) → Process
  Down : (map : Store) → Process

-- a datagram that the monitor of a rank sent
pub record Posted : Type 0 where
  pub by : ℕ
  pub datagram : Outgoing

-- The process of each rank; the numbers of each rank's lives, the newest first; and all datagrams that were ever sent,
-- in order. Each is listed as a link that names the quorum hands it on at its receiver: without the frame, and with the
-- number of its sender's life.
pub record Network : Type 0 where
  pub process : ℕ → Process
  pub lives : ℕ → List ℕ
  pub sent : List Posted

-- all maps are empty, and no process was begun
abbrev pub first_network : Network
first_network = record { process = λ _. Down empty; lives = λ _. []; sent = [] }

abbrev pub map_of : Process → Store
map_of (Up s) = s.node.store.kv
map_of (Down m) = m

-- what a process remembers, unless it is down
abbrev pub state_of : Process → Option State
state_of (Up s) = Some s.node.state
state_of (Down m) = None

-- ---- what happens

-- A process is started: a life of its rank begins, with a number. It has a store, a clock and a link, and begins at a
-- reading of the clock. A process of its rank that is still up ends then. Or a process makes an iteration.
pub data Doing : Type 0 where
  Begins : (number : ℕ) → (store_view : StoreView) → (clock : Option Readings) → (link : Option Observed)
      → (first : ℕ) → Doing
  Iterates : (given : Given) → Doing

-- How far the start or the iteration gets. It is completed. Or the process ends or is killed in it: before the
-- transaction is kept, or after that, when some of its datagrams were sent.
pub data Until : Type 0 where
  Whole : Until
  Lost : Until
  Kept : (sent : ℕ) → Until

pub record Step : Type 0 where
  pub rank : ℕ
  pub doing : Doing
  pub up_to : Until

-- ---- what a step makes of the network

-- the iteration that a process makes when it starts, or with what it is given; a process that is down makes none
abbrev pub iteration_of : Me → Process → Doing → Option Iteration
iteration_of me p (Begins number store_view clock link first) =
    Some (start first (unstarted me.member.rank store_view clock link))
iteration_of me (Up s) (Iterates g) = Some (iteration me g s)
iteration_of me (Down m) (Iterates g) = None

-- the process after a start or an iteration, and what was sent in it
pub record StepOutcome : Type 0 where
  pub process : Process
  pub sends : List Outgoing

-- the reaction to an iteration's input, if its transaction can be kept
abbrev pub kept_reaction : Me → Iteration → Option Reaction
kept_reaction me t = of_kept me t None (λ r. Some r)

-- The process is down, after its reaction was kept and this many of the datagrams were sent. Without a reaction,
-- nothing was.
abbrev pub down : Me → Node → (sent : ℕ) → Option Reaction → StepOutcome
down me n k None = record { process = Down n.store.kv; sends = [] }
down me n k (Some r) = record { process = Down (map_after n r); sends = take k (numbered_by me n r) }

-- An iteration that ends the node counts here as one that sent nothing. If it sent datagrams before the end, its step
-- is `Kept` and not `Whole`.
abbrev pub at_end : Me → Iteration → Result Serving NodeEnd → StepOutcome
at_end me t (Ok s) = record { process = Up s; sends = sends_of me t }
at_end me t (Err e) = down me t.serving.node 0 (kept_reaction me t)

abbrev pub outcome_of : Me → Iteration → Until → StepOutcome
outcome_of me t Whole = at_end me t (ended_iteration me t)
outcome_of me t Lost = record { process = Down t.serving.node.store.kv; sends = [] }
outcome_of me t (Kept k) = down me t.serving.node k (kept_reaction me t)

-- the number of a rank's newest life
abbrev pub newest : List ℕ → ℕ
newest [] = 0
newest (number ∷ older) = number

abbrev pub number_of : (ℕ → List ℕ) → ℕ → ℕ
number_of lives i = newest (lives i)

-- a datagram that is sent in the life with this number
abbrev pub under : (number : ℕ) → Outgoing → Outgoing
under number d = record { to = d.to; bytes = renumbered number d.bytes }

abbrev pub posted : ℕ → Outgoing → Posted
posted i d = record { by = i; datagram = d }

abbrev pub with_outcome : Network → ℕ → StepOutcome → Network
with_outcome net i l = record {
  process = put_at net.process i l.process;
  lives = net.lives;
  sent = net.sent ++ map (posted i) (map (under (number_of net.lives i)) l.sends);
}

-- a start is a new life of its rank
abbrev pub lives_after : (ℕ → List ℕ) → ℕ → Doing → ℕ → List ℕ
lives_after lives i (Begins number store_view clock link first) = put_at lives i (number ∷ lives i)
lives_after lives i (Iterates g) = lives

abbrev pub entered : Network → ℕ → Doing → Network
entered net i doing = record { process = net.process; lives = lives_after net.lives i doing; sent = net.sent }

abbrev pub if_made : Me → Network → Step → Option Iteration → Network
if_made me net s None = net
if_made me net s (Some t) = with_outcome (entered net s.rank s.doing) s.rank (outcome_of me t s.up_to)

abbrev pub made_by : Network → Step → Option Me → Network
made_by net s None = net
made_by net s (Some me) = if_made me net s (iteration_of me (net.process s.rank) s.doing)

abbrev pub after_step : Monitors → Network → Step → Network
after_step ms net s = made_by net s (me_of ms s.rank)

-- the network after these steps, which are listed with the newest first
unfoldable pub network : Monitors → List Step → Network
network ms [] = first_network
network ms (s ∷ earlier) = after_step ms (network ms earlier) s

-- ---- which steps there may be

-- What comes from a monitor was sent by it to this one, at any time before. What comes from a client are any bytes.
abbrev pub CameFrom : Network → ℕ → Peer → List ℕ → Type 0
CameFrom net i (Monitor j) bytes =
    Contains net.sent (record { by = j; datagram = record { to = Monitor i; bytes = bytes } })
CameFrom net i (Client c) bytes = IsBytes bytes

abbrev pub IsAnswer : Network → ℕ → Result Got Stop → Type 0
IsAnswer net i (Ok (Datagram from bytes)) = CameFrom net i from bytes
IsAnswer net i (Ok Idle) = Unit {0}
IsAnswer net i (Ok Closed) = Unit {0}
IsAnswer net i (Err e) = Unit {0}

-- the link is asked only if no timer is due
abbrev pub IsAsked : Network → ℕ → Option Timer → Result Got Stop → Type 0
IsAsked net i (Some t) answer = Unit {0}
IsAsked net i None answer = IsAnswer net i answer

-- a number that no life of this rank had before
abbrev pub IsNew : Network → ℕ → (number : ℕ) → Type 0
IsNew net i number = (number ≤ 2 ^ 62) × ¬ Contains (net.lives i) number

-- A process begins on the map that its disks keep, with a new number. An iteration of one that is up is given what came
-- to it.
abbrev pub May : Network → ℕ → Process → Doing → Type 0
May net i p (Begins number store_view clock link first) = (store_view.kv ≡ map_of p) × IsNew net i number
May net i (Up s) (Iterates g) = IsAsked net i (due_by g.began (due s.node.state.timers)) g.answer
May net i (Down m) (Iterates g) = Unit {0}

unfoldable pub AllMay : Monitors → List Step → Type 0
AllMay ms [] = Unit {0}
AllMay ms (s ∷ earlier) =
    AllMay ms earlier × May (network ms earlier) s.rank ((network ms earlier).process s.rank) s.doing

-- if later steps may follow earlier ones, the earlier ones may be made
unfoldable pub may_before : (ms : Monitors) (later earlier : List Step) → AllMay ms (later ++ earlier)
    → AllMay ms earlier
unfolding AllMay
may_before ms [] earlier may = may
may_before ms (s ∷ later) earlier may = may_before ms later earlier may.0
