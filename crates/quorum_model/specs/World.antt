-- All monitors of a map, what was sent among them, and what clients saw.
use Rattle.std.specs.Prelude.{ℕ, Bool, List, [], Option, None}
use Rattle.std.specs.FinMap.{empty}
use Rattle.mon_tx.specs.declared.op.Op.{Op}
use Rattle.mon_tx.specs.Map.{Store}
use Rattle.mon_msg.specs.Protocol.State.{State}
use Rattle.mon_wire.specs.declared.message.Message.{Message}
use Rattle.mon_wire.specs.declared.phase.Timer.{Timer}
use Rattle.mon_wire.specs.declared.reply.Reply.{Reply}
use Rattle.mon_wire.specs.declared.request.Request.{Request}
use Rattle.mon_wire.specs.declared.request.Service.{Service}
use Rattle.mon_wire.specs.declared.request.Session.{Session}

-- ---- what happens, and when

-- an input of a monitor
pub data Plain : Type 0 where
  -- it forgets all that its store doesn't keep, and starts
  Start : (rank : ℕ) → (at : ℕ) → Plain
  -- the message of that number, counted from 1, arrives at its receiver: at any time after it was sent, and any number of
  -- times
  Deliver : (message : ℕ) → (at : ℕ) → Plain
  -- that timer fires, whether or not its time has come
  Ring : (rank : ℕ) → (timer : Timer) → (at : ℕ) → Plain
  -- a client asks
  Client : (rank : ℕ) → (at : ℕ) → (session : Session) → (request : Request) → Plain

-- The monitor reacts to what comes; or it crashes before it sends anything, and what it writes is kept or lost.
pub data Event : Type 0 where
  Arrives : (plain : Plain) → Event
  Crash : (plain : Plain) → (kept : Bool) → Event

abbrev pub plain_of : Event → Plain
plain_of (Arrives p) = p
plain_of (Crash p kept) = p

-- ---- what there is

-- a message, and to whom it goes
pub record Envelope : Type 0 where
  pub to : ℕ
  pub message : Message

-- what a client asked of a monitor
pub record Asked : Type 0 where
  pub rank : ℕ
  pub session : Session
  pub request : Request

-- What is acknowledged: a version, under the leader's proposal number and in its epoch, with the service that it changes
-- and the incremental that it puts.
pub record Acknowledgement : Type 0 where
  pub version : ℕ
  pub pn : ℕ
  pub epoch : ℕ
  pub service : Service
  pub incremental : List ℕ

-- what was acknowledged by the event of this number
pub record Acknowledged : Type 0 where
  pub event : ℕ
  pub what : Acknowledgement

-- a reply, with the number of its event, its monitor, and that monitor's epoch and last version
pub record Replied : Type 0 where
  pub event : ℕ
  pub rank : ℕ
  pub epoch : ℕ
  pub last : ℕ
  pub session : Session
  pub reply : Reply

pub record World : Type 0 where
  -- of each monitor: what its store keeps, what it remembers unless it is down, and the transactions that were kept
  pub store : ℕ → Store
  pub state : ℕ → Option State
  pub transactions : ℕ → List (List Op)
  -- all messages that were ever sent, in order
  pub messages : List Envelope
  -- the one log, of which each entry is the bytes of a version
  pub log : List (List ℕ)
  pub asked : List Asked
  pub acknowledged : List Acknowledged
  pub replied : List Replied
  -- each epoch and rank of an active leader
  pub active : List (ℕ × ℕ)
  -- how many events there were
  pub events : ℕ

-- the world before the first event: all stores are empty, and all monitors are down
abbrev pub first_world : World
first_world = record {
  store = λ _. empty;
  state = λ _. None;
  transactions = λ _. [];
  messages = [];
  log = [];
  asked = [];
  acknowledged = [];
  replied = [];
  active = [];
  events = 0;
}
