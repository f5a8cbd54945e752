-- What a monitor may remember, so that nothing that it writes or sends is ever too long.
use Rattle.std.specs.List.{AllByRecursion}
use Rattle.std.specs.Prelude.{◌≡◌, ℕ, ◌^◌, ◌≤◌, ◌<◌, Bool, true, IfSome, List, length}
use Rattle.election_rules.specs.Form.{IsTable}
use Rattle.log_model.specs.LogOfValues.{IsCommand}
use Rattle.mon_msg.specs.Protocol.Commands.{most_text, text_length}
use Rattle.mon_msg.specs.Protocol.Phases.{phase_of, is_leading}
use Rattle.mon_msg.specs.Protocol.Records.{most_value}
use Rattle.mon_msg.specs.Protocol.State.{State}
use Rattle.mon_msg.specs.declared.clients.Clients.{Clients}
use Rattle.mon_msg.specs.declared.clients.Waiting.{Waiting}
use Rattle.mon_msg.specs.declared.election.Elector.{Elector}
use Rattle.mon_msg.specs.declared.paxos.Leader.{Leader}
use Rattle.mon_msg.specs.declared.paxos.Peon.{Peon}
use Rattle.mon_msg.specs.declared.plan.Origin.TheVariants as origin
use Rattle.mon_msg.specs.declared.plan.Origin.{Origin}
use Rattle.mon_msg.specs.declared.synchronization.Requester.{Requester}
use Rattle.mon_msg.specs.declared.synchronization.SyncStage.TheVariants as sync
use Rattle.mon_msg.specs.declared.synchronization.SyncStage.{SyncStage}
use Rattle.mon_msg.specs.declared.view.Me.{Me}
use Rattle.mon_tx.specs.Decode.{HasText}
use Rattle.mon_tx.specs.Text.{text}
use Rattle.mon_tx.specs.declared.op.Op.{Op}
use Rattle.mon_wire.specs.Message.Fields.{set}
use Rattle.mon_wire.specs.declared.phase.Phase.TheVariants as phase
use Rattle.mon_wire.specs.declared.phase.Phase.{Phase}

-- a value that may be proposed: it has a text, and the text isn't too long
pub record MayPropose (value : List Op) : Type 0 where
  pub form : HasText value
  pub short : length (text value) ≤ most_value

-- a number that a message can carry and a store can hold
abbrev pub IsNumber : ℕ → Type 0
IsNumber n = n ≤ 2 ^ 62

-- a set of ranks below n
abbrev pub IsSet : ℕ → List Bool → Type 0
IsSet n s = (set n).Form s

-- who waits for an answer: a client, or a peon among n monitors, each with a valid number of its request
abbrev pub IsOrigin : ℕ → Origin → Type 0
IsOrigin n (origin.Session session) = IsNumber session.id
IsOrigin n (origin.Forwarded rank seq) = (rank < n) × IsNumber seq

-- a command that isn't too long, and who waits for it
pub record IsWaiting (n : ℕ) (w : Waiting) : Type 0 where
  pub form : IsCommand w.command
  pub short : text_length w.command ≤ most_text w.command
  pub origin : IsOrigin n w.origin

-- a replay's end is a valid number of a version
abbrev pub EndsWithin : SyncStage → Type 0
EndsWithin sync.Cookie = Unit {0}
EndsWithin sync.Chunks = Unit {0}
EndsWithin (sync.Replay next end) = IsNumber end

-- ---- what each role remembers among n monitors, where r is the own rank

pub record IsElector (n r : ℕ) (elector : Elector) : Type 0 where
  pub acked : IsSet n elector.acked
  pub scores : IsTable n r elector.scores

pub record IsLeader (n : ℕ) (leader : Leader) : Type 0 where
  pub quorum : IsSet n leader.quorum
  pub pn : IsNumber leader.pn
  pub found : IfSome leader.found (λ found. MayPropose found.value)
  pub value : IfSome leader.value MayPropose
  pub origin : IfSome leader.origin (IsOrigin n)

pub record IsPeon (n : ℕ) (peon : Peon) : Type 0 where
  pub leader : peon.leader < n
  pub quorum : IsSet n peon.quorum

pub record AreClients (n : ℕ) (clients : Clients) : Type 0 where
  pub queue : AllByRecursion (IsWaiting n) clients.queue
  pub sessions : AllByRecursion (λ a. IsNumber a.session.id) clients.sessions

pub record IsRequester (n : ℕ) (requester : Requester) : Type 0 where
  pub provider : requester.provider < n
  pub stage : EndsWithin requester.stage

-- ---- and all of them

-- a leader's stage is its phase, and a monitor that is alone never synchronizes
pub record IsPlaced (n : ℕ) (at : Phase) (leader : Leader) : Type 0 where
  pub leads : is_leading at ≡ true → phase_of leader.stage ≡ at
  pub copies : at ≡ phase.Synchronizing → 1 < n

pub record MayRemember (me : Me) (s : State) : Type 0 where
  pub placed : IsPlaced me.member.monitors s.phase s.leader
  pub elector : IsElector me.member.monitors me.member.rank s.elector
  pub leader : IsLeader me.member.monitors s.leader
  pub peon : IsPeon me.member.monitors s.peon
  pub clients : AreClients me.member.monitors s.clients
  pub requester : IsRequester me.member.monitors s.requester
