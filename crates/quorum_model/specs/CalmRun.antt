-- Calm runs: one leader, whose quorum has all monitors, and nothing under way.
use Rattle.std.specs.Prelude.{◌≡◌, ℕ, zero, suc, ◌+◌, ◌<◌, ◌≤◌, nat_lt, Bool, true, false, List, [], ◌∷◌, ◌++◌, length, map, filter, slice_index_or, Some, None, Result, Ok, Err}
use Rattle.std.specs.List.{flat_map, range_with_len}
use Rattle.mon_bytes.specs.declared.command.CommandRefused.{CommandRefused}
use Rattle.mon_lease.specs.Lease.{stands}
use Rattle.mon_types.specs.Ranks.{has}
use Rattle.mon_tx.specs.declared.op.Op.{Op}
use Rattle.mon_tx.specs.Map.{Store}
use Rattle.mon_tx.specs.Keys.{shared}
use Rattle.mon_tx.specs.Text.{text}
use Rattle.mon_kv.specs.Readers.{pending}
use Rattle.mon_msg.specs.Fold.{fold, map_of_log, version_of_log}
use Rattle.mon_msg.specs.Protocol.Proposing.{refusal}
use Rattle.mon_msg.specs.Protocol.State.{State}
use Rattle.mon_msg.specs.Protocol.Value.{value}
use Rattle.mon_msg.specs.Protocol.Readings.{readings_of, epoch_of, promise_of}
use Rattle.mon_wire.specs.declared.phase.Phase.TheVariants as phase
use Rattle.mon_wire.specs.declared.reply.Reply.{Reply}
use Rattle.mon_wire.specs.declared.reply.Reply.TheVariants as reply
use Rattle.mon_wire.specs.declared.request.Service.{Service}
use Rattle.mon_wire.specs.declared.request.Service.TheVariants as service
use Rattle.mon_wire.specs.declared.request.Session.{Session}
use Rattle.quorum_model.specs.CalmSchedule.{Order, session, numbers_delivered, orders, calm_schedule}
use Rattle.quorum_model.specs.Growth.{last_of}
use Rattle.log_model.specs.LogOfValues.{view_at}
use Rattle.quorum_model.specs.Monitors.{Monitors, classic}
use Rattle.quorum_model.specs.Runs.{ran, run}
use Rattle.quorum_model.specs.World.{World, Event}

-- ---- the log of commands that come one after the other

-- the value of a command over the versions of a log, unless the command is refused
abbrev pub value_over : List (List ℕ) → Order → Result (List Op) CommandRefused
value_over log c = value (view_at log (length log)) c.1 c.0

abbrev pub with_value : List (List ℕ) → Result (List Op) CommandRefused → List (List ℕ)
with_value log (Ok ops) = log ++ text ops ∷ []
with_value log (Err e) = log

-- the log after commands: the values of those that aren't refused, in order
unfoldable pub log_of : List (List ℕ) → List Order → List (List ℕ)
log_of log [] = log
log_of log (c ∷ cs) = log_of (with_value log (value_over log c)) cs

-- ---- what a monitor remembers and keeps

-- these are all n ranks
abbrev pub AreAll : ℕ → List Bool → Type 0
AreAll n q = (k : ℕ) → has q k ≡ nat_lt k n

pub record LeadsCalmly (n : ℕ) (s : State) : Type 0 where
  pub active : s.phase ≡ phase.Active
  pub quorum : AreAll n s.leader.quorum
  pub pn : s.leader.pn ≡ 100
  pub lease : stands s.leader.lease 0 ≡ true
  pub acks : s.leader.acks ≡ s.leader.quorum
  pub queue : s.clients.queue ≡ []

pub record FollowsCalmly (n : ℕ) (s : State) : Type 0 where
  pub peon : s.phase ≡ phase.Peon
  pub leader : s.peon.leader ≡ 0
  pub quorum : AreAll n s.peon.quorum
  pub lease : stands s.peon.lease 0 ≡ true

-- monitor 0 leads the others
abbrev pub ServesCalmly : (n i : ℕ) → State → Type 0
ServesCalmly n zero s = LeadsCalmly n s
ServesCalmly n (suc i) s = FollowsCalmly n s

-- A store has all of the log and no pending value. Its epoch and its promise are those that the first election and the
-- first proposal number leave.
pub record HasAll (log : List (List ℕ)) (m : Store) : Type 0 where
  pub epoch : epoch_of (readings_of m) ≡ 2
  pub promise : promise_of (readings_of m) ≡ 100
  pub settled : pending m ≡ None
  pub last : last_of m ≡ length log
  pub folded : shared m ≡ fold log (length log)

-- Monitor i is up and calm, and the leader has taken every command that it handed on.
pub record IsCalmAt (n : ℕ) (w : World) (leader : State) (i : ℕ) : Type 0 where
  pub state : State
  pub up : w.state i ≡ Some state
  pub serves : ServesCalmly n i state
  pub has : HasAll w.log (w.store i)
  pub sessions : state.clients.sessions ≡ []
  pub seqs : 0 < i → slice_index_or leader.clients.taken i 0 + 1 ≡ state.clients.next_seq

-- ---- what is replied

abbrev pub is_done : Reply → Bool
is_done (reply.Done v) = true
is_done other = false

-- which monitor replied, in which session, and what
abbrev pub Answer : Type 0
Answer = ℕ × Session × Reply

abbrev pub answers : World → List Answer
answers w = map (λ r. (r.rank, r.session, r.reply)) w.replied

-- the result of a command after a log: the version that it makes, or why there is none
abbrev pub reply_over : List (List ℕ) → Result (List Op) CommandRefused → Reply
reply_over log (Ok ops) = reply.Done (suc (length log))
reply_over log (Err e) = refusal e

-- The answers to these commands, in order. The first of them is asked in the j-th session.
unfoldable pub answers_of : (j : ℕ) → List (List ℕ) → List Order → List Answer
answers_of j log [] = []
answers_of j log (c ∷ cs) =
    (c.0, session j, reply_over log (value_over log c)) ∷ answers_of (suc j) (with_value log (value_over log c)) cs

-- a service's map is shown once the log has a version
abbrev pub shown_of : List (List ℕ) → Service → Reply
shown_of [] s = reply.NotReadable 0 true
shown_of log s = reply.Shown s (length log) (version_of_log s log (length log)) (map_of_log s log (length log))

-- both maps of each monitor
abbrev pub answers_shown : (j n : ℕ) → List (List ℕ) → List Answer
answers_shown j n log =
    flat_map (λ i. (i, session j, shown_of log service.Kv) ∷ (i, session j, shown_of log service.Log) ∷ []) (range_with_len 0 n)

-- ---- the whole

-- The run of these events, in which these commands came one after the other, is calm. Each message was delivered once, in
-- order.
pub record IsCalm (ms : Monitors) (cs : List Order) (events : List Event) : Type 0 where
  pub goes_on : (ran ms events).stop ≡ None
  pub once : numbers_delivered events ≡ range_with_len 1 (length (run ms events).messages)
  pub leader : State
  pub leads : (run ms events).state 0 ≡ Some leader
  pub each : (i : ℕ) → i < ms.count → IsCalmAt ms.count (run ms events) leader i
  pub log : (run ms events).log ≡ log_of [] cs
  pub done : length (filter (λ r. is_done r.reply) (run ms events).replied) ≡ length (run ms events).log
  pub answered : answers (run ms events) ≡ answers_of 1 [] cs

-- the calm schedule of n monitors reaches its end, is calm before the maps are shown, and shows those of the log
pub record EndsCalmly (n : ℕ) (most : n ≤ 15) (cs : List Order) : Type 0 where
  pub goes_on : (ran (classic n most) (calm_schedule n most cs)).stop ≡ None
  pub calm : IsCalm (classic n most) cs (orders (classic n most) cs)
  pub shown : answers (run (classic n most) (calm_schedule n most cs))
      ≡ answers_of 1 [] cs ++ answers_shown (suc (length cs)) n (log_of [] cs)
