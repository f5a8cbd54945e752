-- When a run rests after commands that came one after the other. Such a run is calm. The definition also says what each
-- monitor remembers and keeps, as the proof about the next command needs it.
use Rattle.std.specs.Prelude.{◌≡◌, ℕ, zero, suc, ◌+◌, ◌<◌, ◌≤◌, Bool, true, false, List, [], length, slice_index_or, Option, Some, None}
use Rattle.std.specs.List.{range_with_len}
use Rattle.log_copies.specs.Versions.{HasVersions}
use Rattle.log_model.specs.LogOfValues.{AllValues}
use Rattle.mon_lease.specs.Lease.{stands}
use Rattle.mon_msg.specs.Protocol.Readings.{readings_of}
use Rattle.mon_msg.specs.Protocol.State.{State}
use Rattle.mon_msg.specs.declared.clients.Asked.{Asked}
use Rattle.mon_tx.specs.Map.{Store}
use Rattle.mon_types.specs.Ranks.{no_ranks, with_rank}
use Rattle.mon_wire.specs.declared.phase.Phase.TheVariants as phase
use Rattle.quorum_model.specs.CalmRun.{answers, answers_of, log_of}
use Rattle.quorum_model.specs.CalmSchedule.{Order, numbers_delivered}
use Rattle.quorum_model.specs.Monitors.{Monitors}
use Rattle.quorum_model.specs.Runs.{ran, run}
use Rattle.quorum_model.specs.World.{Event}
use Rattle.calm_sizes.specs.Sizes.{AllShort, longest}

-- the set of the first n ranks
unfoldable pub firsts : (n : ℕ) → List Bool
firsts zero = no_ranks
firsts (suc k) = with_rank (firsts k) k

-- ---- what a monitor remembers

-- an active leader of all n, whose lease `acks` acknowledged, and which took the commands up to these numbers
pub record Leads (n : ℕ) (acks : List Bool) (taken : List ℕ) (s : State) : Type 0 where
  pub phase : s.phase ≡ phase.Active
  pub quorum : s.leader.quorum ≡ firsts n
  pub pn : s.leader.pn ≡ 100
  pub acked : s.leader.acks ≡ acks
  pub lease : stands s.leader.lease 0 ≡ true
  pub queue : s.clients.queue ≡ []
  pub sessions : s.clients.sessions ≡ []
  pub took : s.clients.taken ≡ taken

-- a peon of monitor 0, at which these sessions wait, and which forwards the next command under the number `seq`
pub record Follows (n : ℕ) (leased : Bool) (sessions : List Asked) (seq : ℕ) (s : State) : Type 0 where
  pub phase : s.phase ≡ phase.Peon
  pub leader : s.peon.leader ≡ 0
  pub quorum : s.peon.quorum ≡ firsts n
  pub lease : stands s.peon.lease 0 ≡ leased
  pub waits : s.clients.sessions ≡ sessions
  pub next : s.clients.next_seq ≡ seq

-- monitor 0 leads, all others acknowledged its lease, and nobody waits
abbrev pub Remembers : (n : ℕ) (taken : List ℕ) (seq : ℕ → ℕ) (i : ℕ) → State → Type 0
Remembers n taken seq zero s = Leads n (firsts n) taken s
Remembers n taken seq (suc i) s = Follows n true [] (seq (suc i)) s

-- ---- what it keeps

-- A store with the first v versions of the log, in epoch 2. It has accepted no value for a version above p, and none of
-- its values is longer than a transaction may be.
pub record Stored (log : List (List ℕ)) (v p : ℕ) (m : Store) : Type 0 where
  pub versions : HasVersions log v m
  pub epoch : (readings_of m).epoch ≡ Some 2
  pub promise : (readings_of m).promise ≡ Some 100
  pub unmarked : (readings_of m).marked ≡ false
  pub votes : (readings_of m).pending_v ≤ p
  pub short : AllShort longest m

-- monitor i has the whole log, and no value under way
pub record RestsAt (n : ℕ) (log : List (List ℕ)) (taken : List ℕ) (seq : ℕ → ℕ) (i : ℕ) (m : Store)
    (o : Option State) : Type 0 where
  pub state : State
  pub up : o ≡ Some state
  pub keeps : Stored log (length log) (length log) m
  pub remembers : Remembers n taken seq i state

-- ---- the run

-- The run of these events, in which these commands came one after the other, rests. Each message was delivered once, in
-- order.
pub record IsResting (ms : Monitors) (cs : List Order) (events : List Event) : Type 0 where
  pub goes_on : (ran ms events).stop ≡ None
  pub once : numbers_delivered events ≡ range_with_len 1 (length (run ms events).messages)
  -- the last number that the leader took from each peon, and the next one that the peon gives
  pub taken : List ℕ
  pub seq : ℕ → ℕ
  pub places : length taken ≡ 15
  pub seqs : (j : ℕ) → slice_index_or taken j 0 + 1 ≡ seq j
  pub few : (j : ℕ) → seq j ≤ suc (length cs)
  pub each : (i : ℕ) → i < ms.count
      → RestsAt ms.count (log_of [] cs) taken seq i ((run ms events).store i) ((run ms events).state i)
  pub values : AllValues (log_of [] cs)
  pub short : length (log_of [] cs) ≤ length cs
  pub log : (run ms events).log ≡ log_of [] cs
  pub answered : answers (run ms events) ≡ answers_of 1 [] cs
