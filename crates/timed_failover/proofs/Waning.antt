-- A quorum that lost a peon: its leader still renews the leases of the others, until it lacks an acknowledgement for too
-- long.
use Rattle.law_names.proofs.Runs.{Monitors}
use Rattle.law_names.proofs.Table.{State, Timer, end_of, epoch_of, has, length_of, readings_of}
use Rattle.mon_wire.specs.declared.phase.Phase.TheVariants as phase
use Rattle.mon_wire.specs.declared.phase.TheConstants.Timer.{COUNT}
use Rattle.mon_wire.specs.declared.phase.Timer.TheVariants as timer
use Rattle.quorum_stays.proofs.Peering.{PeonIn}
use Rattle.quorum_stays.specs.Serving.{HandsOnNothing}
use Rattle.quorum_stays.specs.Steady.{AllIn, AreApart, Carries, Reign, Round}
use Rattle.quorum_timed.specs.Timed.{Pace, Timed}
use Rattle.std.proofs.Common.{Bool, IsSomeAnd, List, None, Some, [], length, true, ℕ, ◌*◌, ◌+◌, ◌<◌, ◌^◌, ◌≡◌, ◌≤◌, ◌⊎◌}
use Rattle.timed_failover.specs.Failover.{NoCallIsUnderWay}

-- The monitor leads this quorum, has no value in progress, and no command waits at it. It renewed the leases at this time
-- on its clock. Its timer of acknowledgements isn't armed, or ends at `least` or later.
pub record RenewsSince (reign : Reign) (full : List Bool) (at least : ℕ) (s : State) : Type 0 where
  pub leads : s.phase ≡ phase.Active
  pub quorum : s.leader.quorum ≡ full
  pub number : s.leader.pn ≡ reign.pn
  pub queue : s.clients.queue ≡ []
  pub ranks : length s.leader.acks ≡ 15
  pub kinds : length s.timers ≡ COUNT
  pub renews : end_of timer.Renew s.timers ≡ Some (at + length_of timer.Renew)
  pub awaits : (end : ℕ) → end_of timer.LeaseAck s.timers ≡ Some end → least ≤ end
  pub only : (kind : Timer) (end : ℕ) → end_of kind s.timers ≡ Some end
      → (kind ≡ timer.Renew) ⊎ (kind ≡ timer.LeaseAck) ⊎ (kind ≡ timer.Propose)

-- the round, with no value in progress
abbrev pub calm : Round → Round
calm r = record r { next = None }

-- The leader leads all of `full`, of which only the members of q take steps. These follow it. Nothing is in progress, and
-- no command is on its way to the leader, nor a call for an election on its way to a member.
pub record Waning (ms : Monitors) (full q : List Bool) (pace : Pace) (reign : Reign) (r : Round) (t : Timed) : Type 0 where
  pub leads : has q reign.leader ≡ true
  pub within : AllIn q full
  pub second : ℕ
  pub second_in : has full second ≡ true
  pub second_is : second ≡ reign.leader → ⊥
  pub members : (i : ℕ) → has full i ≡ true → i < ms.count
  pub short : reign.pn ≤ 2 ^ 62
  pub since : pace.since ≤ r.latest + 3000 + pace.late
  pub reached : r.latest ≤ t.time
  pub ordered : r.before ≤ r.latest
  pub renewed : r.committed ≤ r.latest
  pub apart : r.latest ≤ r.before + 3000 + 2 * pace.late + 2 * pace.delay
  pub epoch : epoch_of (readings_of (t.world.store reign.leader)) ≡ reign.epoch
  pub last : (readings_of (t.world.store reign.leader)).last ≡ r.version
  pub fits : r.version ≤ 2 ^ 62
  pub lead : IsSomeAnd (t.world.state reign.leader)
      (RenewsSince reign full (r.latest + pace.clock reign.leader) (r.committed + pace.clock reign.leader + length_of timer.LeaseAck))
  pub peons : (i : ℕ) → has q i ≡ true → (i ≡ reign.leader → ⊥) → PeonIn ms full pace reign (calm r) t i t.under_way
  pub others : (f i : ℕ) → has q f ≡ true → has q i ≡ true → AreApart reign.leader f i
      → Carries ms reign t.world.messages f i (t.time + pace.delay) [] (t.under_way f i)
  pub quiet : (i : ℕ) → has q i ≡ true → HandsOnNothing t.world.messages (t.under_way i reign.leader)
  pub uncalled : NoCallIsUnderWay q t

-- a later time of the same reign: no version was committed
pub record WanesOn (ms : Monitors) (full q : List Bool) (pace : Pace) (reign : Reign) (r : Round) (t : Timed) : Type 0 where
  pub round : Round
  pub version : round.version ≡ r.version
  pub wanes : Waning ms full q pace reign round t
