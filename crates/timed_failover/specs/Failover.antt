-- A quorum that loses a monitor.
use Rattle.mon_types.specs.Ranks.{has}
use Rattle.quorum_model.specs.Meets.{message_at}
use Rattle.quorum_timed.specs.Calls.{IsCall}
use Rattle.quorum_model.specs.Monitors.{Monitors}
use Rattle.quorum_model.specs.World.{Event}
use Rattle.quorum_stays.specs.Steady.{Reign, Round, Steady}
use Rattle.quorum_timed.specs.Timed.{Leads, Pace, Timed}
use Rattle.std.specs.List.{AllByRecursion}
use Rattle.std.specs.Prelude.{Bool, IsSomeAnd, List, false, true, ℕ, ◌++◌, ◌≡◌, ◌≤◌}
use Rattle.timed_election.specs.Election.{Election, IsWon}
use Rattle.timed_election.specs.Joining.{Parted}
use Rattle.timed_election.specs.Keeping.{OnlyVotes}

-- The members of q are those of a quorum but for one monitor that it lost.
pub record IsWithout (full q : List Bool) (lost : ℕ) : Type 0 where
  pub was : has full lost ≡ true
  pub gone : has q lost ≡ false
  pub others : (i : ℕ) → (i ≡ lost → ⊥) → has q i ≡ has full i

-- no call for an election is under way among members
abbrev pub NoCallIsUnderWay : List Bool → Timed → Type 0
NoCallIsUnderWay q t = (f i : ℕ) → has q f ≡ true → has q i ≡ true
    → AllByRecursion (λ o. IsSomeAnd (message_at t.world.messages o.number) (λ m. IsCall m.message.body → ⊥))
    (t.under_way f i)

-- the same pace from an earlier time on
abbrev pub from_time : ℕ → Pace → Pace
from_time earlier pace = record pace { since = earlier }

-- At some time of the run, and by time u, `best` has won the election of this epoch, and leads all members. Of the
-- election only calls and acknowledgements are under way, and the run goes on from there.
pub record IsReplacedBy (ms : Monitors) (q : List Bool) (pace : Pace) (best epoch : ℕ) (t last : Timed)
    (more : List (ℕ × Event)) (u : ℕ) : Type 0 where
  pub before : List (ℕ × Event)
  pub after : List (ℕ × Event)
  pub parts : more ≡ before ++ after
  pub reached : Timed
  pub run : Leads ms q pace t before reached
  pub rest : Leads ms q pace reached after last
  pub by : reached.time ≤ u
  pub election : Election
  pub epoch_is : election.epoch ≡ epoch
  pub best_is : election.best ≡ best
  pub won : IsWon ms q pace election reached
  pub votes : OnlyVotes q election.epoch reached

-- At some time of the run, and by time u, the leader of the reign just began to probe, and the other members still follow
-- it. The run goes on from there.
pub record IsPartedBy (ms : Monitors) (q : List Bool) (pace : Pace) (reign : Reign) (t last : Timed)
    (more : List (ℕ × Event)) (u : ℕ) : Type 0 where
  pub before : List (ℕ × Event)
  pub after : List (ℕ × Event)
  pub parts : more ≡ before ++ after
  pub reached : Timed
  pub run : Leads ms q pace t before reached
  pub rest : Leads ms q pace reached after last
  pub by : reached.time ≤ u
  pub parted : Parted ms q pace reign.leader reign.epoch reached

-- At some time of the run, and by time u, q is led by this member in this epoch (`Steady`). The rest of the run goes on from
-- there.
pub record SteadyBy (ms : Monitors) (q : List Bool) (pace : Pace) (leader epoch : ℕ) (t last : Timed)
    (more : List (ℕ × Event)) (u : ℕ) : Type 0 where
  pub before : List (ℕ × Event)
  pub after : List (ℕ × Event)
  pub parts : more ≡ before ++ after
  pub reached : Timed
  pub run : Leads ms q pace t before reached
  pub rest : Leads ms q pace reached after last
  pub by : reached.time ≤ u
  pub reign : Reign
  pub leader_is : reign.leader ≡ leader
  pub epoch_is : reign.epoch ≡ epoch
  pub round : Round
  pub steady : Steady ms q pace reign round reached
