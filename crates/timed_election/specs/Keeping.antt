-- What an election leaves behind: what members keep, and what is still under way.
use Rattle.mon_msg.specs.Protocol.Readings.{readings_of}
use Rattle.mon_types.specs.Ranks.{has}
use Rattle.quorum_model.specs.Meets.{message_at}
use Rattle.quorum_model.specs.Monitors.{Monitors}
use Rattle.quorum_model.specs.World.{Event}
use Rattle.quorum_stays.specs.Steady.{IsOfElections}
use Rattle.quorum_timed.specs.Timed.{Leads, Pace, Timed}
use Rattle.std.specs.List.{AllByRecursion}
use Rattle.std.specs.Prelude.{Bool, IsSomeAnd, List, true, ℕ, ◌++◌, ◌≡◌, ◌≤◌}
use Rattle.timed_election.specs.Election.{Election, IsRaised, IsWon}

-- All that is under way among members and not of a later epoch is calls and acknowledgements.
abbrev pub OnlyVotes : List Bool → (epoch : ℕ) → Timed → Type 0
OnlyVotes q epoch t = (f i : ℕ) → has q f ≡ true → has q i ≡ true
    → AllByRecursion (λ o. IsSomeAnd (message_at t.world.messages o.number) (λ m. m.message.epoch ≤ epoch → IsOfElections m.message.body))
    (t.under_way f i)

-- At some time of the run, and by time u, the election is won, and the run goes on. No member changed its store but the
-- winner, and of the election only calls and acknowledgements are under way.
pub record IsWonWithin (ms : Monitors) (q : List Bool) (pace : Pace) (E : Election) (t last : Timed)
    (more : List (ℕ × Event)) (u : ℕ) : Type 0 where
  pub before : List (ℕ × Event)
  pub after : List (ℕ × Event)
  pub parts : more ≡ before ++ after
  pub reached : Timed
  pub run : Leads ms q pace t before reached
  pub rest : Leads ms q pace reached after last
  pub by : reached.time ≤ u
  pub won : IsWon ms q pace E reached
  pub kept : (i : ℕ) → has q i ≡ true → (i ≡ E.best → ⊥)
      → readings_of (reached.world.store i) ≡ readings_of (t.world.store i)
  pub raised : IsRaised E won.pn (readings_of (t.world.store E.best)) (readings_of (reached.world.store E.best))
  pub votes : OnlyVotes q E.epoch reached
