-- What a majority needs to serve again.
use Rattle.calm_sizes.specs.Sizes.{OwnShort, longest}
use Rattle.election_rules.specs.Ranking.{allows}
use Rattle.mon_kv.specs.Readers.{is_marked}
use Rattle.mon_msg.specs.Protocol.Readings.{Readings, epoch_of, or_zero, promise_of}
use Rattle.mon_types.specs.Ranks.{has}
use Rattle.quorum_laws.specs.Accepting.{readings_at}
use Rattle.quorum_model.specs.Growth.{last_of}
use Rattle.quorum_model.specs.Monitors.{Monitors}
use Rattle.quorum_model.specs.World.{World}
use Rattle.quorum_near.specs.Near.{IsNear}
use Rattle.std.specs.Prelude.{Bool, List, false, length, true, ℕ, ◌+◌, ◌^◌, ◌≡◌, ◌≤◌}

-- a number that can still grow by 1,000
abbrev pub HasRoom : ℕ → Type 0
HasRoom n = n + 1000 ≤ 2 ^ 62

-- the numbers of a monitor have room: its starts, its epoch, its last proposal number and the greatest one that it promised
pub record NumbersHaveRoom (w : Readings) : Type 0 where
  pub boot : HasRoom w.boot
  pub epoch : HasRoom (epoch_of w)
  pub number : HasRoom (or_zero w.last_pn)
  pub promise : HasRoom (promise_of w)

-- its numbers have room, and it has no value of its own that is longer than a transaction may be
pub record MonitorHasRoom (w : World) (i : ℕ) : Type 0 where
  pub numbers : NumbersHaveRoom (readings_at w i)
  pub store : OwnShort longest (w.store i)

-- One member of a set may lead, each member's numbers and own values have room, and so has the length of the log.
pub record IsReady (ms : Monitors) (q : List Bool) (w : World) : Type 0 where
  pub leader : ℕ
  pub among : has q leader ≡ true
  pub may_lead : allows ms.rule leader ≡ true
  pub monitors : (i : ℕ) → has q i ≡ true → MonitorHasRoom w i
  pub log : HasRoom (length w.log)

-- Monitor i is in no full synchronization, and lacks at most `most` versions of the log.
pub record LacksAtMost (most : ℕ) (w : World) (i : ℕ) : Type 0 where
  pub unmarked : is_marked (w.store i) ≡ false
  pub near : length w.log ≤ last_of (w.store i) + most

-- all of a set are near the whole log
abbrev pub AllNear : List Bool → World → Type 0
AllNear q w = (i : ℕ) → has q i ≡ true → IsNear w i
