-- When a monitor is far from the whole log, and what a majority has once it caught up.
use Rattle.calm_sizes.specs.Sizes.{AllShort, longest}
use Rattle.mon_kv.specs.Readers.{is_marked, most_size, size_of}
use Rattle.mon_tx.specs.Map.{Store}
use Rattle.mon_types.specs.Ranks.{has}
use Rattle.quorum_elects.specs.Ready.{HasRoom, LacksAtMost, MonitorHasRoom}
use Rattle.quorum_laws.specs.Accepting.{readings_at}
use Rattle.quorum_model.specs.Growth.{last_of}
use Rattle.quorum_model.specs.World.{World}
use Rattle.std.specs.Prelude.{Bool, List, length, suc, true, ℕ, ◌+◌, ◌<◌, ◌≡◌, ◌≤◌, ◌⊎◌}

-- No value of the store is longer than a transaction may be, and its size is at least 1,000 bytes below the limit.
pub record StoreHasRoom (m : Store) : Type 0 where
  pub short : AllShort longest m
  pub size : size_of m + 1000 ≤ most_size

-- The numbers of each monitor of a set have room, also after one more start, and so has the length of the log. No value
-- of a monitor's own is longer than a transaction may be. A store in a full synchronization has room (`StoreHasRoom`).
pub record HaveRoom (q : List Bool) (w : World) : Type 0 where
  pub monitors : (i : ℕ) → has q i ≡ true → MonitorHasRoom w i
  pub log : HasRoom (length w.log)
  pub starts : (i : ℕ) → has q i ≡ true → HasRoom (suc (readings_at w i).boot)
  pub stores : (i : ℕ) → has q i ≡ true → is_marked (w.store i) ≡ true → StoreHasRoom (w.store i)

-- Monitor i is in a full synchronization, or lacks more than `most` versions of the log.
abbrev pub LacksMore : ℕ → World → ℕ → Type 0
LacksMore most w i = (is_marked (w.store i) ≡ true) ⊎ (last_of (w.store i) + most < length w.log)

-- Each monitor of a set lacks at most 11 versions, and none has fewer than before. One that lacked more than 11, or was in a
-- full synchronization, lacks at most one. The log is the same.
pub record CaughtUp (q : List Bool) (before after : World) : Type 0 where
  pub log : after.log ≡ before.log
  pub near : (i : ℕ) → has q i ≡ true → LacksAtMost 11 after i
  pub more : (i : ℕ) → has q i ≡ true → last_of (before.store i) ≤ last_of (after.store i)
  pub copied : (i : ℕ) → has q i ≡ true → LacksMore 11 before i → LacksAtMost 1 after i

-- Each monitor of a set lacks at most one version, or lacks more than 11, or is in a full synchronization.
abbrev pub NoneBetween : List Bool → World → Type 0
NoneBetween q w = (i : ℕ) → has q i ≡ true → LacksAtMost 1 w i ⊎ LacksMore 11 w i
