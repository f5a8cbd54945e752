-- How far the monitors of a majority are from the whole log.
use Rattle.mon_kv.specs.Readers.{is_marked}
use Rattle.mon_msg.specs.Fold.{entry}
use Rattle.mon_msg.specs.Protocol.Records.{pending}
use Rattle.mon_msg.specs.declared.paxos.Found.{Found}
use Rattle.mon_tx.specs.Text.{text}
use Rattle.mon_types.specs.Ranks.{has}
use Rattle.quorum_laws.specs.Accepting.{IsMajorityOf, readings_at}
use Rattle.quorum_model.specs.Growth.{last_of}
use Rattle.quorum_model.specs.World.{World}
use Rattle.std.specs.Prelude.{Bool, List, Some, false, length, suc, true, ℕ, ◌+◌, ◌<◌, ◌≡◌, ◌≤◌, ◌⊎◌}

-- Monitor i lacks the last version of the log alone, and its pending value is that version, byte for byte.
pub record HasPending (w : World) (i : ℕ) : Type 0 where
  pub next : length w.log ≡ suc (last_of (w.store i))
  pub found : Found
  pub is : pending (readings_at w i) ≡ Some found
  pub version : found.version ≡ length w.log
  pub value : text found.value ≡ entry w.log (length w.log)

-- Monitor i is in no full synchronization. It has the whole log, or all but the last version, which it has pending.
pub record IsNear (w : World) (i : ℕ) : Type 0 where
  pub unmarked : is_marked (w.store i) ≡ false
  pub near : (last_of (w.store i) ≡ length w.log) ⊎ HasPending w i

-- the monitors of some majority of n are near the whole log
pub record HasNear (n : ℕ) (w : World) : Type 0 where
  pub by : List Bool
  pub major : IsMajorityOf n by
  pub near : (i : ℕ) → has by i ≡ true → IsNear w i

-- one monitor of a set is near the whole log
pub record SomeNear (w : World) (q : List Bool) : Type 0 where
  pub rank : ℕ
  pub within : has q rank ≡ true
  pub near : IsNear w rank

-- The floor of each full synchronization at one of n monitors is at least 501 versions below the end of the log.
abbrev pub FloorsLow : ℕ → World → Type 0
FloorsLow n w = (i : ℕ) → i < n → is_marked (w.store i) ≡ true → (readings_at w i).floor + 501 ≤ length w.log
