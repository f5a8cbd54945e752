-- What monitors accepted: the values that their kept transactions put as pending.
use Rattle.mon_msg.specs.Protocol.Readings.{Readings, readings_of}
use Rattle.mon_tx.specs.Map.{apply}
use Rattle.mon_tx.specs.declared.op.Op.{Op}
use Rattle.mon_types.specs.Ranks.{has, is_majority}
use Rattle.quorum_model.specs.World.{World}
use Rattle.std.proofs.Common.{Bool, List, Some, true, ℕ, ◌<◌, ◌≡◌, ◌≤◌}
use Rattle.std.specs.FinMap.{empty}
use Rattle.std.specs.List.{Contains}

-- what changes leave of an empty store, as the readers return it
abbrev pub put_alone : List Op → Readings
put_alone changes = readings_of (apply changes empty)

-- A transaction accepts a value's bytes for a version under a proposal number: it puts all three as what is pending.
pub record Accepts (transaction : List Op) (v pn : ℕ) (bytes : List ℕ) : Type 0 where
  pub some : 1 ≤ v
  pub version : (put_alone transaction).pending_v ≡ v
  pub number : (put_alone transaction).pending_pn ≡ pn
  pub value : (put_alone transaction).record_of v ≡ Some bytes

-- one of these transactions accepts the bytes for version v under number pn
pub record AcceptedIn (transactions : List (List Op)) (v pn : ℕ) (bytes : List ℕ) : Type 0 where
  pub transaction : List Op
  pub among : Contains transactions transaction
  pub accepts : Accepts transaction v pn bytes

-- a kept transaction of monitor i accepts the bytes for version v under number pn
abbrev pub HasAccepted : World → ℕ → (v pn : ℕ) → List ℕ → Type 0
HasAccepted w i v pn bytes = AcceptedIn (w.transactions i) v pn bytes

-- what the readers of a monitor's store return
abbrev pub readings_at : World → ℕ → Readings
readings_at w i = readings_of (w.store i)

-- a set of ranks of n monitors, with more than half of them
pub record IsMajorityOf (n : ℕ) (q : List Bool) : Type 0 where
  pub below : (m : ℕ) → has q m ≡ true → m < n
  pub major : is_majority n q ≡ true
