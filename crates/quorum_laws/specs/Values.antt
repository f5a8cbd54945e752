-- That no two values are chosen for one version.
use Rattle.mon_msg.specs.Protocol.Readings.{promise_of}
use Rattle.mon_msg.specs.Protocol.State.{State}
use Rattle.mon_tx.specs.Text.{text}
use Rattle.mon_tx.specs.declared.op.Op.{Op}
use Rattle.mon_types.specs.Ranks.{has}
use Rattle.mon_wire.specs.declared.phase.Phase.TheVariants as phase
use Rattle.mon_wire.specs.declared.phase.Phase.{Phase}
use Rattle.quorum_laws.specs.Accepting.{HasAccepted, IsMajorityOf, readings_at}
use Rattle.quorum_model.specs.World.{World}
use Rattle.std.proofs.Common.{Bool, List, Some, false, suc, true, ℕ, ◌<◌, ◌≡◌, ◌≤◌, ◌⊎◌}

-- no two values were accepted for one version under one number
abbrev pub OneValue : World → Type 0
OneValue w = (i j v pn : ℕ) (bytes other : List ℕ) → HasAccepted w i v pn bytes → HasAccepted w j v pn other → bytes ≡ other

-- a rank of the set that promised more than this number, and didn't accept these bytes under it
pub record HasBlocker (w : World) (q : List Bool) (v pn : ℕ) (bytes : List ℕ) : Type 0 where
  pub rank : ℕ
  pub within : has q rank ≡ true
  pub promised : pn < promise_of (readings_at w rank)
  pub never : ¬ HasAccepted w rank v pn bytes

-- What was accepted leaves no room for another value under a lower number: every majority has a rank that can't accept it any
-- more.
abbrev pub LeavesNoRoom : ℕ → World → Type 0
LeavesNoRoom n w = (i v pn lower : ℕ) (bytes other : List ℕ) (q : List Bool) → HasAccepted w i v pn bytes → lower < pn
    → ¬ (other ≡ bytes) → IsMajorityOf n q → HasBlocker w q v lower other

-- a rank of the set that promised more than this number, and accepted nothing for the version under it
pub record AcceptedNothing (w : World) (q : List Bool) (v pn : ℕ) : Type 0 where
  pub rank : ℕ
  pub within : has q rank ≡ true
  pub promised : pn < promise_of (readings_at w rank)
  pub never : (bytes : List ℕ) → ¬ HasAccepted w rank v pn bytes

-- The value of a leader that is updating in `before` is new. For its version and any lower number, every majority has a
-- rank that accepted nothing under that number, and by `now` can't any more.
abbrev pub ProposesNew : ℕ → (before now : World) → Type 0
ProposesNew n before now = (i : ℕ) (s : State) (lower : ℕ) (q : List Bool) → before.state i ≡ Some s → s.phase ≡ phase.Updating → lower < s.leader.pn
    → IsMajorityOf n q → AcceptedNothing now q (suc (readings_at before i).last) lower

-- all ranks of a majority accepted the bytes for a version under one number
pub record IsChosen (n : ℕ) (w : World) (v : ℕ) (bytes : List ℕ) : Type 0 where
  pub pn : ℕ
  pub by : List Bool
  pub major : IsMajorityOf n by
  pub all : (m : ℕ) → has by m ≡ true → HasAccepted w m v pn bytes

-- ---- leaders

-- In these phases a leader has heard its quorum.
abbrev pub has_heard : Phase → Bool
has_heard phase.Previous = true
has_heard phase.Active = true
has_heard phase.Updating = true
has_heard other = false

-- The leader proposes a value again for its next version, which is v. One of its quorum accepted that value under a
-- number that is at least pn and below the leader's own.
pub record Repeats (w : World) (s : State) (last v pn : ℕ) : Type 0 where
  pub phase : s.phase ≡ phase.Previous
  pub next : v ≡ suc last
  pub value : List Op
  pub proposes : s.leader.value ≡ Some value
  pub by : ℕ
  pub member : has s.leader.quorum by ≡ true
  pub number : ℕ
  pub high : pn ≤ number
  pub low : number < s.leader.pn
  pub accepted : HasAccepted w by (suc last) number (text value)

-- All of its quorum promised its number, and each version for which one of them accepted a value under a lower number is
-- committed, unless it repeats that value.
pub record KnowsOlder (w : World) (i : ℕ) (s : State) : Type 0 where
  pub promised : (f : ℕ) → has s.leader.quorum f ≡ true → s.leader.pn ≤ promise_of (readings_at w f)
  pub covered : (f v pn : ℕ) (bytes : List ℕ) → has s.leader.quorum f ≡ true → HasAccepted w f v pn bytes → pn < s.leader.pn
      → (v ≤ (readings_at w i).last) ⊎ Repeats w s (readings_at w i).last v pn

abbrev pub LeadersKnow : World → Type 0
LeadersKnow w = (i : ℕ) (s : State) → w.state i ≡ Some s → has_heard s.phase ≡ true → KnowsOlder w i s
