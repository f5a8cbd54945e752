-- What a plan's transaction may hold if an act follows it.
use Rattle.std.specs.Prelude.{◌≡◌, ℕ, ◌≤◌, ◌^◌, ◌⊎◌, true, false, nat_lt, List, [], ◌∷◌}
use Rattle.mon_msg.specs.Protocol.Changes.{Epoch, encoded}
use Rattle.mon_msg.specs.Protocol.Records.{may_begin}
use Rattle.mon_msg.specs.declared.plan.Next.TheVariants as next
use Rattle.mon_msg.specs.declared.plan.Next.{Next}
use Rattle.mon_msg.specs.declared.view.Me.{Me}
use Rattle.mon_tx.specs.declared.op.Op.{Op}
use Rattle.mon_wire.specs.declared.phase.Phase.TheVariants as phase
use Rattle.mon_wire.specs.declared.phase.Phase.{Phase}

-- the epoch is written, and nothing else
pub record WritesEpoch (tx : List Op) : Type 0 where
  pub epoch : ℕ
  pub short : epoch ≤ 2 ^ 62
  pub is : tx ≡ encoded (Epoch epoch ∷ [])

-- What the transaction of a plan that names this act may hold, where `at` is the phase in which the plan was made.
abbrev pub Leaves : (at : Phase) → Next → (tx : List Op) → Type 0
Leaves at next.Stay tx = Unit {0}
Leaves at next.Elect tx = Unit {0}
Leaves at next.Electing tx = Unit {0}
Leaves at (next.Follow leader quorum) tx = Unit {0}
-- a monitor that begins again has written something only if it was taking a copy
Leaves at next.Bootstrap tx = (tx ≡ []) ⊎ (at ≡ phase.Synchronizing)
Leaves at (next.Win quorum) tx = WritesEpoch tx
Leaves at (next.FullSync from) tx = tx ≡ []
Leaves at (next.RecentSync from) tx = tx ≡ []
-- an active leader begins a value that a message can carry
Leaves at (next.Begin value o) tx = (tx ≡ []) × (at ≡ phase.Active) × (may_begin value ≡ true)

-- The plan of an act that ends its event: no further act follows, except that a monitor alone in its map wins.
abbrev pub Ends : Me → Next → (tx : List Op) → Type 0
Ends me next.Stay tx = Unit {0}
Ends me (next.Win quorum) tx = (nat_lt 1 me.member.monitors ≡ false) × WritesEpoch tx
Ends me next.Bootstrap tx = ⊥
Ends me next.Elect tx = ⊥
Ends me next.Electing tx = ⊥
Ends me (next.Follow leader quorum) tx = ⊥
Ends me (next.FullSync from) tx = ⊥
Ends me (next.RecentSync from) tx = ⊥
Ends me (next.Begin value o) tx = ⊥
