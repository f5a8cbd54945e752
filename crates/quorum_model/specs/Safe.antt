-- When a run is safe: no two monitors disagree, nothing acknowledged is lost, what is shown is the log's, each store is
-- what its monitor wrote, no epoch has two active leaders, and the monitor of a read has what was acknowledged before it
-- in its epoch.
use Rattle.std.specs.Prelude.{◌≡◌, ℕ, ◌<◌, List, [], ◌∷◌}
use Rattle.std.specs.List.{Contains}
use Rattle.std.specs.FinMap.{empty}
use Rattle.mon_tx.specs.declared.op.Op.{Op}
use Rattle.mon_tx.specs.Map.{Store, apply}
use Rattle.quorum_model.specs.Agree.{Agree}
use Rattle.quorum_model.specs.Kept.{Kept}
use Rattle.quorum_model.specs.Monitors.{Monitors}
use Rattle.quorum_model.specs.Runs.{run, all_writes}
use Rattle.quorum_model.specs.Shown.{Shown, Fence}
use Rattle.quorum_model.specs.World.{World, Event, first_world}

abbrev pub after_transactions : List (List Op) → Store → Store
after_transactions [] m = m
after_transactions (tx ∷ txs) m = after_transactions txs (apply tx m)

-- A store is what its transactions leave, in order; and these are all that its monitor's events wrote, except those
-- that a crash lost.
pub record Held (ms : Monitors) (events : List Event) : Type 0 where
  pub folded : (i : ℕ) → i < ms.count
      → (run ms events).store i ≡ after_transactions ((run ms events).transactions i) empty
  pub whole : (i : ℕ) → i < ms.count
      → (run ms events).transactions i ≡ all_writes ms first_world events i

-- no epoch has two active leaders
abbrev pub OneActive : World → Type 0
OneActive w = (e r s : ℕ) → Contains w.active (e, r) → Contains w.active (e, s) → r ≡ s

-- the run of these events is safe
pub record Safe (ms : Monitors) (events : List Event) : Type 0 where
  pub agree : Agree ms.count (run ms events)
  pub kept : Kept ms.count (run ms events)
  pub shown : Shown (run ms events)
  pub held : Held ms events
  pub one_active : OneActive (run ms events)
  pub fence : Fence (run ms events)
