-- The acts by which a monitor begins to synchronize.
use Rattle.std.specs.Prelude.{ℕ, true, false, Option, Some, None, max}
use Rattle.mon_msg.specs.Protocol.Changes.{Mark}
use Rattle.mon_msg.specs.Protocol.Course.{Course, ◌▸◌, change, requester_is, arm, in_phase}
use Rattle.mon_msg.specs.Protocol.Readings.{Readings}
use Rattle.mon_msg.specs.Protocol.Records.{pending}
use Rattle.mon_msg.specs.Protocol.Sending.{send}
use Rattle.mon_msg.specs.Protocol.State.{start_requester}
use Rattle.mon_wire.specs.declared.body.Body.TheVariants as body
use Rattle.mon_msg.specs.declared.paxos.Found.{Found}
use Rattle.mon_wire.specs.declared.phase.Phase.TheVariants as phase
use Rattle.mon_wire.specs.declared.phase.Timer.TheVariants as timer
use Rattle.mon_msg.specs.declared.view.Me.{Me}

-- the version of the pending value, or 0
abbrev pub pending_version : Option Found → ℕ
pending_version None = 0
pending_version (Some found) = found.version

-- the version that a full synchronization must reach: the greatest of the floor before, the last version and that of
-- the pending value
abbrev pub floor_of : Readings → ℕ
floor_of w = max (max w.floor w.last) (pending_version (pending w))

module _ (me : Me) (now : ℕ) where
  -- it gives up all that is shared, for a whole copy of another monitor's
  unfoldable pub full_sync : (from : ℕ) → Course → Course
  full_sync from x =
      x
      ▸ change (Mark (floor_of x.readings) x.readings.last_pn x.readings.promise)
      ▸ in_phase phase.Synchronizing
      ▸ requester_is (start_requester from true)
      ▸ send me from body.GetCookieFull
      ▸ arm now timer.Sync

  -- it asks another monitor for the versions that it lacks
  unfoldable pub recent_sync : (from : ℕ) → Course → Course
  recent_sync from x =
      x
      ▸ in_phase phase.Synchronizing
      ▸ requester_is (start_requester from false)
      ▸ send me from (body.GetCookieRecent x.readings.last)
      ▸ arm now timer.Sync
