-- Why a run stops.
use Rattle.std.specs.Prelude.{◌≡◌, ◌<◌, List, Result, Err}
use Rattle.mon_msg.specs.declared.plan.RoleStop.{RoleStop}
use Rattle.mon_msg.specs.declared.plan.RoleStop.TheVariants as core
use Rattle.mon_kv.specs.Readers.{size_of, most_size}
use Rattle.mon_store.specs.declared.stop.StoreStop.{StoreStop}
use Rattle.mon_store.specs.declared.stop.StoreStop.TheVariants as store
use Rattle.mon_tx.specs.Map.{Store, apply}
use Rattle.mon_tx.specs.declared.op.Op.{Op}
use Rattle.quorum_model.specs.Happens.{Stop}
use Rattle.quorum_model.specs.Happens as happens
use Rattle.mon_world.specs.declared.stop.WorldStop.{WorldStop}
use Rattle.mon_world.specs.declared.stop.WorldStop.TheVariants.{OutOfMemory, Spent, Full}

-- the world's stop for a core's, and for a store's
abbrev pub core_stop : RoleStop → WorldStop
core_stop core.OutOfMemory = OutOfMemory
core_stop (core.Spent which) = Spent which

abbrev pub stop_of : StoreStop → WorldStop
stop_of (store.Full would_be) = Full would_be
stop_of other = OutOfMemory

-- the stops that a store in use may have: the map would be too large, or memory ran out
abbrev pub CanStop : StoreStop → Type 0
CanStop (store.Full would_be) = Unit {0}
CanStop store.OutOfMemory = Unit {0}
CanStop other = ⊥

-- unless memory ran out, the model's run stops at the same number or size
abbrev pub Stops : {Y : Type 0} → WorldStop → Result Y Stop → Type 0
Stops OutOfMemory wanted = Unit {0}
Stops (Spent which) wanted = wanted ≡ Err (happens.Spent which)
Stops (Full would_be) wanted = wanted ≡ Err (happens.Full would_be)

-- a transaction isn't kept only if it would make its map too large, or if memory ran out
abbrev pub IsntKept : List Op → Store → WorldStop → Type 0
IsntKept ops m OutOfMemory = Unit {0}
IsntKept ops m (Spent which) = ⊥
IsntKept ops m (Full would_be) = (most_size < size_of (apply ops m)) × (would_be ≡ size_of (apply ops m))
