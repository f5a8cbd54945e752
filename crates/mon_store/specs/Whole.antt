-- A store in use.
use Rattle.std.specs.Prelude.{◌≡◌, false, List, [], ◌∷◌, Result, Ok, Err}
use Rattle.mon_disk.specs.Calls.{DiskState}
use Rattle.mon_store.specs.declared.store.Store.{Store}
use Rattle.mon_store.specs.declared.opening.LiveStore.{LiveStore}
use Rattle.mon_tx.specs.declared.op.Op.{Op}
use Rattle.mon_store.specs.declared.stop.StoreStop.{StoreStop}
use Rattle.mon_store.specs.declared.stop.StoreStop.TheVariants.{Broken, TooLong, Full, DiskFault, OutOfMemory}
use Rattle.mon_store.specs.declared.stop.OpenStop.{OpenStop}
use Rattle.mon_store.specs.declared.stop.OpenRefused.{OpenRefused}
use Rattle.mon_types.specs.declared.names.Side.{Side}
use Rattle.mon_store.specs.Sound.{Sound, of_a, of_b, of_live}

-- a store that isn't broken is on its disks, and has their map
abbrev pub IsSound : {D : Type 0} → (D → DiskState) → Store D → Type 0
IsSound state store = store.broken ≡ false → Sound store.journal store.kv (state store.live).known (state store.live).content (state store.other).content

-- its disks
abbrev pub disk_a : {D : Type 0} → Store D → D
disk_a store = of_a store.side store.live store.other

abbrev pub disk_b : {D : Type 0} → Store D → D
disk_b store = of_b store.side store.live store.other

-- the disk of a side
abbrev pub disk_of : {D : Type 0} → Side → Store D → D
disk_of side store = of_live side (disk_a store) (disk_b store)

-- After Broken, TooLong or an empty transaction a store is as it was.
abbrev pub Stays : {D T : Type 0} → List Op → Store D → Store D → Result T StoreStop → Type 0
Stays [] old new (Ok x) = new ≡ old
Stays (op ∷ ops) old new (Ok x) = Unit {0}
Stays ops old new (Err Broken) = new ≡ old
Stays ops old new (Err (TooLong len)) = new ≡ old
Stays ops old new (Err (Full would_be)) = Unit {0}
Stays ops old new (Err DiskFault) = Unit {0}
Stays ops old new (Err OutOfMemory) = Unit {0}

-- ---- what an opening answered

-- the disks, which the store has or the refusal hands back
abbrev pub a_after : {D : Type 0} → Result (Store D) (OpenRefused D) → D
a_after (Ok store) = disk_a store
a_after (Err refused) = refused.disks.a

abbrev pub b_after : {D : Type 0} → Result (Store D) (OpenRefused D) → D
b_after (Ok store) = disk_b store
b_after (Err refused) = refused.disks.b

-- the opened store's live disk, journal and map, or why none was opened
abbrev pub answered : {D : Type 0} → Result (Store D) (OpenRefused D) → Result LiveStore OpenStop
answered (Ok store) = Ok (record { side = store.side; journal = store.journal; kv = store.kv })
answered (Err refused) = Err refused.why
