-- What causes each result of a store's calls.
use Rattle.std.specs.Prelude.{◌≡◌, ◌≤◌, ◌<◌, ◌-◌, ◌^◌, min, length, Bool, true, false, List, Result, Ok, Err}
use Rattle.mon_tx.specs.declared.op.Op.{Op}
use Rattle.mon_tx.specs.Map.{Store, apply}
use Rattle.mon_tx.specs.Text.{text, most}
use Rattle.mon_kv.specs.Readers.{size_of}
use Rattle.mon_store.specs.declared.stop.StoreStop.{StoreStop}
use Rattle.mon_store.specs.declared.stop.StoreStop.TheVariants.{Broken, TooLong, Full, DiskFault, OutOfMemory}
use Rattle.mon_store.specs.Checkpoint.{most_size}

-- What holds after each refusal of a transaction, in the order of the tests. After TooLong the map is unchanged.
abbrev pub AfterRefusal : List Op → Store → Store → StoreStop → Type 0
AfterRefusal ops old new Broken = ⊥
AfterRefusal ops old new (TooLong len) = (most < length (text ops)) × (len ≡ min (length (text ops)) (2 ^ 64 - 1)) × (new ≡ old)
AfterRefusal ops old new OutOfMemory = length (text ops) ≤ most
AfterRefusal ops old new (Full would_be) = (length (text ops) ≤ most) × (most_size < size_of (apply ops old)) × (would_be ≡ size_of (apply ops old))
AfterRefusal ops old new DiskFault = (length (text ops) ≤ most) × (size_of (apply ops old) ≤ most_size)

-- What a store returns for a transaction. It is Broken if and only if the store was broken before.
abbrev pub Answers : {T : Type 0} → List Op → Store → Store → Bool → Result T StoreStop → Type 0
Answers ops old new broken (Ok x) = (broken ≡ false) × (length (text ops) ≤ most) × (size_of (apply ops old) ≤ most_size) × (new ≡ apply ops old)
Answers ops old new broken (Err Broken) = broken ≡ true
Answers ops old new broken (Err e) = (broken ≡ false) × AfterRefusal ops old new e

-- an answer that breaks a store
abbrev pub breaks : {T : Type 0} → Result T StoreStop → Bool
breaks (Ok x) = false
breaks (Err Broken) = false
breaks (Err (TooLong len)) = false
breaks (Err (Full would_be)) = true
breaks (Err DiskFault) = true
breaks (Err OutOfMemory) = true

-- a refusal that may come before the first call on a disk, if the store isn't broken
abbrev pub IsEarly : StoreStop → Type 0
IsEarly Broken = ⊥
IsEarly (TooLong len) = Unit {0}
IsEarly (Full would_be) = Unit {0}
IsEarly DiskFault = ⊥
IsEarly OutOfMemory = Unit {0}

-- after Broken, TooLong and Full a disk is unchanged
abbrev pub LeavesDisk : {D : Type 0} → D → D → StoreStop → Type 0
LeavesDisk old new (TooLong len) = new ≡ old
LeavesDisk old new (Full would_be) = new ≡ old
LeavesDisk old new Broken = new ≡ old
LeavesDisk old new DiskFault = Unit {0}
LeavesDisk old new OutOfMemory = Unit {0}

-- What `restart_if_due` returns: whether a checkpoint was due. It is Broken if and only if the store was broken before.
-- It fails otherwise only if a checkpoint was due.
abbrev pub Restarts : Bool → Bool → Result Bool StoreStop → Type 0
Restarts broken due (Ok done) = (broken ≡ false) × (done ≡ due)
Restarts broken due (Err Broken) = broken ≡ true
Restarts broken due (Err (TooLong len)) = ⊥
Restarts broken due (Err (Full would_be)) = ⊥
Restarts broken due (Err DiskFault) = (broken ≡ false) × (due ≡ true)
Restarts broken due (Err OutOfMemory) = (broken ≡ false) × (due ≡ true)

-- a disk's fault, or out of memory
abbrev pub IsOutside : StoreStop → Type 0
IsOutside Broken = ⊥
IsOutside (TooLong len) = ⊥
IsOutside (Full would_be) = ⊥
IsOutside DiskFault = Unit {0}
IsOutside OutOfMemory = Unit {0}
