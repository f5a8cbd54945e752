-- A monitor without injected faults: its disks, its open store, and what its calls leave.
use Rattle.std.specs.Prelude.{◌≡◌, ◌≤◌, false, List, None, Result, Ok, Err}
use Rattle.mon_types.specs.declared.member.Member.{Member}
use Rattle.mon_bytes.specs.declared.memory.OutOfMemory.{OutOfMemory}
use Rattle.mon_disk.specs.Memory.{seen_of}
use Rattle.mon_disk.specs.MemoryDisk.{MemoryState}
use Rattle.mon_tx.specs.declared.op.Op.{Op}
use Rattle.mon_tx.specs.Map.{Store, apply}
use Rattle.mon_kv.specs.Readers.{size_of, most_size}
use Rattle.mon_journal.specs.declared.journal.Form.TheVariants.{Second}
use Rattle.mon_journal.specs.Written.{owner_of}
use Rattle.mon_store.specs.declared.stop.StoreStop.{StoreStop}
use Rattle.mon_store.specs.declared.store.Store as kept
use Rattle.mon_store.specs.Sound.{Sound}
use Rattle.mon_store.specs.Whole.{disk_a, disk_b}
use Rattle.quorum_model.specs.Cuts.{after_checkpoint}
use Rattle.quorum_model.specs.Files.{Files, after_opening, after_append}
use Rattle.mon_site.specs.Disks.{IsCalm, content}
use Rattle.mon_site.specs.Ending.{StopsAt, IsMemory}
use Rattle.mon_site.specs.Faults.{Rests}
use Rattle.mon_site.specs.InjectedFault.{files_on}

-- two disks are at rest, with some map and some files
abbrev pub Rest : Member → MemoryState → MemoryState → Type 0
Rest member a b = (m : Store) × (f : Files) × Rests member m f a b

-- a disk after a read: it holds what it held, and stays at rest if it was
pub record IsRead (old new : MemoryState) : Type 0 where
  pub seen : seen_of new.life ≡ seen_of old.life
  pub calm : IsCalm old → IsCalm new

-- A store that is open on two disks without injected faults, with this map and these files.
pub record Runs (member : Member) (m : Store) (f : Files) (store : kept.Store MemoryState) : Type 0 where
  pub unbroken : store.broken ≡ false
  pub sound : Sound store.journal store.kv store.live.known (content store.live) (content store.other)
  pub form : store.journal.form ≡ Second
  pub owner : owner_of store.journal.member ≡ owner_of member
  pub map : store.kv ≡ m
  pub files : files_on (disk_a store) (disk_b store) ≡ f
  pub calm_live : store.live.life.upset ≡ None
  pub calm_other : store.other.life.upset ≡ None

-- a store is open, unless memory ran out
abbrev pub Starts : Member → Store → Files → Result (kept.Store MemoryState) OutOfMemory → Type 0
Starts member m f (Ok store) = Runs member m (after_opening f) store
Starts member m f (Err e) = Unit {0}

-- a store after a transaction's changes were made
abbrev pub Changes : Member → Store → Files → List Op → kept.Store MemoryState → Result Unit StoreStop → Type 0
Changes member m f ops store (Ok done) = (size_of (apply ops m) ≤ most_size) ×
    Runs member (apply ops m) (after_append ops f) store
Changes member m f ops store (Err e) = StopsAt m ops e

-- a store after the checkpoint that is due was made
abbrev pub Renews : Member → Store → Files → kept.Store MemoryState → Result Unit StoreStop → Type 0
Renews member m f store (Ok done) = Runs member m (after_checkpoint m f) store
Renews member m f store (Err e) = IsMemory e

-- a store after a transaction's changes and the checkpoint that is due
abbrev pub Applies : Member → Store → Files → List Op → kept.Store MemoryState → Result Unit StoreStop → Type 0
Applies member m f ops store (Ok done) = (size_of (apply ops m) ≤ most_size) ×
    Runs member (apply ops m) (after_checkpoint (apply ops m) (after_append ops f)) store
Applies member m f ops store (Err e) = StopsAt m ops e
