-- What is left at the end of an event in which a disk may fail.
use Rattle.std.specs.Prelude.{◌≡◌, ◌⊎◌, ℕ, ◌<◌, ◌≤◌, Bool, true, false, not, ◌&&◌, ◌||◌, nat_lt, List, length, None, Result, Ok, Err, if◌then◌else◌}
use Rattle.mon_types.specs.declared.member.Member.{Member}
use Rattle.mon_disk.specs.MemoryDisk.{MemoryState}
use Rattle.mon_tx.specs.declared.op.Op.{Op}
use Rattle.mon_tx.specs.Map.{Store, apply}
use Rattle.mon_tx.specs.Text.{text, most}
use Rattle.mon_kv.specs.Readers.{size_of, most_size}
use Rattle.mon_journal.specs.declared.journal.Form.TheVariants.{Second}
use Rattle.mon_journal.specs.Written.{owner_of}
use Rattle.mon_msg.specs.Protocol.Sets.{is_empty}
use Rattle.mon_store.specs.declared.stop.StoreStop.{StoreStop}
use Rattle.mon_store.specs.declared.stop.StoreStop.TheVariants as stop
use Rattle.mon_store.specs.declared.store.Store as kept
use Rattle.mon_store.specs.Sound.{Sound}
use Rattle.mon_store.specs.Whole.{disk_a, disk_b}
use Rattle.quorum_model.specs.declared.calls.TheConstants.{APPEND}
use Rattle.quorum_model.specs.Cuts.{after_checkpoint, checkpoint_begun, append_cut}
use Rattle.quorum_model.specs.Files.{Files, live_side, after_append}
use Rattle.quorum_model.specs.InjectedFaults.{same_side, last_write, opens_gate}
use Rattle.mon_site.specs.declared.finishing.Ended.{Ended}
use Rattle.mon_site.specs.declared.finishing.Kept.{Kept}
use Rattle.mon_site.specs.declared.finishing.Kept.TheVariants.{Whole, Cut}
use Rattle.mon_site.specs.declared.injected.InjectedFault.{InjectedFault}
use Rattle.mon_site.specs.Disks.{content}
use Rattle.mon_site.specs.Faults.{Settles}
use Rattle.mon_site.specs.InjectedFault.{IsInjected, files_on}

-- The live disk failed in none of its calls, or in none so far; the other one may still fail.
pub record IsKept (on_live : Bool) (call image : ℕ) (member : Member) (m : Store) (f : Files)
    (store : kept.Store MemoryState) : Type 0 where
  pub unbroken : store.broken ≡ false
  pub sound : Sound store.journal store.kv store.live.known (content store.live) (content store.other)
  pub form : store.journal.form ≡ Second
  pub owner : owner_of store.journal.member ≡ owner_of member
  pub map : store.kv ≡ m
  pub files : files_on (disk_a store) (disk_b store) ≡ f
  pub other : ((on_live ≡ true) × (store.other.life.upset ≡ None)) ⊎
      ((on_live ≡ false) × IsInjected call image store.other)

-- whether the failing disk is the live one
abbrev pub on_live : InjectedFault → Files → Bool
on_live u f = same_side u.disk (live_side f)

-- whether the fault is later than an append's calls, or the transaction is empty and has none
abbrev pub is_beyond : InjectedFault → List Op → Bool
is_beyond u ops = nat_lt APPEND u.call || is_empty ops

-- why a transaction is refused: its encoding or its map is too large, or memory ran out
abbrev pub StopsAt : Store → List Op → StoreStop → Type 0
StopsAt m ops stop.Broken = ⊥
StopsAt m ops (stop.TooLong len) = most < length (text ops)
StopsAt m ops (stop.Full would_be) = (most_size < size_of (apply ops m)) × (would_be ≡ size_of (apply ops m))
StopsAt m ops stop.DiskFault = ⊥
StopsAt m ops stop.OutOfMemory = Unit {0}

abbrev pub IsMemory : StoreStop → Type 0
IsMemory stop.Broken = ⊥
IsMemory (stop.TooLong len) = ⊥
IsMemory (stop.Full would_be) = ⊥
IsMemory stop.DiskFault = ⊥
IsMemory stop.OutOfMemory = Unit {0}

-- The result of a transaction: it is kept whole, or a call of the live disk fails in it.
abbrev pub Keeps : InjectedFault → Member → Store → Files → List Op → kept.Store MemoryState → Result Kept StoreStop
    → Type 0
Keeps u member m f ops store (Ok Whole) =
    ((on_live u f && not (is_beyond u ops)) ≡ false) × (size_of (apply ops m) ≤ most_size)
    × IsKept (on_live u f) u.call u.image member (apply ops m) (after_append ops f) store
Keeps u member m f ops store (Ok (Cut kept)) =
    (on_live u f ≡ true) × (is_beyond u ops ≡ false) × (size_of (apply ops m) ≤ most_size) ×
    (kept ≡ opens_gate (last_write APPEND) u.call u.image)
    × Settles member (if kept then apply ops m else m) (if kept then after_append ops f else f)
    (disk_a store) (disk_b store)
Keeps u member m f ops store (Err e) = StopsAt m ops e

-- The checkpoint that is due was made: whole if the live disk has the fault, and otherwise up to the other disk's
-- fault.
abbrev pub Checkpoints : Bool → (call image : ℕ) → Member → Store → Files → kept.Store MemoryState →
    Result Unit StoreStop → Type 0
Checkpoints live call image member m f store (Ok done) =
    Settles member m (if live then after_checkpoint m f else checkpoint_begun call image m f)
    (disk_a store) (disk_b store)
Checkpoints live call image member m f store (Err e) = IsMemory e

-- Whether the transaction survives: always if it is empty or the fault is on the other disk; otherwise if its gate is
-- open.
abbrev pub is_kept : InjectedFault → Files → List Op → Bool
is_kept u f ops = if is_empty ops then true else if on_live u f then opens_gate (last_write APPEND) u.call u.image else true

-- The result of a monitor's event: whether its transaction survives, and what its disks settle to.
abbrev pub Writes : InjectedFault → Member → Store → Files → List Op → (a b : MemoryState) → Result Bool StoreStop
    → Type 0
Writes u member m f ops a b (Ok kept) =
    (kept ≡ is_kept u f ops) × (size_of (apply ops m) ≤ most_size)
    × Settles member (if kept then apply ops m else m) (append_cut f m u.disk u.call u.image ops) a b
Writes u member m f ops a b (Err e) = StopsAt m ops e

abbrev pub Finishes : InjectedFault → Member → Store → Files → List Op → Result Ended StoreStop → Type 0
Finishes u member m f ops (Ok ended) = Writes u member m f ops ended.disks.a ended.disks.b (Ok ended.kept)
Finishes u member m f ops (Err e) = StopsAt m ops e
