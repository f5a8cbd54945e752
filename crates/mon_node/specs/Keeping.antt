-- The result of a transaction on a store, and what is left of it and of the disks.
use Rattle.std.specs.Prelude.{◌≡◌, ℕ, ◌≤◌, ◌<◌, ◌⊎◌, List, Result, Ok, Err, if◌then◌else◌}
use Rattle.mon_kv.specs.Readers.{size_of}
use Rattle.mon_store.specs.Calls.{journal_after}
use Rattle.mon_store.specs.Checkpoint.{most_size}
use Rattle.mon_store.specs.Sound.{is_due, next_journal}
use Rattle.mon_store.specs.StoreView.{StoreView}
use Rattle.mon_tx.specs.Map.{Store, apply}
use Rattle.mon_tx.specs.declared.op.Op.{Op}
use Rattle.mon_types.specs.Faults.{risen}
use Rattle.mon_types.specs.Sides.{other as other_side}
use Rattle.mon_node.specs.declared.end.NodeEnd.TheVariants as end
use Rattle.mon_node.specs.declared.end.NodeEnd.{NodeEnd}

-- where a store is after a transaction was applied: an empty transaction has no record
abbrev pub changed : List Op → StoreView → StoreView
changed ops s = record { side = s.side; journal = journal_after s.journal ops; kv = apply ops s.kv }

-- where a store is after the checkpoint that is due, if one is
abbrev pub renewed : StoreView → StoreView
renewed s = if is_due s.journal s.kv
    then (record { side = other_side s.side; journal = next_journal s.journal s.kv; kv = s.kv }) else s

-- A transaction is kept: its changes are made, and then the checkpoint that is due, if one is.
abbrev pub kept : List Op → StoreView → StoreView
kept ops s = renewed (changed ops s)

-- The map in memory after a transaction: it has the changes; or it would be too large; or a disk failed, or memory ran
-- out.
abbrev pub Keeps : {T : Type 0} → List Op → (old new : Store) → Result T NodeEnd → Type 0
Keeps ops old new (Ok x) = (size_of (apply ops old) ≤ most_size) × (new ≡ apply ops old)
Keeps ops old new (Err (end.Full would_be)) = (most_size < size_of (apply ops old)) ×
    (would_be ≡ size_of (apply ops old))
Keeps ops old new (Err end.DiskFault) = size_of (apply ops old) ≤ most_size
Keeps ops old new (Err end.OutOfMemory) = Unit {0}
Keeps ops old new (Err other) = ⊥

-- a disk's fault, or out of memory
abbrev pub IsOfDisk : NodeEnd → Type 0
IsOfDisk end.DiskFault = Unit {0}
IsOfDisk end.OutOfMemory = Unit {0}
IsOfDisk other = ⊥

-- if the end is a disk's fault, one of the two disks counts it; otherwise neither counts anything
abbrev pub DisksCountAt : NodeEnd → (old_a old_b new_a new_b : ℕ) → Type 0
DisksCountAt end.DiskFault old_a old_b new_a new_b =
    ((new_a ≡ risen old_a) × (new_b ≡ old_b)) ⊎ ((new_a ≡ old_a) × (new_b ≡ risen old_b))
DisksCountAt other old_a old_b new_a new_b = (new_a ≡ old_a) × (new_b ≡ old_b)

abbrev pub DisksCount : {T : Type 0} → Result T NodeEnd → (old_a old_b new_a new_b : ℕ) → Type 0
DisksCount (Ok x) old_a old_b new_a new_b = (new_a ≡ old_a) × (new_b ≡ old_b)
DisksCount (Err e) old_a old_b new_a new_b = DisksCountAt e old_a old_b new_a new_b
