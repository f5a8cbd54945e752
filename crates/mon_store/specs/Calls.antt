-- Which writes and syncs a store's call makes.
use Rattle.std.specs.Prelude.{ℕ, ◌+◌, List, [], ◌∷◌, Option, Some, None, Result, Ok, Err, if◌then◌else◌}
use Rattle.mon_types.specs.declared.names.Stop.{Stop}
use Rattle.mon_types.specs.declared.names.Stop.TheVariants as stop
use Rattle.mon_disk.specs.declared.disk.DiskCall.{DiskCall}
use Rattle.mon_tx.specs.declared.op.Op.{Op}
use Rattle.mon_tx.specs.Map.{Store}
use Rattle.mon_tx.specs.Text.{text}
use Rattle.mon_journal.specs.declared.stop.JournalStop.TheVariants as journal
use Rattle.mon_journal.specs.declared.journal.Journal.{Journal}
use Rattle.mon_journal.specs.Content.{appended}
use Rattle.mon_journal.specs.Written.{owner_of}
use Rattle.mon_journal.specs.Steps.{append_calls, create_calls}
use Rattle.mon_store.specs.declared.stop.StoreStop.{StoreStop}
use Rattle.mon_store.specs.declared.stop.StoreStop.TheVariants.{Broken, TooLong, Full, DiskFault, OutOfMemory}
use Rattle.mon_store.specs.Checkpoint.{checkpoint_text}
use Rattle.mon_store.specs.Sound.{is_due}

-- the store's stop for a journal's; the calls that write never return NotAStore
abbrev pub stop_of : Rattle.mon_journal.specs.declared.stop.JournalStop.JournalStop → StoreStop
stop_of journal.DiskFault = DiskFault
stop_of (journal.NotAStore at) = DiskFault
stop_of journal.OutOfMemory = OutOfMemory

-- the disk's stop in a store's call: none if the call succeeded, or was refused before its calls on the disk
abbrev pub stop_in : {T : Type 0} → Result T StoreStop → Option Stop
stop_in (Ok x) = None
stop_in (Err DiskFault) = Some stop.Failed
stop_in (Err OutOfMemory) = Some stop.OutOfMemory
stop_in (Err Broken) = None
stop_in (Err (TooLong len)) = None
stop_in (Err (Full would_be)) = None

-- the calls on a disk: none, if the store refused before them
abbrev pub unless_early : {T : Type 0} → Result T StoreStop → List DiskCall → List DiskCall
unless_early (Ok x) calls = calls
unless_early (Err DiskFault) calls = calls
unless_early (Err OutOfMemory) calls = calls
unless_early (Err Broken) calls = []
unless_early (Err (TooLong len)) calls = []
unless_early (Err (Full would_be)) calls = []

-- an empty transaction makes none
abbrev pub apply_calls : ℕ → List Op → List DiskCall
apply_calls gate [] = []
apply_calls gate (op ∷ ops) = append_calls gate (text (op ∷ ops))

-- the journal after a transaction: an empty one leaves it
abbrev pub journal_after : Journal → List Op → Journal
journal_after journal [] = journal
journal_after journal (op ∷ ops) = appended journal (text (op ∷ ops))

-- the store's stop for a transaction that has no encoding
abbrev pub encoding_stop : Rattle.mon_tx.specs.declared.encode.EncodeRefused.EncodeRefused → StoreStop
encoding_stop (Rattle.mon_tx.specs.declared.encode.EncodeRefused.TheVariants.TooLong len) = TooLong len
encoding_stop Rattle.mon_tx.specs.declared.encode.EncodeRefused.TheVariants.OutOfMemory = OutOfMemory

-- a checkpoint on the other disk, if one is due
abbrev pub restart_calls : Journal → Store → List DiskCall
restart_calls journal m = if is_due journal m then create_calls (owner_of journal.member) (journal.generation + 1) (Some (checkpoint_text m)) else []
