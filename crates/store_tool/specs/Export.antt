-- An export: a member and its map, as bytes.
use Rattle.std.specs.Prelude.{ℕ, ◌≤◌, ◌<◌, ◌++◌, ◌∷◌, Bool, true, false, List, length, Result, Ok, Err, nat_lt, if◌then◌else◌, codes}
use Rattle.std.specs.Str.{bytes_eq}
use Rattle.mon_bytes.specs.declared.command.MapRefused.{MapRefused}
use Rattle.mon_bytes.specs.declared.command.MapRefused.TheVariants as map
use Rattle.mon_bytes.specs.Reading.{Reading, next_bytes}
use Rattle.mon_bytes.specs.Forms.{◌>>=◌, fitted}
use Rattle.mon_bytes.specs.Answers as answers
use Rattle.mon_tx.specs.Map.{Store}
use Rattle.mon_kv.specs.Readers.{size_of, most_size}
use Rattle.mon_journal.specs.Fields.{Owner, owner_at}
use Rattle.mon_journal.specs.declared.stop.JournalStop.{JournalStop}
use Rattle.mon_journal.specs.declared.stop.JournalStop.TheVariants as journal
use Rattle.mon_store.specs.Checkpoint.{checkpoint_text, HasCheckpoint}
use Rattle.mon_store.specs.Decode.{checkpoint_of}
use Rattle.store_tool.specs.declared.refusal.ExportRefused.{ExportRefused}
use Rattle.store_tool.specs.declared.refusal.ExportRefused.TheVariants.{At, Full, OutOfMemory}
use Rattle.store_tool.specs.declared.exporting.TheConstants.{MOST_EXPORT}

abbrev pub export_word : List ℕ
export_word = codes "CEPHEXP1"

-- the eight bytes, the rank, the number of monitors, and a checkpoint up to the end
abbrev pub export_text : Owner → Store → List ℕ
export_text owner m = export_word ++ owner.rank ∷ owner.monitors ∷ checkpoint_text m

-- A rank below a number of monitors of at most 15, and a map that has a checkpoint and is no larger than a store's map may be.
pub record HasExport (owner : Owner) (m : Store) : Type 0 where
  pub below : owner.rank < owner.monitors
  pub most_monitors : owner.monitors ≤ 15
  pub form : HasCheckpoint m
  pub size : size_of m ≤ most_size

-- ---- reading, from left to right, which names the first place of the first field at fault

unfoldable pub word_at : Reading → Result (List ℕ × Reading) MapRefused
word_at c = do
  word ← fitted (next_bytes 8 c)
  if bytes_eq word.0 export_word then Ok word else Err (map.Form c.at)

-- The rank and the number of monitors are read as in the header of a store's file, with their fault at its place. Their
-- reader never returns DiskFault.
abbrev pub form_of : JournalStop → MapRefused
form_of (journal.NotAStore at) = map.Form at
form_of journal.DiskFault = map.OutOfMemory
form_of journal.OutOfMemory = map.OutOfMemory

abbrev pub formed : {A : Type 0} → Result A JournalStop → Result A MapRefused
formed (Ok x) = Ok x
formed (Err e) = Err (form_of e)

unfoldable pub fields_of : Reading → Result (Owner × Store) MapRefused
fields_of c = do
  word ← word_at c
  owner ← formed (owner_at word.1)
  m ← checkpoint_of owner.1
  Ok (owner.0, m)

-- The map must be small enough for a store; a checkpoint's fault keeps its place.
abbrev pub judged : Result (Owner × Store) MapRefused → Result (Owner × Store) ExportRefused
judged (Ok x) = if nat_lt most_size (size_of x.1) then Err (Full (size_of x.1)) else Ok x
judged (Err (map.Form at)) = Err (At at)
judged (Err map.OutOfMemory) = Err OutOfMemory

-- What the bytes encode, or the first fault. The length is tested first.
unfoldable pub export_of : List ℕ → Result (Owner × Store) ExportRefused
export_of bytes = if nat_lt MOST_EXPORT (length bytes) then Err (At MOST_EXPORT) else judged (fields_of (record { at = 0; rest = bytes }))

-- ---- what a call returned is what reading gives, unless memory ran out

abbrev pub no_memory : ExportRefused → Bool
no_memory (At at) = false
no_memory (Full would_be) = false
no_memory OutOfMemory = true

abbrev pub Gives : {X Y : Type 0} → (X → Y) → Result X ExportRefused → Result Y ExportRefused → Type 0
Gives view result read = answers.Gives no_memory view result read
