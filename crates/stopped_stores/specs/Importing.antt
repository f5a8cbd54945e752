-- Making a store of the export that a source has.
use Rattle.std.specs.Prelude.{◌≡◌, ◌⊎◌, ℕ, List, Result, Ok, Err, IfSome}
use Rattle.mon_disk.specs.Calls.{DiskState}
use Rattle.mon_disk.specs.declared.node.NodeDisks.{NodeDisks}
use Rattle.mon_journal.specs.Written.{owner_of}
use Rattle.mon_link.specs.Whole.{ConsumesPrefix}
use Rattle.mon_store.specs.Times.{EachPair}
use Rattle.mon_store.specs.Opening.{BothCount}
use Rattle.mon_store.specs.Pair.{stands}
use Rattle.mon_tx.specs.Map.{Store}
use Rattle.mon_types.specs.Faults.{Rose}
use Rattle.mon_types.specs.declared.member.Member.{Member}
use Rattle.mon_types.specs.declared.names.Side.{Side}
use Rattle.store_tool.specs.Export.{HasExport, export_of, export_text}
use Rattle.store_tool.specs.Import.{Answers, IfWritten, KeepThenMake, MakesObserved, WhileImporting, Whole, import_calls, stop_in}
use Rattle.store_tool.specs.declared.importing.ImportEnd.{ImportEnd}
use Rattle.store_tool.specs.declared.importing.ImportEnd.TheVariants as import
use Rattle.store_tool.specs.declared.refusal.ExportRefused.TheVariants as refused
use Rattle.stopped_stores.specs.Reading.{OfRead, ReadAll}
use Rattle.stopped_stores.specs.Texts.{Stream}
use Rattle.stopped_stores.specs.declared.importing.TheConstants.{MOST_EXPORT_READ}
use Rattle.stopped_stores.specs.declared.end.ToolEnd.{ToolEnd}
use Rattle.stopped_stores.specs.declared.end.ToolEnd.TheVariants as end

-- the bytes are the export of a member's map
pub record IsExport (member : Member) (m : Store) (bytes : List ℕ) : Type 0 where
  pub form : HasExport (owner_of member) m
  pub text : bytes ≡ export_text (owner_of member) m

-- the bytes are an export of the member, with any map
pub record IsExportOf (member : Member) (bytes : List ℕ) : Type 0 where
  pub map : Store
  pub export : IsExport member map bytes

-- Reading a member's export returns its map, or the end for which there is none.
abbrev pub ReadsMap : Member → Stream → Stream → Result Store ToolEnd → Type 0
ReadsMap member before after (Ok m) = ReadAll MOST_EXPORT_READ before after (IsExport member m)
ReadsMap member before after (Err end.ReadFault) = Rose before.faults after.faults × ConsumesPrefix MOST_EXPORT_READ before.bytes after.bytes
ReadsMap member before after (Err (end.Export at)) = OfRead MOST_EXPORT_READ before after (λ bytes. export_of bytes ≡ Err (refused.At at))
ReadsMap member before after (Err (end.Full would_be)) = OfRead MOST_EXPORT_READ before after (λ bytes. export_of bytes ≡ Err (refused.Full would_be))
ReadsMap member before after (Err (end.Stranger kept asked)) =
    (asked ≡ member) × ¬ (owner_of kept ≡ owner_of member) × ReadAll MOST_EXPORT_READ before after (IsExportOf kept)
ReadsMap member before after (Err end.OutOfMemory) = ConsumesPrefix MOST_EXPORT_READ before.bytes after.bytes
ReadsMap member before after (Err other) = ⊥

module _ {D : Type 0} (state : D → DiskState) (member : Member) (old new : NodeDisks D) where
  -- An import of a member's map ended with `e`. Done is returned only if both disks were empty. A crash leaves what the
  -- disks held, two closed files, or the whole map. After Done it leaves the map.
  pub record Imports (m : Store) (e : ImportEnd) : Type 0 where
    pub answer : IfSome (state old.a).content.seen (λ a. IfSome (state old.b).content.seen (λ b. Answers a b e))
    pub any_time : WhileImporting member m (state old.a).content (state old.b).content (state new.a).content (state new.b).content
    pub written : IfWritten (state old.a).observed (state new.a).observed
        (KeepThenMake member m (state old.a).content (state old.b).content (state new.a).content (state new.b).content)
    pub untouched : (disk : Side) → e ≡ import.NotEmpty disk
        → ((state new.a).content.seen ≡ (state old.a).content.seen) × ((state new.b).content.seen ≡ (state old.b).content.seen)
    pub safe : e ≡ import.Done → EachPair (state new.a).content (state new.b).content (Whole member m)
    pub map : e ≡ import.Done → EachPair (state new.a).content (state new.b).content (λ c d. stands c d ≡ Ok m)
    pub calls : IfSome (state old.a).content.seen (λ a. IfSome (state old.b).content.seen
        (λ b. MakesObserved (import_calls (owner_of member) m a b) (state old.a).observed (state old.b).observed (state new.a).observed (state new.b).observed
        (stop_in e)))
    pub counts : BothCount (stop_in e) (state old.a) (state old.b) (state new.a) (state new.b)

  -- the bytes are the member's export, and importing its map ended so
  pub record IsImported (e : ImportEnd) (bytes : List ℕ) : Type 0 where
    pub map : Store
    pub export : IsExport member map bytes
    pub imports : Imports map e

  -- the member's export was read, and importing its map ended so
  abbrev pub ReadThenImports : Stream → Stream → ImportEnd → Type 0
  ReadThenImports before after e = ReadAll MOST_EXPORT_READ before after (IsImported e)

  -- The cause of each end: an import of the map that was read; or a failure to read a map, after which the disks are
  -- unchanged.
  abbrev pub ImportsExport : Stream → Stream → ToolEnd → Type 0
  ImportsExport before after end.Done = ReadThenImports before after import.Done
  ImportsExport before after (end.NotEmpty disk) = ReadThenImports before after (import.NotEmpty disk)
  ImportsExport before after end.DiskFault = ReadThenImports before after import.DiskFault
  ImportsExport before after end.OutOfMemory =
      (ReadsMap member before after (Err end.OutOfMemory) × (new ≡ old)) ⊎ ReadThenImports before after import.OutOfMemory
  ImportsExport before after other = ReadsMap member before after (Err other) × (new ≡ old)
