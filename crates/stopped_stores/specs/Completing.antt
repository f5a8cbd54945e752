-- Which end is returned if nothing fails.
use Rattle.std.specs.Prelude.{◌≡◌, ℕ, List, Some, None, Ok, Err}
use Rattle.mon_disk.specs.Calls.{DiskState}
use Rattle.mon_disk.specs.declared.node.NodeDisks.{NodeDisks}
use Rattle.mon_journal.specs.Written.{owner_of}
use Rattle.mon_scrub.specs.Reading.{reports_at}
use Rattle.mon_scrub.specs.declared.refusal.ReportRefused.TheVariants as report
use Rattle.mon_scrub.specs.Text.{Fields}
use Rattle.mon_store.specs.Pair.{NotAStore, Refusal, Stranger}
use Rattle.mon_store.specs.StoreView.{StoreView, opens_as}
use Rattle.mon_tx.specs.Map.{Store}
use Rattle.mon_types.specs.Faults.{Rose}
use Rattle.mon_types.specs.declared.member.Member.{Member}
use Rattle.mon_types.specs.declared.names.Side.{Side}
use Rattle.store_tool.specs.Export.{export_of}
use Rattle.store_tool.specs.Import.{filled}
use Rattle.store_tool.specs.declared.refusal.ExportRefused.TheVariants as export
use Rattle.stopped_stores.specs.Importing.{IsExport}
use Rattle.stopped_stores.specs.Texts.{Stream}
use Rattle.stopped_stores.specs.declared.end.ToolEnd.{ToolEnd}
use Rattle.stopped_stores.specs.declared.end.ToolEnd.TheVariants as end

module _ {D : Type 0} (state : D → DiskState) where
  -- no fault of a disk was counted
  pub record NoneFailed (old new : NodeDisks D) : Type 0 where
    pub a : ¬ (Rose (state old.a).faults (state new.a).faults)
    pub b : ¬ (Rose (state old.b).faults (state new.b).faults)

  -- the disks report these bytes
  pub record Hold (disks : NodeDisks D) (a b : List ℕ) : Type 0 where
    pub on_a : (state disks.a).content.seen ≡ Some a
    pub on_b : (state disks.b).content.seen ≡ Some b

-- no fault of a source or a sink was counted
abbrev pub Unfailed : Stream → Stream → Type 0
Unfailed before after = ¬ (Rose before.faults after.faults)

-- the end is `wanted`, unless memory ran out
abbrev pub IsEnd : ToolEnd → ToolEnd → Type 0
IsEnd wanted end.OutOfMemory = Unit {0}
IsEnd wanted e = e ≡ wanted

-- the end says why no store is opened, unless memory ran out
abbrev pub IsRefusal : Refusal → ToolEnd → Type 0
IsRefusal refusal end.OutOfMemory = Unit {0}
IsRefusal refusal (end.NotAStore disk at) = refusal ≡ NotAStore disk at
IsRefusal refusal (end.Stranger kept asked) = refusal ≡ Stranger (owner_of kept) (owner_of asked)
IsRefusal refusal other = ⊥

-- the end names the other member, unless memory ran out
abbrev pub NamesOther : (kept asked : Member) → ToolEnd → Type 0
NamesOther kept asked end.OutOfMemory = Unit {0}
NamesOther kept asked (end.Stranger other member) = (owner_of other ≡ owner_of kept) × (member ≡ asked)
NamesOther kept asked other = ⊥

-- If the disks represent the member's store, or one is created on them, the text is written. Otherwise the end says why
-- not.
pub record TextCompletes (member : Member) (a b : List ℕ) (e : ToolEnd) : Type 0 where
  pub stands : (store_view : StoreView) → opens_as member a b ≡ Ok store_view → IsEnd end.Done e
  pub refused : (refusal : Refusal) → opens_as member a b ≡ Err refusal → IsRefusal refusal e

-- Two reports are compared. For other bytes of any length the end has the line at fault.
pub record ComparisonCompletes (bytes : List ℕ) (e : ToolEnd) : Type 0 where
  pub compared : (x : Fields × Fields) → reports_at bytes ≡ Ok x → IsEnd end.Done e
  pub refused : (line : ℕ) → reports_at bytes ≡ Err (report.Report line) → IsEnd (end.Report line) e

-- The member's export is imported on empty disks. For other bytes of any length the end has the place at fault. For an
-- export it has the size of a map that is too large, or the other member whose export it is, or the first disk that
-- isn't empty.
pub record ImportCompletes (member : Member) (bytes a b : List ℕ) (e : ToolEnd) : Type 0 where
  pub refused : (at : ℕ) → export_of bytes ≡ Err (export.At at) → IsEnd (end.Export at) e
  pub too_large : (would_be : ℕ) → export_of bytes ≡ Err (export.Full would_be) → IsEnd (end.Full would_be) e
  pub stranger : (kept : Member) (m : Store) → IsExport kept m bytes → ¬ (owner_of kept ≡ owner_of member) → NamesOther kept member e
  pub filled_disk : (m : Store) (disk : Side) → IsExport member m bytes → filled a b ≡ Some disk → IsEnd (end.NotEmpty disk) e
  pub imported : (m : Store) → IsExport member m bytes → filled a b ≡ None → IsEnd end.Done e
