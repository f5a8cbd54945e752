-- The texts that are written of a store's map.
use Rattle.std.specs.Prelude.{◌≡◌, ◌⊎◌, ℕ, List, Option, Err}
use Rattle.std.specs.Io.KnownBytes.{Appends}
use Rattle.mon_disk.specs.Calls.{DiskState}
use Rattle.mon_disk.specs.declared.node.NodeDisks.{NodeDisks}
use Rattle.mon_journal.specs.Written.{owner_of}
use Rattle.mon_link.specs.Whole.{AppendsPrefix}
use Rattle.mon_scrub.specs.Parts.{report_of}
use Rattle.mon_scrub.specs.Text.{report_text}
use Rattle.mon_store.specs.declared.stop.OpenStop.{OpenStop}
use Rattle.mon_store.specs.declared.stop.OpenStop.TheVariants as open_stop
use Rattle.mon_tx.specs.Map.{Store}
use Rattle.mon_types.specs.Faults.{Rose}
use Rattle.mon_types.specs.declared.member.Member.{Member}
use Rattle.store_tool.specs.Dump.{keys_text, paxos_text}
use Rattle.store_tool.specs.Export.{export_text}
use Rattle.stopped_stores.specs.Opening.{Opened, Opens}
use Rattle.stopped_stores.specs.declared.end.ToolEnd.{ToolEnd}
use Rattle.stopped_stores.specs.declared.end.ToolEnd.TheVariants as end
use Rattle.stopped_stores.specs.declared.writing.StoreText.{StoreText}
use Rattle.stopped_stores.specs.declared.writing.StoreText.TheVariants as text

-- A source or a sink: the bytes that the source has left, or that the sink holds, if it reports them; and its count of faults.
pub record Stream : Type 0 where
  pub bytes : Option (List ℕ)
  pub faults : ℕ

-- what is written of a member's map
abbrev pub text_of : StoreText → Member → Store → List ℕ
text_of text.Report member m = report_text (report_of member m)
text_of text.Keys member m = keys_text m
text_of (text.Versions from to) member m = paxos_text m from to
text_of text.Export member m = export_text (owner_of member) m

-- A text was written to the sink; or a prefix of it, as writing failed or memory ran out.
abbrev pub WritesAll : List ℕ → Stream → Stream → ToolEnd → Type 0
WritesAll text before after end.Done = Appends before.bytes after.bytes text
WritesAll text before after end.WriteFault = Rose before.faults after.faults × AppendsPrefix before.bytes after.bytes text
WritesAll text before after end.OutOfMemory = AppendsPrefix before.bytes after.bytes text
WritesAll text before after other = ⊥

module _ {D : Type 0} (state : D → DiskState) (member : Member) (old new : NodeDisks D) (before after : Stream) where
  -- no store was opened, for this reason, and nothing was written
  abbrev pub OpensNothing : OpenStop → Type 0
  OpensNothing why = Opens state member old new (Err why) × (after ≡ before)

  -- The cause of each end. The whole text of the opened store's map was written to the sink; or a prefix of it, since
  -- writing failed or memory ran out; or no store was opened.
  abbrev pub WritesText : StoreText → ToolEnd → Type 0
  WritesText what end.Done = Opened state member old new (λ m. Appends before.bytes after.bytes (text_of what member m))
  WritesText what end.WriteFault =
      Rose before.faults after.faults × Opened state member old new (λ m. AppendsPrefix before.bytes after.bytes (text_of what member m))
  WritesText what end.DiskFault = OpensNothing open_stop.DiskFault
  WritesText what (end.NotAStore disk at) = OpensNothing (open_stop.NotAStore disk at)
  WritesText what (end.Stranger kept asked) = OpensNothing (open_stop.Stranger kept asked)
  WritesText what end.OutOfMemory =
      OpensNothing open_stop.OutOfMemory ⊎ Opened state member old new (λ m. AppendsPrefix before.bytes after.bytes (text_of what member m))
  WritesText what other = ⊥
