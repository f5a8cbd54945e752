-- How the ends of the parts are those of a command.
use Rattle.std.proofs.Common.{◌≡◌, List, ℕ, Err, inl, inr, refl, sym, subst}
use Rattle.mon_disk.specs.Calls.{DiskState}
use Rattle.mon_disk.specs.declared.node.NodeDisks.{NodeDisks}
use Rattle.mon_link.specs.Whole.{AppendsPrefix, ConsumesPrefix}
use Rattle.mon_scrub.specs.Text.{compared}
use Rattle.mon_store.specs.declared.stop.OpenStop.{OpenStop}
use Rattle.mon_store.specs.declared.stop.OpenStop.TheVariants as open_stop
use Rattle.mon_types.specs.Faults.{Rose}
use Rattle.mon_types.specs.declared.member.Member.{Member}
use Rattle.mon_types.specs.declared.names.Stop.{Stop}
use Rattle.mon_types.specs.declared.names.Stop.TheVariants as outside
use Rattle.store_tool.specs.declared.importing.ImportEnd.{ImportEnd}
use Rattle.store_tool.specs.declared.importing.ImportEnd.TheVariants as import
use Rattle.stopped_stores.specs.Ends.{end_of_import, end_of_opening, end_of_reading, end_of_writing}
use Rattle.stopped_stores.specs.Importing.{ImportsExport, ReadsMap, ReadThenImports}
use Rattle.stopped_stores.specs.Opening.{Opened}
use Rattle.stopped_stores.specs.Reading.{Compares, ReadReports}
use Rattle.stopped_stores.specs.Texts.{OpensNothing, Stream, WritesAll, WritesText, text_of}
use Rattle.stopped_stores.specs.declared.end.ToolEnd.{ToolEnd}
use Rattle.stopped_stores.specs.declared.end.ToolEnd.TheVariants as end
use Rattle.stopped_stores.specs.declared.writing.StoreText.{StoreText}

-- ---- texts

module _ {D : Type 0} (state : D → DiskState) (member : Member) (old new : NodeDisks D) (before after : Stream) (what : StoreText) where
  refused : (why : OpenStop) → OpensNothing state member old new before after why → WritesText state member old new before after what (end_of_opening why)
  refused open_stop.DiskFault h = h
  refused (open_stop.NotAStore disk at) h = h
  refused (open_stop.Stranger kept asked) h = h
  refused open_stop.OutOfMemory h = inl h

  pub ends_refused : (why : OpenStop) (e : ToolEnd) → e ≡ end_of_opening why → OpensNothing state member old new before after why → WritesText state member old new before after what e
  ends_refused why e is h = subst (WritesText state member old new before after what) (sym is) (refused why h)

  pub ends_written : (e : ToolEnd) → Opened state member old new (λ m. WritesAll (text_of what member m) before after e) → WritesText state member old new before after what e
  ends_written end.Done h = record { store_view = h.store_view; opens = h.opens; holds = h.holds }
  ends_written end.WriteFault h = let wrote = h.holds in (wrote.0, record { store_view = h.store_view; opens = h.opens; holds = wrote.1 })
  ends_written end.OutOfMemory h = inr (record { store_view = h.store_view; opens = h.opens; holds = h.holds })
  ends_written end.ReadFault h = absurd h.holds
  ends_written end.DiskFault h = absurd h.holds
  ends_written (end.NotAStore disk at) h = absurd h.holds
  ends_written (end.Stranger kept asked) h = absurd h.holds
  ends_written (end.Full would_be) h = absurd h.holds
  ends_written (end.Report line) h = absurd h.holds
  ends_written (end.NotEmpty disk) h = absurd h.holds
  ends_written (end.Export at) h = absurd h.holds

-- a write stopped
pub stopped_writing : (s : Stop) (text : List ℕ) (before after : Stream) → AppendsPrefix before.bytes after.bytes text → (s ≡ outside.Failed → Rose before.faults after.faults)
    → WritesAll text before after (end_of_writing s)
stopped_writing outside.Failed text before after part failed = (failed refl, part)
stopped_writing outside.OutOfMemory text before after part failed = part

-- ---- comparisons

-- reading stopped
pub stopped_reading : (s : Stop) (before after old : Stream) → ConsumesPrefix 4097 before.bytes after.bytes → (s ≡ outside.Failed → Rose before.faults after.faults)
    → Compares before after old old (end_of_reading s)
stopped_reading outside.Failed before after old part failed = (failed refl, part, refl)
stopped_reading outside.OutOfMemory before after old part failed = inl (part, refl)

-- the reports were read, and the comparison was written so
pub ends_compared : (before after old new : Stream) (e : ToolEnd) → ReadReports before after (λ a b. WritesAll (compared a b) old new e) → Compares before after old new e
ends_compared before after old new end.Done h = h
ends_compared before after old new end.WriteFault h =
    let r = h.1.3 in
    let wrote = r.holds in
    (wrote.0, (h.0, (h.1.0, h.1.1, h.1.2, record { a = r.a; b = r.b; are = r.are; holds = wrote.1 })))
ends_compared before after old new end.OutOfMemory h = inr h
ends_compared before after old new end.ReadFault h = absurd h.1.3.holds
ends_compared before after old new end.DiskFault h = absurd h.1.3.holds
ends_compared before after old new (end.NotAStore disk at) h = absurd h.1.3.holds
ends_compared before after old new (end.Stranger kept asked) h = absurd h.1.3.holds
ends_compared before after old new (end.Full would_be) h = absurd h.1.3.holds
ends_compared before after old new (end.Report line) h = absurd h.1.3.holds
ends_compared before after old new (end.NotEmpty disk) h = absurd h.1.3.holds
ends_compared before after old new (end.Export at) h = absurd h.1.3.holds

-- ---- imports

-- reading stopped
pub map_unread : (s : Stop) (member : Member) (before after : Stream) → ConsumesPrefix 268435472 before.bytes after.bytes → (s ≡ outside.Failed → Rose before.faults after.faults)
    → ReadsMap member before after (Err (end_of_reading s))
map_unread outside.Failed member before after part failed = (failed refl, part)
map_unread outside.OutOfMemory member before after part failed = part

module _ {D : Type 0} (state : D → DiskState) (member : Member) (old new : NodeDisks D) (before after : Stream) where
  imported : (e : ImportEnd) → ReadThenImports state member old new before after e → ImportsExport state member old new before after (end_of_import e)
  imported import.Done h = h
  imported (import.NotEmpty disk) h = h
  imported import.DiskFault h = h
  imported import.OutOfMemory h = inr h

  pub ends_imported : (e : ImportEnd) (t : ToolEnd) → t ≡ end_of_import e → ReadThenImports state member old new before after e → ImportsExport state member old new before after t
  ends_imported e t is h = subst (ImportsExport state member old new before after) (sym is) (imported e h)

  -- no map was read
  pub ends_unread : (e : ToolEnd) → ReadsMap member before after (Err e) → new ≡ old → ImportsExport state member old new before after e
  ends_unread end.ReadFault h same = (h, same)
  ends_unread (end.Export at) h same = (h, same)
  ends_unread (end.Full would_be) h same = (h, same)
  ends_unread (end.Stranger kept asked) h same = (h, same)
  ends_unread end.OutOfMemory h same = inl (h, same)
  ends_unread end.Done h same = absurd h
  ends_unread end.WriteFault h same = absurd h
  ends_unread end.DiskFault h same = absurd h
  ends_unread (end.NotAStore disk at) h same = absurd h
  ends_unread (end.Report line) h same = absurd h
  ends_unread (end.NotEmpty disk) h same = absurd h
