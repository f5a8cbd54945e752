-- If nothing fails, what is on the disks and in the source decides the end.
use Rattle.std.proofs.Common.{◌≡◌, ◌⊎◌, ℕ, ◌+◌, ◌≤◌, List, ◌++◌, length, Option, Some, None, Result, Ok, Err, refl, sym, ap, subst, ◌∙◌, arith, inl, inr, length-append}
use Rattle.std.proofs.lemmas.Bool.{lt-ltb}
use Rattle.std.proofs.lemmas.List.{append-nil}
use Rattle.std.specs.Prelude.{IfSome}
use Rattle.mon_bytes.proofs.Fields.{ok_is}
use Rattle.mon_disk.specs.Calls.{DiskState}
use Rattle.mon_disk.specs.declared.node.NodeDisks.{NodeDisks}
use Rattle.mon_journal.specs.Fields.{Owner}
use Rattle.mon_journal.specs.Written.{owner_of}
use Rattle.mon_link.specs.Whole.{ReadsWhole}
use Rattle.mon_scrub.specs.Reading.{reports_at}
use Rattle.mon_scrub.specs.Text.{Fields, fields_of}
use Rattle.mon_scrub.specs.declared.refusal.ReportRefused.TheVariants as report
use Rattle.mon_scrub.specs.declared.report.Report.{Report}
use Rattle.mon_store.specs.Opening.{Answers, BothCount}
use Rattle.mon_store.specs.Pair.{Refusal}
use Rattle.mon_store.specs.StoreView.{StoreView, opens_as}
use Rattle.mon_store.specs.declared.stop.OpenStop.{OpenStop}
use Rattle.mon_store.specs.declared.stop.OpenStop.TheVariants as open_stop
use Rattle.mon_tx.specs.Map.{Store}
use Rattle.mon_types.specs.Faults.{Rose, risen}
use Rattle.mon_types.specs.declared.member.Member.{Member}
use Rattle.mon_types.specs.declared.names.Side.{Side}
use Rattle.mon_types.specs.declared.names.Stop.TheVariants as outside
use Rattle.store_tool.specs.Export.{export_of}
use Rattle.store_tool.specs.Import.{filled}
use Rattle.store_tool.specs.Import as import_specs
use Rattle.store_tool.specs.declared.importing.ImportEnd.{ImportEnd}
use Rattle.store_tool.specs.declared.importing.ImportEnd.TheVariants as import
use Rattle.store_tool.specs.declared.refusal.ExportRefused.{ExportRefused}
use Rattle.store_tool.specs.declared.refusal.ExportRefused.TheVariants as export
use Rattle.store_tool.proofs.Exports.{export_again}
use Rattle.stopped_stores.specs.Completing.{ComparisonCompletes, Hold, ImportCompletes, IsEnd, IsRefusal, NamesOther, NoneFailed, TextCompletes, Unfailed}
use Rattle.stopped_stores.specs.Importing.{ImportsExport, IsExport, ReadThenImports}
use Rattle.stopped_stores.specs.Opening.{Opened, Opens}
use Rattle.stopped_stores.specs.Reading.{Compares, ReadReports}
use Rattle.stopped_stores.specs.Texts.{Stream, WritesText}
use Rattle.stopped_stores.specs.declared.end.ToolEnd.{ToolEnd}
use Rattle.stopped_stores.specs.declared.end.ToolEnd.TheVariants as end
use Rattle.stopped_stores.specs.declared.writing.StoreText.{StoreText}

-- ---- disks

pub none_rose : (old new : ℕ) → ¬ (Rose old new) → new ≡ risen old → ⊥
none_rose old new none is = none (omega arith)

none_counted : {D : Type 0} (state : D → DiskState) (old new : NodeDisks D) → NoneFailed state old new → BothCount (Some outside.Failed) (state old.a) (state old.b) (state new.a) (state new.b) → ⊥
none_counted state old new calm counts = elim counts [
  | inl c ↦ none_rose _ _ calm.a c.0.0
  | inr c ↦ none_rose _ _ calm.b c.1.0
]

-- what is said of two disks that report these bytes
held : {D : Type 0} (state : D → DiskState) (disks : NodeDisks D) (a b : List ℕ) (fact : List ℕ → List ℕ → Type 0) → Hold state disks a b
    → IfSome (state disks.a).content.seen (λ x. IfSome (state disks.b).content.seen (λ y. fact x y)) → fact a b
held state disks a b fact h said =
    subst (λ (seen : Option (List ℕ)). IfSome seen (λ y. fact a y)) h.on_b
    (subst (λ (seen : Option (List ℕ)). IfSome seen (λ x. IfSome (state disks.b).content.seen (λ y. fact x y))) h.on_a said)

-- ---- texts

module _ {D : Type 0} (state : D → DiskState) (member : Member) (old new : NodeDisks D) (calm : NoneFailed state old new) (a b : List ℕ) (h : Hold state old a b) where
  opened_as : (r : Result StoreView OpenStop) → Opens state member old new r → Answers member a b r
  opened_as r o = held state old a b (λ x y. Answers member x y r) h o.answer

  not_refused : (store_view : StoreView) (why : OpenStop) → opens_as member a b ≡ Ok store_view → Opens state member old new (Err why) → (why ≡ open_stop.OutOfMemory → ⊥) → ⊥
  not_refused store_view open_stop.DiskFault is o other = none_counted state old new calm o.counts
  not_refused store_view (open_stop.NotAStore disk at) is o other = let read = opened_as (Err (open_stop.NotAStore disk at)) o in absurd cc
  not_refused store_view (open_stop.Stranger kept asked) is o other = let read = opened_as (Err (open_stop.Stranger kept asked)) o in absurd cc
  not_refused store_view open_stop.OutOfMemory is o other = other refl

  not_opened : (refusal : Refusal) (fact : Store → Type 0) → opens_as member a b ≡ Err refusal → Opened state member old new fact → ⊥
  not_opened refusal fact is o = let read = opened_as (Ok o.store_view) o.opens in absurd cc

  text_stands : (what : StoreText) (before after : Stream) (e : ToolEnd) → WritesText state member old new before after what e → Unfailed before after
      → (store_view : StoreView) → opens_as member a b ≡ Ok store_view → IsEnd end.Done e
  text_stands what before after end.Done did quiet store_view is = refl
  text_stands what before after end.OutOfMemory did quiet store_view is = tt
  text_stands what before after end.WriteFault did quiet store_view is = absurd (quiet did.0)
  text_stands what before after end.DiskFault did quiet store_view is = absurd (not_refused store_view open_stop.DiskFault is did.0 (λ e. absurd cc))
  text_stands what before after (end.NotAStore disk at) did quiet store_view is = absurd (not_refused store_view (open_stop.NotAStore disk at) is did.0 (λ e. absurd cc))
  text_stands what before after (end.Stranger kept asked) did quiet store_view is = absurd (not_refused store_view (open_stop.Stranger kept asked) is did.0 (λ e. absurd cc))
  text_stands what before after end.ReadFault did quiet store_view is = absurd did
  text_stands what before after (end.Full would_be) did quiet store_view is = absurd did
  text_stands what before after (end.Report line) did quiet store_view is = absurd did
  text_stands what before after (end.NotEmpty disk) did quiet store_view is = absurd did
  text_stands what before after (end.Export at) did quiet store_view is = absurd did

  text_refused : (what : StoreText) (before after : Stream) (e : ToolEnd) → WritesText state member old new before after what e → Unfailed before after
      → (refusal : Refusal) → opens_as member a b ≡ Err refusal → IsRefusal refusal e
  text_refused what before after end.Done did quiet refusal is = not_opened refusal _ is did
  text_refused what before after end.OutOfMemory did quiet refusal is = tt
  text_refused what before after end.WriteFault did quiet refusal is = absurd (quiet did.0)
  text_refused what before after end.DiskFault did quiet refusal is = none_counted state old new calm did.0.counts
  text_refused what before after (end.NotAStore disk at) did quiet refusal is = let read = opened_as (Err (open_stop.NotAStore disk at)) did.0 in cc
  text_refused what before after (end.Stranger kept asked) did quiet refusal is = let read = opened_as (Err (open_stop.Stranger kept asked)) did.0 in cc
  text_refused what before after end.ReadFault did quiet refusal is = did
  text_refused what before after (end.Full would_be) did quiet refusal is = did
  text_refused what before after (end.Report line) did quiet refusal is = did
  text_refused what before after (end.NotEmpty disk) did quiet refusal is = did
  text_refused what before after (end.Export at) did quiet refusal is = did

pub text_completes : {D : Type 0} (state : D → DiskState) (what : StoreText) (member : Member) (old new : NodeDisks D) (before after : Stream) (e : ToolEnd)
    → WritesText state member old new before after what e → NoneFailed state old new → Unfailed before after → (a b : List ℕ) → Hold state old a b → TextCompletes member a b e
text_completes state what member old new before after e did calm quiet a b h = record {
  stands = text_stands state member old new calm a b h what before after e did quiet;
  refused = text_refused state member old new calm a b h what before after e did quiet;
}

-- ---- what was read

-- all that was there, or the most that is read of more
pub read_of : (most : ℕ) (old new : Option (List ℕ)) (bytes whole : List ℕ) → old ≡ Some whole → ReadsWhole most old new bytes
    → (bytes ≡ whole) ⊎ ((length bytes ≡ most) × (most ≤ length whole))
read_of most None new bytes whole is read = absurd cc
read_of most (Some xs) None bytes whole is read = absurd read
read_of most (Some xs) (Some ys) bytes whole is read =
    let same : xs ≡ whole = cc in
    elim read.1 [
      | inl none ↦ inl (sym (append-nil bytes) ∙ ap (λ (l : List ℕ). bytes ++ l) (sym none) ∙ sym read.0 ∙ same)
      | inr long ↦
          let there : length whole ≡ length bytes + length ys = ap length (sym same ∙ read.0) ∙ length-append bytes ys in
          inr (long, omega arith)
    ]

-- what was read is judged as all that was there, if more than the most is
same_judged : {X : Type 0} (judge : List ℕ → X) (most : ℕ) (far : X) → ((bytes : List ℕ) → most ≤ length bytes → judge bytes ≡ far) → (before after : Stream) (bytes whole : List ℕ)
    → before.bytes ≡ Some whole → ReadsWhole most before.bytes after.bytes bytes → judge bytes ≡ judge whole
same_judged judge most far long before after bytes whole is read =
    elim (read_of most before.bytes after.bytes bytes whole is read) [
      | inl same ↦ ap judge same
      | inr more ↦ long bytes (omega (arith, more.0)) ∙ sym (long whole more.1)
    ]

long_reports : (bytes : List ℕ) → 4097 ≤ length bytes → reports_at bytes ≡ Err (report.Report 0)
unfolding reports_at
long_reports bytes long = rw (lt-ltb 4096 (length bytes) (omega arith)) refl

long_export : (bytes : List ℕ) → 268435472 ≤ length bytes → export_of bytes ≡ Err (export.At 268435471)
unfolding export_of
long_export bytes long = rw (lt-ltb 268435471 (length bytes) (omega arith)) refl

-- ---- comparisons

module _ (before after : Stream) (whole : List ℕ) (is : before.bytes ≡ Some whole) where
  reports_same : (bytes : List ℕ) → ReadsWhole 4097 before.bytes after.bytes bytes → reports_at bytes ≡ reports_at whole
  reports_same bytes read = same_judged reports_at 4097 (Err (report.Report 0)) long_reports before after bytes whole is read

  were_read : (fact : Report → Report → Type 0) → ReadReports before after fact → (x : Fields × Fields) × (reports_at whole ≡ Ok x)
  were_read fact did = ((fields_of did.1.3.a, fields_of did.1.3.b), sym (reports_same did.1.0 did.1.2) ∙ did.1.3.are.read)

  not_read : (fact : Report → Report → Type 0) (line : ℕ) → reports_at whole ≡ Err (report.Report line) → ReadReports before after fact → ⊥
  not_read fact line bad did = let x = were_read fact did in let y = x.1 in absurd cc

  compared_so : (old new : Stream) (e : ToolEnd) → Compares before after old new e → Unfailed before after → Unfailed old new → (x : Fields × Fields) → reports_at whole ≡ Ok x → IsEnd end.Done e
  compared_so old new end.Done did quiet silent x good = refl
  compared_so old new end.OutOfMemory did quiet silent x good = tt
  compared_so old new (end.Report line) did quiet silent x good = let bad = sym (reports_same did.0.0 did.0.2) ∙ did.0.3 in absurd cc
  compared_so old new end.ReadFault did quiet silent x good = absurd (quiet did.0)
  compared_so old new end.WriteFault did quiet silent x good = absurd (silent did.0)
  compared_so old new end.DiskFault did quiet silent x good = absurd did
  compared_so old new (end.NotAStore disk at) did quiet silent x good = absurd did
  compared_so old new (end.Stranger kept asked) did quiet silent x good = absurd did
  compared_so old new (end.Full would_be) did quiet silent x good = absurd did
  compared_so old new (end.NotEmpty disk) did quiet silent x good = absurd did
  compared_so old new (end.Export at) did quiet silent x good = absurd did

  same_line : (line other : ℕ) → reports_at whole ≡ Err (report.Report line) → reports_at whole ≡ Err (report.Report other) → end.Report other ≡ end.Report line
  same_line line other a b = cc

  line_so : (old new : Stream) (e : ToolEnd) → Compares before after old new e → Unfailed before after → Unfailed old new → (line : ℕ) → reports_at whole ≡ Err (report.Report line) → IsEnd (end.Report line) e
  line_so old new end.Done did quiet silent line bad = absurd (not_read _ line bad did)
  line_so old new end.OutOfMemory did quiet silent line bad = tt
  line_so old new (end.Report other) did quiet silent line bad = same_line line other bad (sym (reports_same did.0.0 did.0.2) ∙ did.0.3)
  line_so old new end.ReadFault did quiet silent line bad = absurd (quiet did.0)
  line_so old new end.WriteFault did quiet silent line bad = absurd (silent did.0)
  line_so old new end.DiskFault did quiet silent line bad = absurd did
  line_so old new (end.NotAStore disk at) did quiet silent line bad = absurd did
  line_so old new (end.Stranger kept asked) did quiet silent line bad = absurd did
  line_so old new (end.Full would_be) did quiet silent line bad = absurd did
  line_so old new (end.NotEmpty disk) did quiet silent line bad = absurd did
  line_so old new (end.Export at) did quiet silent line bad = absurd did

pub comparison_completes : (before after old new : Stream) (e : ToolEnd) → Compares before after old new e → Unfailed before after → Unfailed old new → (bytes : List ℕ) → before.bytes ≡ Some bytes
    → ComparisonCompletes bytes e
comparison_completes before after old new e did quiet silent bytes is = record {
  compared = compared_so before after bytes is old new e did quiet silent;
  refused = line_so before after bytes is old new e did quiet silent;
}

-- ---- imports

module _ {D : Type 0} (state : D → DiskState) (member : Member) (old new : NodeDisks D) (before after : Stream) (calm : NoneFailed state old new) (quiet : Unfailed before after) (whole a b : List ℕ) (is : before.bytes ≡ Some whole) (h : Hold state old a b) where
  abbrev Read : Type 0
  Read = Result (Owner × Store) ExportRefused

  export_same : (bytes : List ℕ) → ReadsWhole 268435472 before.bytes after.bytes bytes → export_of bytes ≡ export_of whole
  export_same bytes read = same_judged export_of 268435472 (Err (export.At 268435471)) long_export before after bytes whole is read

  exported : (kept : Member) (m : Store) (bytes : List ℕ) → IsExport kept m bytes → export_of bytes ≡ Ok (owner_of kept, m)
  exported kept m bytes x = ap export_of x.text ∙ export_again (owner_of kept) m x.form

  -- the export that was read
  read_as : (kept : Member) (bytes : List ℕ) → ReadsWhole 268435472 before.bytes after.bytes bytes → (m : Store) → IsExport kept m bytes → export_of whole ≡ Ok (owner_of kept, m)
  read_as kept bytes read m x = sym (export_same bytes read) ∙ exported kept m bytes x

  imports_read : (e : ImportEnd) → ReadThenImports state member old new before after e → (m : Store) × (export_of whole ≡ Ok (owner_of member, m))
  imports_read e did = (did.1.3.map, read_as member did.1.0 did.1.2 did.1.3.map did.1.3.export)

  -- the cause of each end, when nothing failed
  abbrev Shows : ToolEnd → Type 0
  Shows end.Done = ((m : Store) × (export_of whole ≡ Ok (owner_of member, m))) × (filled a b ≡ None)
  Shows (end.NotEmpty disk) = ((m : Store) × (export_of whole ≡ Ok (owner_of member, m))) × (filled a b ≡ Some disk)
  Shows (end.Export at) = export_of whole ≡ Err (export.At at)
  Shows (end.Full would_be) = export_of whole ≡ Err (export.Full would_be)
  Shows (end.Stranger kept asked) = (asked ≡ member) × ¬ (owner_of kept ≡ owner_of member) × ((m : Store) × (export_of whole ≡ Ok (owner_of kept, m)))
  Shows end.OutOfMemory = Unit {0}
  Shows other = ⊥

  shows : (e : ToolEnd) → ImportsExport state member old new before after e → Shows e
  shows end.Done did = (imports_read import.Done did, held state old a b (λ x y. import_specs.Answers x y import.Done) h did.1.3.imports.answer)
  shows (end.NotEmpty disk) did = (imports_read (import.NotEmpty disk) did, held state old a b (λ x y. import_specs.Answers x y (import.NotEmpty disk)) h did.1.3.imports.answer)
  shows end.DiskFault did = none_counted state old new calm did.1.3.imports.counts
  shows (end.Export at) did = sym (export_same did.0.0 did.0.2) ∙ did.0.3
  shows (end.Full would_be) did = sym (export_same did.0.0 did.0.2) ∙ did.0.3
  shows (end.Stranger kept asked) did = (let it = did.0.2.1 in (did.0.0, did.0.1, (it.3.map, read_as kept it.0 it.2 it.3.map it.3.export)))
  shows end.ReadFault did = absurd (quiet did.0.0)
  shows end.OutOfMemory did = tt
  shows end.WriteFault did = did.0
  shows (end.NotAStore disk at) did = did.0
  shows (end.Report line) did = did.0

  never : (r : Read) (x : Owner × Store) (e : ExportRefused) → r ≡ Ok x → r ≡ Err e → ⊥
  never r x e p q = absurd cc

  same_owner : (o p : Owner) (m n : Store) → export_of whole ≡ Ok (o, m) → export_of whole ≡ Ok (p, n) → o ≡ p
  same_owner o p m n x y = ap (λ (z : Owner × Store). z.0) (ok_is (o, m) (p, n) (sym x ∙ y))

  same_at : (at other : ℕ) → export_of whole ≡ Err (export.At at) → export_of whole ≡ Err (export.At other) → end.Export other ≡ end.Export at
  same_at at other x y = cc

  same_size : (at other : ℕ) → export_of whole ≡ Err (export.Full at) → export_of whole ≡ Err (export.Full other) → end.Full other ≡ end.Full at
  same_size at other x y = cc

  at_so : (e : ToolEnd) → Shows e → (at : ℕ) → export_of whole ≡ Err (export.At at) → IsEnd (end.Export at) e
  at_so end.Done s at bad = absurd (never _ _ _ s.0.1 bad)
  at_so (end.NotEmpty disk) s at bad = absurd (never _ _ _ s.0.1 bad)
  at_so (end.Export other) s at bad = same_at at other bad s
  at_so (end.Full would_be) s at bad = absurd cc
  at_so (end.Stranger kept asked) s at bad = absurd (never _ _ _ s.2.1 bad)
  at_so end.OutOfMemory s at bad = tt
  at_so end.ReadFault s at bad = absurd s
  at_so end.WriteFault s at bad = absurd s
  at_so end.DiskFault s at bad = absurd s
  at_so (end.NotAStore disk place) s at bad = absurd s
  at_so (end.Report line) s at bad = absurd s

  full_so : (e : ToolEnd) → Shows e → (size : ℕ) → export_of whole ≡ Err (export.Full size) → IsEnd (end.Full size) e
  full_so end.Done s size bad = absurd (never _ _ _ s.0.1 bad)
  full_so (end.NotEmpty disk) s size bad = absurd (never _ _ _ s.0.1 bad)
  full_so (end.Export at) s size bad = absurd cc
  full_so (end.Full other) s size bad = same_size size other bad s
  full_so (end.Stranger kept asked) s size bad = absurd (never _ _ _ s.2.1 bad)
  full_so end.OutOfMemory s size bad = tt
  full_so end.ReadFault s size bad = absurd s
  full_so end.WriteFault s size bad = absurd s
  full_so end.DiskFault s size bad = absurd s
  full_so (end.NotAStore disk at) s size bad = absurd s
  full_so (end.Report line) s size bad = absurd s

  other_so : (e : ToolEnd) → Shows e → (kept : Member) (m : Store) → IsExport kept m whole → ¬ (owner_of kept ≡ owner_of member) → NamesOther kept member e
  other_so end.Done s kept m x other = absurd (other (same_owner _ _ _ _ (exported kept m whole x) s.0.1))
  other_so (end.NotEmpty disk) s kept m x other = absurd (other (same_owner _ _ _ _ (exported kept m whole x) s.0.1))
  other_so (end.Export at) s kept m x other = absurd (never _ _ _ (exported kept m whole x) s)
  other_so (end.Full would_be) s kept m x other = absurd (never _ _ _ (exported kept m whole x) s)
  other_so (end.Stranger named asked) s kept m x other = (same_owner _ _ _ _ s.2.1 (exported kept m whole x), s.0)
  other_so end.OutOfMemory s kept m x other = tt
  other_so end.ReadFault s kept m x other = absurd s
  other_so end.WriteFault s kept m x other = absurd s
  other_so end.DiskFault s kept m x other = absurd s
  other_so (end.NotAStore disk at) s kept m x other = absurd s
  other_so (end.Report line) s kept m x other = absurd s

  same_disk : (d f : Side) → filled a b ≡ Some d → filled a b ≡ Some f → end.NotEmpty f ≡ end.NotEmpty d
  same_disk d f x y =
      let both : Some d ≡ Some f = sym x ∙ y in cc

  filled_so : (e : ToolEnd) → Shows e → (m : Store) (disk : Side) → IsExport member m whole → filled a b ≡ Some disk → IsEnd (end.NotEmpty disk) e
  filled_so end.Done s m disk x full = let none = s.1 in absurd cc
  filled_so (end.NotEmpty other) s m disk x full = same_disk disk other full s.1
  filled_so (end.Export at) s m disk x full = absurd (never _ _ _ (exported member m whole x) s)
  filled_so (end.Full would_be) s m disk x full = absurd (never _ _ _ (exported member m whole x) s)
  filled_so (end.Stranger kept asked) s m disk x full = absurd (s.1 (same_owner _ _ _ _ s.2.1 (exported member m whole x)))
  filled_so end.OutOfMemory s m disk x full = tt
  filled_so end.ReadFault s m disk x full = absurd s
  filled_so end.WriteFault s m disk x full = absurd s
  filled_so end.DiskFault s m disk x full = absurd s
  filled_so (end.NotAStore side at) s m disk x full = absurd s
  filled_so (end.Report line) s m disk x full = absurd s

  empty_so : (e : ToolEnd) → Shows e → (m : Store) → IsExport member m whole → filled a b ≡ None → IsEnd end.Done e
  empty_so end.Done s m x none = refl
  empty_so (end.NotEmpty disk) s m x none = let full = s.1 in absurd cc
  empty_so (end.Export at) s m x none = absurd (never _ _ _ (exported member m whole x) s)
  empty_so (end.Full would_be) s m x none = absurd (never _ _ _ (exported member m whole x) s)
  empty_so (end.Stranger kept asked) s m x none = absurd (s.1 (same_owner _ _ _ _ s.2.1 (exported member m whole x)))
  empty_so end.OutOfMemory s m x none = tt
  empty_so end.ReadFault s m x none = absurd s
  empty_so end.WriteFault s m x none = absurd s
  empty_so end.DiskFault s m x none = absurd s
  empty_so (end.NotAStore side at) s m x none = absurd s
  empty_so (end.Report line) s m x none = absurd s

  pub completes : (e : ToolEnd) → ImportsExport state member old new before after e → ImportCompletes member whole a b e
  completes e did = record {
    refused = at_so e (shows e did);
    too_large = full_so e (shows e did);
    stranger = other_so e (shows e did);
    filled_disk = filled_so e (shows e did);
    imported = empty_so e (shows e did);
  }
