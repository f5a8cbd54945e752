-- What is read from a source, and the comparison of two reports.
use Rattle.std.specs.Prelude.{◌≡◌, ◌⊎◌, ℕ, ◌≤◌, List, ◌++◌, length, Ok, Err}
use Rattle.std.specs.Io.KnownBytes.{Appends, IsAtEnd}
use Rattle.mon_link.specs.Whole.{AppendsPrefix, ConsumesPrefix, ReadsWhole}
use Rattle.mon_scrub.specs.Reading.{reports_at}
use Rattle.mon_scrub.specs.Text.{compared, fields_of, report_text}
use Rattle.mon_scrub.specs.declared.refusal.ReportRefused.TheVariants as refused
use Rattle.mon_scrub.specs.declared.report.Report.{Report}
use Rattle.mon_types.specs.Faults.{Rose}
use Rattle.stopped_stores.specs.Texts.{Stream}
use Rattle.stopped_stores.specs.declared.comparing.TheConstants.{MOST_REPORTS_READ}
use Rattle.stopped_stores.specs.declared.end.ToolEnd.{ToolEnd}
use Rattle.stopped_stores.specs.declared.end.ToolEnd.TheVariants as end

-- the source was read to its end, but at most `most` bytes, and the fact holds of the bytes
abbrev pub OfRead : (most : ℕ) → Stream → Stream → (List ℕ → Type 0) → Type 0
OfRead most before after fact = (bytes : List ℕ) × (length bytes ≤ most) × ReadsWhole most before.bytes after.bytes bytes × fact bytes

-- the same, and the source is at its end, if it reports its remaining bytes
abbrev pub ReadAll : (most : ℕ) → Stream → Stream → (List ℕ → Type 0) → Type 0
ReadAll most before after fact = IsAtEnd after.bytes × OfRead most before after fact

-- the bytes are the texts of two reports, and they are read as these
pub record AreReports (a b : Report) (bytes : List ℕ) : Type 0 where
  pub text : bytes ≡ report_text a ++ report_text b
  pub read : reports_at bytes ≡ Ok (fields_of a, fields_of b)

-- the bytes are two reports, of which the fact holds
pub record HaveReports (fact : Report → Report → Type 0) (bytes : List ℕ) : Type 0 where
  pub a : Report
  pub b : Report
  pub are : AreReports a b bytes
  pub holds : fact a b

-- two reports were read, of which the fact holds
abbrev pub ReadReports : Stream → Stream → (Report → Report → Type 0) → Type 0
ReadReports before after fact = ReadAll MOST_REPORTS_READ before after (HaveReports fact)

-- The cause of each end of a comparison. The source had two reports, and the text that says where they differ was
-- written, whole or a prefix; or the first line at fault has this number; or reading failed.
abbrev pub Compares : (source_before source_after sink_before sink_after : Stream) → ToolEnd → Type 0
Compares before after old new end.Done = ReadReports before after (λ a b. Appends old.bytes new.bytes (compared a b))
Compares before after old new (end.Report line) = OfRead MOST_REPORTS_READ before after (λ bytes. reports_at bytes ≡ Err (refused.Report line)) × (new ≡ old)
Compares before after old new end.ReadFault = Rose before.faults after.faults × ConsumesPrefix MOST_REPORTS_READ before.bytes after.bytes × (new ≡ old)
Compares before after old new end.WriteFault =
    Rose old.faults new.faults × ReadReports before after (λ a b. AppendsPrefix old.bytes new.bytes (compared a b))
Compares before after old new end.OutOfMemory =
    (ConsumesPrefix MOST_REPORTS_READ before.bytes after.bytes × (new ≡ old)) ⊎ ReadReports before after (λ a b. AppendsPrefix old.bytes new.bytes (compared a b))
Compares before after old new other = ⊥
