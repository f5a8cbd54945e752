-- What was read from a source.
use Rattle.std.proofs.Common.{◌≡◌, ℕ, ◌<◌, ◌≤◌, ltb, List, length, is_some, Ok, arith}
use Rattle.std.proofs.lemmas.Bool.{ltb-false}
use Rattle.mon_bytes.proofs.Fields.{guard_ok}
use Rattle.mon_journal.specs.Fields.{Owner}
use Rattle.mon_link.specs.Whole.{ConsumesPrefix, ReadsWhole}
use Rattle.mon_link.proofs.Wholes.{at_end, front_of}
use Rattle.mon_scrub.specs.Reading.{reports_at, two_at}
use Rattle.mon_scrub.specs.Text.{Fields}
use Rattle.mon_scrub.specs.declared.refusal.ReportRefused.TheVariants as report_refused
use Rattle.mon_tx.specs.Map.{Store}
use Rattle.store_tool.specs.Export.{export_of, fields_of, judged}
use Rattle.store_tool.specs.declared.refusal.ExportRefused.TheVariants as export_refused
use Rattle.stopped_stores.specs.Reading.{OfRead, ReadAll}
use Rattle.stopped_stores.specs.Texts.{Stream}

-- what a call read
pub record HasRead (most : ℕ) (before after : Stream) (bytes : List ℕ) : Type 0 where
  pub visible : is_some after.bytes ≡ is_some before.bytes
  pub most_is : length bytes ≤ most
  pub whole : ReadsWhole most before.bytes after.bytes bytes

pub of_read : (most : ℕ) (before after : Stream) (bytes : List ℕ) (fact : List ℕ → Type 0) → HasRead most before after bytes → fact bytes → OfRead most before after fact
of_read most before after bytes fact read holds = (bytes, read.most_is, read.whole, holds)

pub read_all : (most : ℕ) (before after : Stream) (bytes : List ℕ) (fact : List ℕ → Type 0) → HasRead most before after bytes → length bytes < most → fact bytes → ReadAll most before after fact
read_all most before after bytes fact read short holds = (at_end most before.bytes after.bytes bytes read.visible short read.whole, of_read most before after bytes fact read holds)

pub consumed : (most : ℕ) (before after : Stream) (bytes : List ℕ) → HasRead most before after bytes → ConsumesPrefix most before.bytes after.bytes
consumed most before after bytes read = front_of most before.bytes after.bytes bytes read.most_is read.whole

-- two reports, and an export, aren't as long as the most that is read
pub short_reports : (bytes : List ℕ) (x : Fields × Fields) → reports_at bytes ≡ Ok x → length bytes < 4097
unfolding reports_at
short_reports bytes x e =
    let g = guard_ok (ltb 4096 (length bytes)) (report_refused.Report 0) (two_at bytes) x e in
    let few = ltb-false 4096 (length bytes) g.0 in
    omega (arith, few)

pub short_export : (bytes : List ℕ) (x : Owner × Store) → export_of bytes ≡ Ok x → length bytes < 268435472
unfolding export_of
short_export bytes x e =
    let g = guard_ok (ltb 268435471 (length bytes)) (export_refused.At 268435471) (judged (fields_of (record { at = 0; rest = bytes }))) x e in
    let few = ltb-false 268435471 (length bytes) g.0 in
    omega (arith, few)
