-- How two reports are read. A fault has the number of the first line at fault.
use Rattle.std.specs.Prelude.{◌≡◌, ℕ, ◌+◌, ◌-◌, ◌^◌, Bool, ◌&&◌, ◌==◌, List, [], ◌∷◌, length, take, drop, Option, Some, None, Result, Ok, Err, codes, nat_le, nat_lt, if◌then◌else◌}
use Rattle.std.specs.Str.{bytes_eq}
use Rattle.hex.specs.Hex.{decode_sized, encode_lower}
use Rattle.hex.specs.declared.error.FromHexError.{FromHexError}
pub use Rattle.mon_bytes.specs.Answers.{◌>>=◌}
use Rattle.schedule_text.specs.Fields.{cut, number_of}
use Rattle.schedule_text.specs.declared.refusal.ScheduleKind.{ScheduleKind}
use Rattle.mon_scrub.specs.declared.report.Part.{Part}
use Rattle.mon_scrub.specs.Text.{Fields}
use Rattle.mon_scrub.specs.declared.refusal.ReportRefused.{ReportRefused}
use Rattle.mon_scrub.specs.declared.refusal.ReportRefused.TheVariants as refused

-- line n is at fault
abbrev pub fault : {A : Type 0} → ℕ → Result A ReportRefused
fault n = Err (refused.Report n)

-- The result of a call, mapped by `view`, is what reading gives; and the same for a call that leaves bytes unread.
abbrev pub Is : {X Y : Type 0} → (X → Y) → Result X ReportRefused → Result Y ReportRefused → Type 0
Is view (Ok x) read = read ≡ Ok (view x)
Is view (Err e) read = read ≡ Err e

abbrev pub Steps : {X Y : Type 0} → (X → Y) → Result X ReportRefused → List ℕ → Result (Y × List ℕ) ReportRefused → Type 0
Steps view (Ok x) new read = read ≡ Ok (view x, new)
Steps view (Err e) new read = read ≡ Err e

-- ---- what comes next in line n

-- this text
unfoldable pub text_at : ℕ → List ℕ → List ℕ → Result (Unit {0} × List ℕ) ReportRefused
text_at n text rest =
    if nat_le (length text) (length rest) && bytes_eq (take (length text) rest) text then Ok (tt, drop (length text) rest) else fault n

-- the bytes up to a separator, which is there
abbrev pub if_cut : ℕ → List ℕ × Option (List ℕ) → Result (List ℕ × List ℕ) ReportRefused
if_cut n (front, None) = fault n
if_cut n (front, Some rest) = Ok (front, rest)

abbrev pub field_at : ℕ → ℕ → List ℕ → Result (List ℕ × List ℕ) ReportRefused
field_at n separator rest = if_cut n ((cut separator rest).0, (cut separator rest).1)

-- a number in decimal within its bounds, up to a separator
abbrev pub if_number : ℕ → Result ℕ ScheduleKind → Result ℕ ReportRefused
if_number n (Ok x) = Ok x
if_number n (Err kind) = fault n

unfoldable pub number_at : ℕ → ℕ → ℕ → ℕ → List ℕ → Result (ℕ × List ℕ) ReportRefused
number_at n separator least most rest = do
  field ← field_at n separator rest
  x ← if_number n (number_of least most field.0)
  Ok (x, field.1)

-- the 64 lower-case digits of a digest, up to the end of the line
abbrev pub if_encoded : ℕ → List ℕ → Result (List ℕ) FromHexError → Result (List ℕ) ReportRefused
if_encoded n field (Ok digest) = if bytes_eq (encode_lower digest) field then Ok digest else fault n
if_encoded n field (Err e) = fault n

unfoldable pub digest_at : ℕ → List ℕ → Result (List ℕ × List ℕ) ReportRefused
digest_at n rest = do
  field ← field_at n 10 rest
  digest ← if_encoded n field.0 (decode_sized field.0 32)
  Ok (digest, field.1)

-- ---- lines

unfoldable pub part_at : ℕ → List ℕ → List ℕ → Result (Part × List ℕ) ReportRefused
part_at n name rest = do
  a ← text_at n name rest
  keys ← number_at n 32 0 (2 ^ 32 - 1) a.1
  b ← text_at n (codes "sha256=") keys.1
  digest ← digest_at n b.1
  Ok (record { keys = keys.0; digest = digest.0 }, digest.1)

-- the three lines of parts from line n on
unfoldable pub parts_at : ℕ → List ℕ → Result (List Part × List ℕ) ReportRefused
parts_at n rest = do
  kv ← part_at n (codes "kv keys=") rest
  logm ← part_at (n + 1) (codes "logm keys=") kv.1
  paxos ← part_at (n + 2) (codes "paxos keys=") logm.1
  Ok (kv.0 ∷ logm.0 ∷ paxos.0 ∷ [], paxos.1)

-- a rank, and a number of monitors above it and of at most 15
unfoldable pub member_at : ℕ → List ℕ → Result ((ℕ × ℕ) × List ℕ) ReportRefused
member_at n rest = do
  a ← text_at n (codes "scrub rank=") rest
  rank ← number_at n 32 0 14 a.1
  b ← text_at n (codes "monitors=") rank.1
  monitors ← number_at n 32 (rank.0 + 1) 15 b.1
  Ok ((rank.0, monitors.0), monitors.1)

-- the last version, and the mark
unfoldable pub last_at : ℕ → List ℕ → Result ((ℕ × Bool) × List ℕ) ReportRefused
last_at n rest = do
  a ← text_at n (codes "last=") rest
  last ← number_at n 32 0 (2 ^ 62) a.1
  b ← text_at n (codes "marked=") last.1
  marked ← number_at n 10 0 1 b.1
  Ok ((last.0, marked.0 == 1), marked.1)

-- a report from line n on
unfoldable pub report_at : ℕ → List ℕ → Result (Fields × List ℕ) ReportRefused
report_at n rest = do
  member ← member_at n rest
  last ← last_at n member.1
  parts ← parts_at (n + 1) last.1
  Ok (record { rank = member.0.0; monitors = member.0.1; last = last.0.0; marked = last.0.1; parts = parts.0 }, parts.1)

-- two reports in eight lines, and nothing after them
unfoldable pub two_at : List ℕ → Result (Fields × Fields) ReportRefused
two_at bytes = do
  a ← report_at 1 bytes
  b ← report_at 5 a.1
  if length b.1 == 0 then Ok (a.0, b.0) else fault 9

-- line 0 is at fault in an input of more than 4,096 bytes
unfoldable pub reports_at : List ℕ → Result (Fields × Fields) ReportRefused
reports_at bytes = if nat_lt 4096 (length bytes) then fault 0 else two_at bytes
