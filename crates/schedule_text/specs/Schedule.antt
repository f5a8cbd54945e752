-- How a schedule is read, and which line is refused.
use Rattle.std.specs.Prelude.{ℕ, ◌+◌, Bool, true, false, List, [], ◌∷◌, length, Option, Some, None, Result, Ok, Err, codes, nat_lt, nat_le, ◌==◌, if◌then◌else◌}
use Rattle.std.specs.Str.{bytes_eq}
use Rattle.mon_bytes.specs.Answers as answers
use Rattle.election_rules.specs.declared.rule.Rule.{Rule}
use Rattle.election_rules.specs.declared.rule.Rule.TheVariants.{Classic, Disallow, Connectivity}
use Rattle.schedule_text.specs.declared.event.Event.{Event}
use Rattle.schedule_text.specs.declared.refusal.ScheduleKind.{ScheduleKind}
use Rattle.schedule_text.specs.declared.refusal.ScheduleKind.TheVariants as kind
use Rattle.schedule_text.specs.declared.refusal.ScheduleRefused.{ScheduleRefused}
use Rattle.schedule_text.specs.declared.refusal.ScheduleRefused.TheVariants.{At, OutOfMemory}
use Rattle.schedule_text.specs.declared.schedule.Schedule.{Schedule}
use Rattle.schedule_text.specs.Fields.{◌>>=◌, cut, next, field_at, ended, number_of}
use Rattle.schedule_text.specs.Ranks.{set_of}
use Rattle.schedule_text.specs.Lines.{event_at}
use Rattle.schedule_text.specs.Encoding.{most_events, most_bytes}

-- ---- the first line

unfoldable pub disallow_of : ℕ → Option (List ℕ) → Result Rule ScheduleKind
disallow_of n None = Err kind.Header
disallow_of n (Some ranks) = do
  set ← set_of n (Some ranks)
  Ok (Disallow set)

unfoldable pub connectivity_of : ℕ → Option (List ℕ) → Result Rule ScheduleKind
connectivity_of n ranks = do
  set ← set_of n ranks
  Ok (Connectivity set)

-- a rule, and the ranks after its equals sign, if there is one
unfoldable pub rule_of : ℕ → List ℕ → Result Rule ScheduleKind
rule_of n field =
    if bytes_eq (cut 61 field).0 (codes "classic") then ended (cut 61 field).1 Classic
    else (if bytes_eq (cut 61 field).0 (codes "disallow") then disallow_of n (cut 61 field).1
    else (if bytes_eq (cut 61 field).0 (codes "connectivity") then connectivity_of n (cut 61 field).1 else Err kind.Header))

-- how many monitors there are, and their rule
unfoldable pub monitors_at : Option (List ℕ) → Result (ℕ × Rule) ScheduleKind
monitors_at rest = do
  n ← field_at (number_of 1 15) rest
  rule ← field_at (rule_of n.0) n.1
  ended rule.1 (n.0, rule.0)

unfoldable pub header_at : List ℕ → Result (ℕ × Rule) ScheduleKind
header_at line = do
  word ← next (Some line)
  if bytes_eq word.0 (codes "monitors") then monitors_at word.1 else Err kind.Header

-- on the first line each fault is of one kind
abbrev pub on_first_line : {A : Type 0} → Result A ScheduleKind → Result A ScheduleRefused
on_first_line (Ok x) = Ok x
on_first_line (Err other) = Err (At 1 kind.Header)

-- ---- the lines

-- the first byte goes to the first line, or if there is none to what follows the lines
abbrev pub onto : ℕ → List (List ℕ) × List ℕ → List (List ℕ) × List ℕ
onto b ([], tail) = ([], b ∷ tail)
onto b (line ∷ lines, tail) = ((b ∷ line) ∷ lines, tail)

-- the lines, and what is after the last line feed
abbrev pub lines_of : List ℕ → List (List ℕ) × List ℕ
lines_of [] = ([], [])
lines_of (b ∷ bs) = if b == 10 then ([] ∷ (lines_of bs).0, (lines_of bs).1) else onto b (lines_of bs)

-- the line at fault
abbrev pub on_line : {A : Type 0} → ℕ → Result A ScheduleKind → Result A ScheduleRefused
on_line line (Ok x) = Ok x
on_line line (Err kind) = Err (At line kind)

-- one more event after `count` events
unfoldable pub event_line_at : ℕ → ℕ → List ℕ → Result Event ScheduleRefused
event_line_at n count line =
    if nat_le most_events count then Err (At (count + 2) kind.TooMany) else on_line (count + 2) (event_at n line)

-- the events of the lines after `count` events; the lines take the whole text
unfoldable pub events_at : ℕ → ℕ → List (List ℕ) → List ℕ → Result (List Event) ScheduleRefused
events_at n count [] [] = Ok []
events_at n count [] (b ∷ tail) = Err (At (count + 2) kind.End)
events_at n count (line ∷ lines) tail = do
  event ← event_line_at n count line
  others ← events_at n (count + 1) lines tail
  Ok (event ∷ others)

-- the schedule of the lines
unfoldable pub whole_at : List (List ℕ) → List ℕ → Result Schedule ScheduleRefused
whole_at [] [] = Err (At 1 kind.Header)
whole_at [] (b ∷ tail) = Err (At 1 kind.End)
whole_at (first ∷ lines) tail = do
  header ← on_first_line (header_at first)
  events ← events_at header.0 0 lines tail
  Ok (record { monitors = header.0; rule = header.1; events = events })

-- the schedule that all of the bytes represent, or the first faulty line
unfoldable pub schedule_at : List ℕ → Result Schedule ScheduleRefused
schedule_at bytes =
    if nat_lt most_bytes (length bytes) then Err (At 0 kind.TooLong) else whole_at (lines_of bytes).0 (lines_of bytes).1

-- whether memory ran out
abbrev pub no_memory : ScheduleRefused → Bool
no_memory OutOfMemory = true
no_memory (At line kind) = false

-- What a call answered is what reading gives, unless memory ran out.
abbrev pub Fails : {Y : Type 0} → ScheduleRefused → Result Y ScheduleRefused → Type 0
Fails e read = answers.Fails no_memory e read

abbrev pub Gives : {X Y : Type 0} → (X → Y) → Result X ScheduleRefused → Result Y ScheduleRefused → Type 0
Gives view result read = answers.Gives no_memory view result read
