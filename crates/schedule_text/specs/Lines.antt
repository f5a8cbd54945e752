-- How the line of an event is read, for n monitors.
use Rattle.std.specs.Prelude.{◌≡◌, ℕ, ◌-◌, ◌^◌, List, Option, Some, Result, Ok, Err, codes, if◌then◌else◌}
use Rattle.std.specs.List.{list_all}
use Rattle.std.specs.Str.{bytes_eq}
use Rattle.mon_types.specs.declared.names.Side.{Side}
use Rattle.schedule_text.specs.declared.event.Plain.{Plain}
use Rattle.schedule_text.specs.declared.event.Plain.TheVariants.{Start, Deliver, Timer, Client}
use Rattle.schedule_text.specs.declared.event.Event.{Event}
use Rattle.schedule_text.specs.declared.event.Event.TheVariants as event
use Rattle.schedule_text.specs.declared.refusal.ScheduleKind.{ScheduleKind}
use Rattle.schedule_text.specs.declared.refusal.ScheduleKind.TheVariants as kind
use Rattle.schedule_text.specs.declared.refusal.LineRefused.{LineRefused}
use Rattle.schedule_text.specs.declared.refusal.LineRefused.TheVariants as refused
use Rattle.schedule_text.specs.Words.{printable}
use Rattle.schedule_text.specs.Fields.{◌>>=◌, next, field_at, ended, number_of, rank_of, side_of, timer_of}
use Rattle.schedule_text.specs.Requests.{request_at}

unfoldable pub start_at : ℕ → Option (List ℕ) → Result Plain ScheduleKind
start_at n rest = do
  rank ← field_at (rank_of n) rest
  at ← field_at (number_of 0 (2 ^ 62)) rank.1
  ended at.1 (Start rank.0 at.0)

unfoldable pub deliver_at : Option (List ℕ) → Result Plain ScheduleKind
deliver_at rest = do
  message ← field_at (number_of 1 (2 ^ 64 - 1)) rest
  at ← field_at (number_of 0 (2 ^ 62)) message.1
  ended at.1 (Deliver message.0 at.0)

unfoldable pub timer_at : ℕ → Option (List ℕ) → Result Plain ScheduleKind
timer_at n rest = do
  rank ← field_at (rank_of n) rest
  timer ← field_at timer_of rank.1
  at ← field_at (number_of 0 (2 ^ 62)) timer.1
  ended at.1 (Timer rank.0 timer.0 at.0)

unfoldable pub client_at : ℕ → Option (List ℕ) → Result Plain ScheduleKind
client_at n rest = do
  rank ← field_at (rank_of n) rest
  at ← field_at (number_of 0 (2 ^ 62)) rank.1
  client ← field_at (number_of 0 (2 ^ 32 - 1)) at.1
  id ← field_at (number_of 0 (2 ^ 62)) client.1
  asked ← request_at id.1
  Ok (Client rank.0 at.0 (record { client = client.0; id = id.0 }) asked)

unfoldable pub plain_by : ℕ → List ℕ → Option (List ℕ) → Result Plain ScheduleKind
plain_by n word rest =
    if bytes_eq word (codes "start") then start_at n rest
    else (if bytes_eq word (codes "deliver") then deliver_at rest
    else (if bytes_eq word (codes "timer") then timer_at n rest
    else (if bytes_eq word (codes "client") then client_at n rest else Err kind.Word)))

unfoldable pub plain_at : ℕ → Option (List ℕ) → Result Plain ScheduleKind
plain_at n rest = do
  word ← next rest
  plain_by n word.0 word.1

-- a crash or a disk's fault: the disk, the number of its call, the image of what it keeps, and the event
unfoldable pub injected_at : (Side → ℕ → ℕ → Plain → Event) → ℕ → Option (List ℕ) → Result Event ScheduleKind
injected_at injected n rest = do
  disk ← field_at side_of rest
  call ← field_at (number_of 1 1000) disk.1
  image ← field_at (number_of 0 3) call.1
  plain ← plain_at n image.1
  Ok (injected disk.0 call.0 image.0 plain)

unfoldable pub event_by : ℕ → List ℕ → Option (List ℕ) → Result Event ScheduleKind
event_by n word rest =
    if bytes_eq word (codes "crash") then injected_at event.Crash n rest
    else (if bytes_eq word (codes "fail") then injected_at event.Fail n rest else (do
      plain ← plain_by n word rest
      Ok (event.Plain plain)))

-- the event that the fields of a line represent
abbrev pub fields_event : ℕ → List ℕ → Result Event ScheduleKind
fields_event n line = do
  word ← next (Some line)
  event_by n word.0 word.1

-- the event that a line represents; a byte that isn't printable is faulty before any field
unfoldable pub event_at : ℕ → List ℕ → Result Event ScheduleKind
event_at n line = if list_all printable line then fields_event n line else Err kind.Word

-- What a call answered is what reading gives, unless memory ran out.
abbrev pub Fails : {Y : Type 0} → LineRefused → Result Y ScheduleKind → Type 0
Fails refused.OutOfMemory read = Unit {0}
Fails (refused.Kind k) read = read ≡ Err k

abbrev pub Gives : {X Y : Type 0} → (X → Y) → Result X LineRefused → Result Y ScheduleKind → Type 0
Gives view (Ok x) read = read ≡ Ok (view x)
Gives view (Err e) read = Fails e read

-- the same for a call after which the state is `new`
abbrev pub GivesStep : {X Y S : Type 0} → (X → Y) → Result X LineRefused → S → Result (Y × S) ScheduleKind → Type 0
GivesStep view (Ok x) new read = read ≡ Ok (view x, new)
GivesStep view (Err e) new read = Fails e read
