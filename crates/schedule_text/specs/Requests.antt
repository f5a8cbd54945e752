-- How what a client asks is read.
use Rattle.std.specs.Prelude.{ℕ, ◌^◌, List, Option, Result, Ok, Err, codes, if◌then◌else◌}
use Rattle.std.specs.Str.{bytes_eq}
use Rattle.mon_wire.specs.declared.request.Request.{Request}
use Rattle.mon_wire.specs.declared.request.Request.TheVariants as request
use Rattle.schedule_text.specs.declared.refusal.ScheduleKind.{ScheduleKind}
use Rattle.schedule_text.specs.declared.refusal.ScheduleKind.TheVariants as kind
use Rattle.schedule_text.specs.Fields.{◌>>=◌, next, field_at, ended, text_at, number_of, name_of, service_of}

unfoldable pub set_at : Option (List ℕ) → Result Request ScheduleKind
set_at rest = do
  key ← field_at name_of rest
  value ← text_at key.1
  Ok (request.Set key.0 value)

unfoldable pub remove_at : Option (List ℕ) → Result Request ScheduleKind
remove_at rest = do
  key ← field_at name_of rest
  ended key.1 (request.Remove key.0)

unfoldable pub log_at : Option (List ℕ) → Result Request ScheduleKind
log_at rest = do
  text ← text_at rest
  Ok (request.Log text)

unfoldable pub show_at : Option (List ℕ) → Result Request ScheduleKind
show_at rest = do
  service ← field_at service_of rest
  ended service.1 (request.Show service.0)

unfoldable pub since_at : Option (List ℕ) → Result Request ScheduleKind
since_at rest = do
  service ← field_at service_of rest
  version ← field_at (number_of 0 (2 ^ 62)) service.1
  ended version.1 (request.Since service.0 version.0)

abbrev pub request_by : List ℕ → Option (List ℕ) → Result Request ScheduleKind
request_by word rest =
    if bytes_eq word (codes "set") then set_at rest
    else (if bytes_eq word (codes "remove") then remove_at rest
    else (if bytes_eq word (codes "log") then log_at rest
    else (if bytes_eq word (codes "show") then show_at rest
    else (if bytes_eq word (codes "since") then since_at rest else Err kind.Word))))

unfoldable pub request_at : Option (List ℕ) → Result Request ScheduleKind
request_at rest = do
  word ← next rest
  request_by word.0 word.1
