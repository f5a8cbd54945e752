-- The fields of a line, from left to right.
use Rattle.std.specs.Prelude.{◌≡◌, ℕ, Bool, false, not, ◌&&◌, List, [], ◌∷◌, length, Option, Some, None, Result, Ok, Err, codes, nat_le, nat_lt, ◌==◌, if◌then◌else◌}
use Rattle.std.specs.List.{list_all}
use Rattle.std.specs.Str.{bytes_eq}
use Rattle.std.specs.Str.Parse.{digits_value}
use Rattle.mon_bytes.specs.Texts.{is_name}
pub use Rattle.mon_bytes.specs.Answers.{◌>>=◌}
use Rattle.mon_types.specs.declared.names.Side.{Side}
use Rattle.mon_types.specs.declared.names.Side.TheVariants as side
use Rattle.mon_wire.specs.declared.phase.TheConstants.Timer.{ALL}
use Rattle.mon_wire.specs.declared.phase.Timer.{Timer}
use Rattle.mon_wire.specs.declared.request.Service.{Service}
use Rattle.mon_wire.specs.declared.request.Service.TheVariants as service
use Rattle.schedule_text.specs.declared.refusal.ScheduleKind.{ScheduleKind}
use Rattle.schedule_text.specs.declared.refusal.ScheduleKind.TheVariants as kind
use Rattle.schedule_text.specs.Words.{printable, timer_text}

-- What a function answered, seen by view, is what reading gives.
abbrev pub Is : {X Y : Type 0} → (X → Y) → Result X ScheduleKind → Result Y ScheduleKind → Type 0
Is view (Ok x) read = read ≡ Ok (view x)
Is view (Err e) read = read ≡ Err e

-- the same for a call after which the state is `new`
abbrev pub Steps : {X Y S : Type 0} → (X → Y) → Result X ScheduleKind → S → Result (Y × S) ScheduleKind → Type 0
Steps view (Ok x) new read = read ≡ Ok (view x, new)
Steps view (Err e) new read = read ≡ Err e

-- ---- fields

-- the bytes up to the first separator, and those after it
abbrev pub cut : ℕ → List ℕ → List ℕ × Option (List ℕ)
cut separator [] = ([], None)
cut separator (b ∷ bs) =
    if b == separator then ([], Some bs) else (b ∷ (cut separator bs).0, (cut separator bs).1)

-- the next field, which is there and isn't empty
abbrev pub next : Option (List ℕ) → Result (List ℕ × Option (List ℕ)) ScheduleKind
next None = Err kind.Word
next (Some bytes) = if length (cut 32 bytes).0 == 0 then Err kind.Word else Ok (cut 32 bytes)

-- the value, if the line has no further field
abbrev pub ended : {A : Type 0} → Option (List ℕ) → A → Result A ScheduleKind
ended None x = Ok x
ended (Some bytes) x = Err kind.Word

-- the rest of the line, which is there and may be empty
abbrev pub text_at : Option (List ℕ) → Result (List ℕ) ScheduleKind
text_at None = Err kind.Word
text_at (Some bytes) = if list_all printable bytes then Ok bytes else Err kind.Word

-- the next field, read so
unfoldable pub field_at : {A : Type 0} → (List ℕ → Result A ScheduleKind) → Option (List ℕ) → Result (A × Option (List ℕ)) ScheduleKind
field_at read rest = do
  field ← next rest
  x ← read field.0
  Ok (x, field.1)

-- ---- what a field encodes

abbrev pub digit : ℕ → Bool
digit b = nat_le 48 b && nat_le b 57

-- a decimal number without a leading zero
abbrev pub is_numeral : List ℕ → Bool
is_numeral [] = false
is_numeral (c ∷ []) = digit c
is_numeral (c ∷ d ∷ cs) = not (c == 48) && list_all digit (c ∷ d ∷ cs)

abbrev pub within : ℕ → ℕ → ℕ → Bool
within least most n = nat_le least n && nat_le n most

-- the number in decimal, within its bounds
unfoldable pub number_of : ℕ → ℕ → List ℕ → Result ℕ ScheduleKind
number_of least most field =
    if is_numeral field then (if within least most (digits_value 10 field) then Ok (digits_value 10 field) else Err kind.Number) else Err kind.Number

-- the rank of one of n monitors
unfoldable pub rank_of : ℕ → List ℕ → Result ℕ ScheduleKind
rank_of n field =
    if is_numeral field then (if nat_lt (digits_value 10 field) n then Ok (digits_value 10 field) else Err kind.Rank) else Err kind.Number

unfoldable pub name_of : List ℕ → Result (List ℕ) ScheduleKind
name_of field = if is_name field then Ok field else Err kind.Word

unfoldable pub service_of : List ℕ → Result Service ScheduleKind
service_of field =
    if bytes_eq field (codes "kv") then Ok service.Kv else (if bytes_eq field (codes "log") then Ok service.Log else Err kind.Word)

unfoldable pub side_of : List ℕ → Result Side ScheduleKind
side_of field =
    if bytes_eq field (codes "a") then Ok side.A else (if bytes_eq field (codes "b") then Ok side.B else Err kind.Word)

-- the one of these timers that has this name
abbrev pub timer_among : List Timer → List ℕ → Result Timer ScheduleKind
timer_among [] field = Err kind.Word
timer_among (timer ∷ others) field = if bytes_eq field (timer_text timer) then Ok timer else timer_among others field

unfoldable pub timer_of : List ℕ → Result Timer ScheduleKind
timer_of field = timer_among ALL field
