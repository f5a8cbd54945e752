-- The parts of messages that are made of fields.
use Rattle.std.specs.Prelude.{ℕ, ◌<◌, ◌^◌, List, [], ◌∷◌, length, Option, None, Some, Result, Ok, Err}
use Rattle.mon_bytes.specs.declared.command.Command.{Command}
use Rattle.mon_bytes.specs.declared.command.Command.TheVariants as command
use Rattle.mon_bytes.specs.declared.command.MapRefused.{MapRefused}
use Rattle.mon_bytes.specs.declared.entry.Entry.{Entry}
use Rattle.mon_bytes.specs.declared.entry.KeyPlace.{KeyPlace}
use Rattle.mon_bytes.specs.declared.entry.KeyPlace.TheVariants.{Start, After, Done}
use Rattle.mon_bytes.specs.Reading.{Reading, number, next_bytes}
use Rattle.mon_bytes.specs.Forms.{text_bytes}
use Rattle.map_kv.specs.Text.{map_text as kv_text, MapFits as KvFits}
use Rattle.map_kv.specs.Decode.{map_of as kv_of}
use Rattle.map_log.specs.Text.{map_text as log_text, MapFits as LogFits}
use Rattle.map_log.specs.Decode.{map_of as log_of}
use Rattle.mon_wire.specs.declared.parts.Cookie.{Cookie}
use Rattle.mon_wire.specs.declared.parts.Place.{Place}
use Rattle.mon_wire.specs.declared.parts.Told.{Told}
use Rattle.mon_wire.specs.declared.refusal.MsgKind.TheVariants as fault
use Rattle.mon_wire.specs.declared.refusal.MsgRefused.{MsgRefused}
use Rattle.mon_wire.specs.declared.refusal.MsgRefused.TheVariants as refused
use Rattle.mon_wire.specs.declared.reply.ShownMap.{ShownMap}
use Rattle.mon_wire.specs.declared.reply.ShownMap.TheVariants as map
use Rattle.mon_wire.specs.declared.request.Service.{Service}
use Rattle.mon_wire.specs.declared.request.Service.TheVariants as service
use Rattle.mon_wire.specs.Message.Format.{◌>>=◌, cut, Reader, Format, nothing, ◌⊗◌, as_parts, Encoding, encoding, variant, tagged, choice}
use Rattle.mon_wire.specs.Message.Fields.{numeral, utf8, name, prefix, blob, value}

-- a flag, and with 1 the value
abbrev pub option_encoded : {A : Type 0} → Format A → Option A → Encoding
option_encoded f None = encoding 0 nothing tt
option_encoded f (Some x) = encoding 1 f x

abbrev pub option_kinds : {A : Type 0} → Format A → List (ℕ × Reader (Option A))
option_kinds f = (0, variant nothing (λ x. None)) ∷ (1, variant f (λ x. Some x)) ∷ []

abbrev pub optional : {A : Type 0} → Format A → Format (Option A)
optional f = choice (option_encoded f) (tagged (option_kinds f))

abbrev pub cookie : Format Cookie
cookie = as_parts (numeral ⊗ numeral) (λ p. record { boot = p.0; seq = p.1 }) (λ k. (k.boot, k.seq))

abbrev pub told : Format Told
told = as_parts (numeral ⊗ value) (λ p. record { pn = p.0; value = p.1 }) (λ t. (t.pn, t.value))

-- ---- places and entries

abbrev pub key_place_encoded : KeyPlace → Encoding
key_place_encoded Start = encoding 0 nothing tt
key_place_encoded (After p k) = encoding 1 (prefix ⊗ name) (p, k)
key_place_encoded Done = encoding 2 nothing tt

abbrev pub key_place_kinds : List (ℕ × Reader KeyPlace)
key_place_kinds = (0, variant nothing (λ x. Start)) ∷ (1, variant (prefix ⊗ name) (λ p. After p.0 p.1)) ∷ (2, variant nothing (λ x. Done)) ∷ []

unfoldable pub key_place_at : Reader KeyPlace
key_place_at c = tagged key_place_kinds c

abbrev pub key_place : Format KeyPlace
key_place = choice key_place_encoded key_place_at

abbrev pub place : Format Place
place = as_parts (numeral ⊗ key_place) (λ p. record { version = p.0; key = p.1 }) (λ x. (x.version, x.key))

abbrev pub entry : Format Entry
entry = as_parts (prefix ⊗ name ⊗ blob) (λ p. record { prefix = p.0; key = p.1.0; value = p.1.1 }) (λ e. (e.prefix, (e.key, e.value)))

-- ---- commands

abbrev pub command_encoded : Command → Encoding
command_encoded (command.Set key value) = encoding 1 (name ⊗ utf8) (key, value)
command_encoded (command.Remove key) = encoding 2 name key
command_encoded (command.Log text) = encoding 3 utf8 text

abbrev pub command_kinds : List (ℕ × Reader Command)
command_kinds =
    (1, variant (name ⊗ utf8) (λ p. command.Set p.0 p.1)) ∷ (2, variant name (λ key. command.Remove key)) ∷ (3, variant utf8 (λ text. command.Log text)) ∷ []

unfoldable pub command_at : Reader Command
command_at c = tagged command_kinds c

abbrev pub a_command : Format Command
a_command = choice command_encoded command_at

-- ---- the map of a service, with the length of its text

abbrev pub map_at : {M : Type 0} → (M → ShownMap) → ℕ → Reading → Result M MapRefused → Result (ShownMap × Reading) MsgRefused
map_at shown at after (Ok m) = Ok (shown m, after)
map_at shown at after (Err e) = Err (refused.At at fault.Value)

unfoldable pub shown_map_at : Service → Reader ShownMap
shown_map_at service.Kv c = do
  n ← cut (number 4 c)
  bytes ← cut (next_bytes n.0 n.1)
  map_at map.Kv n.1.at bytes.1 (kv_of bytes.0)
shown_map_at service.Log c = do
  n ← cut (number 4 c)
  bytes ← cut (next_bytes n.0 n.1)
  map_at map.Log n.1.at bytes.1 (log_of bytes.0)

abbrev pub shown_text : ShownMap → List ℕ
shown_text (map.Kv m) = text_bytes (kv_text m)
shown_text (map.Log es) = text_bytes (log_text es)

abbrev pub shown_length : ShownMap → ℕ
shown_length (map.Kv m) = length (kv_text m)
shown_length (map.Log es) = length (log_text es)

-- a map of that service
abbrev pub ShownFits : Service → ShownMap → Type 0
ShownFits service.Kv (map.Kv m) = KvFits m × (length (kv_text m) < 2 ^ 32)
ShownFits service.Log (map.Log es) = LogFits es × (length (log_text es) < 2 ^ 32)
ShownFits service.Kv (map.Log es) = ⊥
ShownFits service.Log (map.Kv m) = ⊥

abbrev pub shown_map : Service → Format ShownMap
shown_map s = record { text = shown_text; read = shown_map_at s; Form = ShownFits s }
