-- Reading incrementals and maps from left to right, with the first field at fault.
use Rattle.std.specs.Prelude.{ℕ, zero, suc, ◌+◌, List, [], ◌∷◌, Result, Ok, Err, ◌==◌, if◌then◌else◌}
use Rattle.std.specs.Cmp.Lexicographic.{slice_cmp}
use Rattle.std.specs.Ordering.{nat_cmp, is_lt}
use Rattle.std.specs.FinMap.{from_sorted}
use Rattle.mon_bytes.specs.declared.command.MapRefused.{MapRefused}
use Rattle.mon_bytes.specs.declared.command.MapRefused.TheVariants.{Form}
use Rattle.mon_bytes.specs.Reading.{Reading, number, next_bytes}
use Rattle.mon_bytes.specs.Format.{Format}
use Rattle.mon_bytes.specs.Texts.{is_name}
use Rattle.mon_bytes.specs.Forms.{◌>>=◌, fitted, text_at, ended}
use Rattle.map_kv.specs.Map.{Kv}
use Rattle.map_kv.specs.Text.{inc_text, map_text, IncFits, MapFits}
use Rattle.map_kv.specs.declared.inc.KvInc.{KvInc}
use Rattle.map_kv.specs.declared.inc.KvInc.TheVariants.{Set, Remove}

-- a length that isn't 0, and a name of this many bytes
unfoldable pub name_at : Reading → Result (List ℕ × Reading) MapRefused
name_at c = do
  n ← fitted (number 1 c)
  if n.0 == 0 then Err (Form c.at) else (do
    bytes ← fitted (next_bytes n.0 n.1)
    if is_name bytes.0 then Ok bytes else Err (Form n.1.at))

unfoldable pub set_at : Reading → Result (KvInc × Reading) MapRefused
set_at c = do
  key ← name_at c
  value ← text_at key.1
  Ok (Set key.0 value.0, value.1)

unfoldable pub remove_at : Reading → Result (KvInc × Reading) MapRefused
remove_at c = do
  key ← name_at c
  Ok (Remove key.0, key.1)

-- a kind, and its fields
unfoldable pub inc_at : Reading → Result (KvInc × Reading) MapRefused
inc_at c = do
  kind ← fitted (number 1 c)
  if kind.0 == 1 then set_at kind.1 else (if kind.0 == 2 then remove_at kind.1 else Err (Form c.at))

-- the incremental that all of the bytes encode
unfoldable pub inc_of : List ℕ → Result KvInc MapRefused
inc_of bytes = do
  inc ← inc_at (record { at = 0; rest = bytes })
  ended inc

-- a name above the key before it; a name that isn't has its fault where its bytes begin
unfoldable pub key_at : List ℕ → Reading → Result (List ℕ × Reading) MapRefused
key_at before c = do
  key ← name_at c
  if is_lt (slice_cmp nat_cmp before key.0) then Ok key else Err (Form (c.at + 1))

unfoldable pub entry_at : List ℕ → Reading → Result ((List ℕ × List ℕ) × Reading) MapRefused
entry_at before c = do
  key ← key_at before c
  value ← text_at key.1
  Ok ((key.0, value.0), value.1)

-- this many entries, each above the key before it
unfoldable pub entries_at : ℕ → List ℕ → Reading → Result (List (List ℕ × List ℕ) × Reading) MapRefused
entries_at zero before c = Ok ([], c)
entries_at (suc n) before c = do
  first ← entry_at before c
  others ← entries_at n first.0.0 first.1
  Ok (first.0 ∷ others.0, others.1)

-- the map that all of the bytes encode; the first key must be above the empty text, as each name is
unfoldable pub map_of : List ℕ → Result Kv MapRefused
map_of bytes = do
  count ← fitted (number 4 (record { at = 0; rest = bytes }))
  entries ← entries_at count.0 [] count.1
  ended (from_sorted entries.0, entries.1)

-- ---- how both are encoded and read

abbrev pub inc_format : Format MapRefused KvInc
inc_format = record { text = inc_text; read = inc_at; Form = IncFits }

abbrev pub map_format : Format MapRefused Kv
map_format = record {
  text = map_text;
  read = λ c. fitted (number 4 c) >>= λ count. entries_at count.0 [] count.1 >>= λ entries. Ok (from_sorted entries.0, entries.1);
  Form = MapFits;
}
