-- Reading entries and maps from left to right, with the first field at fault.
use Rattle.std.specs.Prelude.{ℕ, zero, suc, List, [], ◌∷◌, Result, Ok, Err, nat_lt, if◌then◌else◌}
use Rattle.mon_bytes.specs.declared.command.MapRefused.{MapRefused}
use Rattle.mon_bytes.specs.declared.command.MapRefused.TheVariants.{Form}
use Rattle.mon_bytes.specs.Reading.{Reading, number}
use Rattle.mon_bytes.specs.Format.{Format}
use Rattle.mon_bytes.specs.Forms.{◌>>=◌, fitted, text_at, ended}
use Rattle.map_log.specs.declared.inc.LogInc.{LogInc}
use Rattle.map_log.specs.Text.{inc_text, map_text, IncFits, MapFits}

-- the rank of a monitor
unfoldable pub rank_at : Reading → Result (ℕ × Reading) MapRefused
rank_at c = do
  n ← fitted (number 1 c)
  if nat_lt 14 n.0 then Err (Form c.at) else Ok n

unfoldable pub inc_at : Reading → Result (LogInc × Reading) MapRefused
inc_at c = do
  rank ← rank_at c
  text ← text_at rank.1
  Ok (record { rank = rank.0; text = text.0 }, text.1)

-- the entry that all of the bytes encode
unfoldable pub inc_of : List ℕ → Result LogInc MapRefused
inc_of bytes = do
  inc ← inc_at (record { at = 0; rest = bytes })
  ended inc

-- this many entries
unfoldable pub entries_at : ℕ → Reading → Result (List LogInc × Reading) MapRefused
entries_at zero c = Ok ([], c)
entries_at (suc n) c = do
  first ← inc_at c
  others ← entries_at n first.1
  Ok (first.0 ∷ others.0, others.1)

-- the map that all of the bytes encode
unfoldable pub map_of : List ℕ → Result (List LogInc) MapRefused
map_of bytes = do
  count ← fitted (number 4 (record { at = 0; rest = bytes }))
  entries ← entries_at count.0 count.1
  ended entries

-- ---- how both are encoded and read

abbrev pub inc_format : Format MapRefused LogInc
inc_format = record { text = inc_text; read = inc_at; Form = IncFits }

abbrev pub map_format : Format MapRefused (List LogInc)
map_format = record { text = map_text; read = λ c. fitted (number 4 c) >>= λ count. entries_at count.0 count.1; Form = MapFits }
