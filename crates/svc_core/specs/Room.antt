-- How long the key-value map may be.
use Rattle.std.specs.Prelude.{ℕ, ◌≤◌, length}
use Rattle.map_kv.specs.Text as kv_text
use Rattle.mon_msg.specs.Protocol.Services.{read_on}
use Rattle.mon_msg.specs.Protocol.Readings.{Readings}
use Rattle.mon_wire.specs.declared.reply.ShownMap.{ShownMap}
use Rattle.mon_wire.specs.declared.reply.ShownMap.TheVariants as map
use Rattle.mon_wire.specs.declared.request.Service.TheVariants as service

-- a key-value map with a text of at most n bytes
abbrev pub IsWithin : ℕ → ShownMap → Type 0
IsWithin n (map.Kv m) = length (kv_text.map_text m) ≤ n
IsWithin n (map.Log es) = ⊥

-- a map of at most `room` bytes has at most `most` after this many incrementals from version v on
pub record IsRoom (w : Readings) (most count v room : ℕ) : Type 0 where
  pub less : room ≤ most
  pub within : (m : ShownMap) → IsWithin room m → IsWithin most (read_on w service.Kv count v m)
