-- What a leader that collects finds: the pending value of the greatest version, and then of the greatest number.
use Rattle.std.specs.Prelude.{ℕ, Bool, true, ◌&&◌, ◌||◌, ◌==◌, nat_le, nat_lt, Option, Some, None, if◌then◌else◌, length}
use Rattle.mon_msg.specs.Protocol.Records.{most_value}
use Rattle.mon_wire.specs.declared.parts.Told.{Told}
use Rattle.mon_msg.specs.declared.paxos.Found.{Found}
use Rattle.mon_tx.specs.Text.{text}

-- a pending value that is too long to be proposed counts as none
abbrev pub counts : Option Told → Option Told
counts None = None
counts (Some told) = if nat_le (length (text told.value)) most_value then Some told else None

-- whether nothing was found before, or a lower version, or the same one with a lower number
abbrev pub is_newer : (v pn : ℕ) → Option Found → Bool
is_newer v pn None = true
is_newer v pn (Some found) = nat_lt found.version v || (v == found.version && nat_lt found.pn pn)

abbrev pub better : Option Found → Found → Option Found
better found new = if is_newer new.version new.pn found then Some new else found
