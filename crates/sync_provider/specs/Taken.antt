-- How many of the shared entries a chunk takes.
use Rattle.std.specs.Prelude.{◌≡◌, ℕ, ◌+◌, Bool, ◌&&◌, nat_le, List, if◌then◌else◌, length, sum_by}
use Rattle.mon_bytes.specs.declared.entry.Entry.{Entry}
use Rattle.mon_bytes.specs.declared.limits.TheConstants.{MOST_MESSAGE}
use Rattle.mon_kv.specs.declared.chunk.KeyRun.{KeyRun}
use Rattle.mon_msg.specs.Protocol.Parts.{entry_length}
use Rattle.mon_msg.specs.Protocol.Providing.{given_entries, is_finished}
use Rattle.mon_msg.specs.Protocol.Records.{longest}
use Rattle.mon_tx.specs.declared.op.Op.{Op}
use Rattle.mon_wire.specs.declared.parts.Cookie.{Cookie}
use Rattle.mon_wire.specs.declared.parts.Place.{Place}
use Rattle.mon_wire.specs.declared.write_lists.TheConstants.{MOST_ITEMS}
use Rattle.sync_provider.specs.declared.entries.TheConstants.{BESIDES, BESIDES_LAST}

-- Whether a chunk has room for these entries, if its place and its values take `bytes` bytes. The chunk itself is a few
-- bytes longer if no entry follows these.
abbrev pub takes : (left : List Entry) → (bytes : ℕ) → List Entry → Bool
takes left bytes entries =
    nat_le ((if nat_le (length left) (length entries) then BESIDES_LAST else BESIDES) + bytes + sum_by entry_length entries) MOST_MESSAGE
    && nat_le (length entries) MOST_ITEMS

-- A run has as many entries as a chunk takes, and says whether none follows them.
pub record IsTaken (left : List Entry) (bytes : ℕ) (run : KeyRun) : Type 0 where
  pub entries : run.entries.items ≡ longest (takes left bytes) left
  pub done : run.done ≡ nat_le (length left) (length run.entries.items)

-- A run has the shared entries of a chunk with these values, and says whether none follows them.
pub record IsGiven (last : ℕ) (c : Cookie) (p : Place) (left : List Entry) (n : ℕ) (values : List (List Op))
    (run : KeyRun) : Type 0 where
  pub entries : run.entries.items ≡ given_entries last c p left n values
  pub done : run.done ≡ is_finished p left run.entries.items
