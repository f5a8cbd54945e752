-- Runs of records that a message takes.
use Rattle.std.specs.Prelude.{ℕ, ◌+◌, Bool, ◌&&◌, nat_le, nat_lt, List, Option, Some, None, if◌then◌else◌, length, sum_by}
use Rattle.mon_bytes.specs.declared.limits.TheConstants.{MOST_MESSAGE}
use Rattle.mon_wire.specs.declared.write_lists.TheConstants.{MOST_ITEMS}
use Rattle.mon_msg.specs.Protocol.Parts.{value_length}
use Rattle.mon_msg.specs.Protocol.Records.{run_from, longest}
use Rattle.mon_tx.specs.Decision.{Cell}
use Rattle.mon_tx.specs.declared.op.Op.{Op}

-- how many bytes a message's other fields take: `at_end` if its values from version `from` on reach the last version,
-- and otherwise `plain`
abbrev pub besides : (last from plain at_end : ℕ) → List (List Op) → ℕ
besides last from plain at_end values = if nat_lt last (from + length values) then at_end else plain

-- whether a message has room for the values, and a list may have that many items
abbrev pub have_room : (last from plain at_end : ℕ) → List (List Op) → Bool
have_room last from plain at_end values =
    nat_le (besides last from plain at_end values + sum_by value_length values) MOST_MESSAGE && nat_le (length values) MOST_ITEMS

-- the longest run of records from a version on that a message takes
unfoldable pub run_within : (records : ℕ → Cell) → (last from plain at_end : ℕ) → List (List Op)
run_within records last from plain at_end = longest (have_room last from plain at_end) (run_from records last from)

-- a value that takes at most `room` bytes in a list of a message
abbrev pub if_room : (room : ℕ) → Option (List Op) → Option (List Op)
if_room room None = None
if_room room (Some value) = if nat_le (value_length value) room then Some value else None
