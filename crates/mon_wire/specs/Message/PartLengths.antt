-- How many bytes the parts of a message take.
use Rattle.std.specs.Prelude.{ℕ, ◌+◌, ◌*◌, List, Option, Some, None, length, sum_by}
use Rattle.election_rules.specs.declared.scores.Scores.{Scores}
use Rattle.map_kv.specs.Text as kv
use Rattle.map_log.specs.Text as log
use Rattle.mon_bytes.specs.declared.command.Command.TheVariants as command
use Rattle.mon_bytes.specs.declared.command.Command.{Command}
use Rattle.mon_bytes.specs.declared.entry.Entry.{Entry}
use Rattle.mon_bytes.specs.declared.entry.KeyPlace.TheVariants as key_place
use Rattle.mon_bytes.specs.declared.entry.KeyPlace.{KeyPlace}
use Rattle.mon_wire.specs.declared.parts.Place.{Place}
use Rattle.mon_wire.specs.declared.parts.Told.{Told}
use Rattle.mon_wire.specs.declared.reply.Reply.TheVariants as reply
use Rattle.mon_wire.specs.declared.reply.Reply.{Reply}
use Rattle.mon_wire.specs.declared.reply.ShownMap.TheVariants as map
use Rattle.mon_wire.specs.declared.reply.ShownMap.{ShownMap}
use Rattle.mon_wire.specs.declared.request.Request.TheVariants as request
use Rattle.mon_wire.specs.declared.request.Request.{Request}
use Rattle.mon_tx.specs.Text.{text}
use Rattle.mon_tx.specs.declared.op.Op.{Op}
use Rattle.mon_types.specs.Ranks.{has}

-- bytes after their length in one byte, and bytes after their length in four bytes
abbrev pub word_length : List ℕ → ℕ
word_length bytes = 1 + length bytes

abbrev pub bytes_length : List ℕ → ℕ
bytes_length bytes = 4 + length bytes

abbrev pub value_length : List Op → ℕ
value_length value = bytes_length (text value)

-- items after their count in two bytes
abbrev pub list_length : {A : Type 0} → (A → ℕ) → List A → ℕ
list_length item items = 2 + sum_by item items

-- a flag, and with a table, for each of n monitors, a boot count, a count and n scores
abbrev pub table_length : ℕ → Option Scores → ℕ
table_length n None = 1
table_length n (Some table) = 1 + n * (16 + 4 * n)

abbrev pub key_place_length : KeyPlace → ℕ
key_place_length key_place.Start = 1
key_place_length (key_place.After prefix key) = 1 + word_length prefix + word_length key
key_place_length key_place.Done = 1

abbrev pub place_length : Place → ℕ
place_length p = 8 + key_place_length p.key

abbrev pub entry_length : Entry → ℕ
entry_length e = word_length e.prefix + word_length e.key + bytes_length e.value

abbrev pub told_length : Option Told → ℕ
told_length None = 1
told_length (Some told) = 1 + 8 + value_length told.value

abbrev pub command_length : Command → ℕ
command_length (command.Set key value) = 1 + word_length key + bytes_length value
command_length (command.Remove key) = 1 + word_length key
command_length (command.Log text) = 1 + bytes_length text

abbrev pub request_length : Request → ℕ
request_length (request.Set key value) = command_length (command.Set key value)
request_length (request.Remove key) = command_length (command.Remove key)
request_length (request.Log text) = command_length (command.Log text)
request_length (request.Show s) = 2
request_length (request.Since s v) = 10

abbrev pub map_text : ShownMap → List ℕ
map_text (map.Kv m) = kv.map_text m
map_text (map.Log es) = log.map_text es

abbrev pub reply_length : Reply → ℕ
reply_length (reply.Done v) = 9
reply_length (reply.Shown s paxos v m) = 18 + bytes_length (map_text m)
reply_length (reply.Since s from incrementals more) = 11 + list_length bytes_length incrementals
reply_length reply.NoSuch = 1
reply_length (reply.TooLong len most) = 17
reply_length (reply.MapFull would_be) = 9
reply_length reply.Unavailable = 1
reply_length (reply.NotReadable has lease) = 10
reply_length (reply.Busy waiting) = 9
