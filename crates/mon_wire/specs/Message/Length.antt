-- How many bytes a message takes, and which messages may be sent.
use Rattle.std.specs.Prelude.{ℕ, ◌+◌, Bool, true, ◌&&◌, nat_le, List, length}
use Rattle.mon_bytes.specs.declared.limits.TheConstants.{MOST_MESSAGE}
use Rattle.mon_wire.specs.declared.write_lists.TheConstants.{MOST_ITEMS}
use Rattle.mon_wire.specs.Message.PartLengths.{value_length, list_length, table_length, place_length, entry_length, told_length, command_length, request_length, reply_length}
use Rattle.mon_wire.specs.declared.body.Body.TheVariants as body
use Rattle.mon_wire.specs.declared.body.Body.{Body}
use Rattle.mon_wire.specs.declared.reply.Reply.TheVariants as reply
use Rattle.mon_tx.specs.Keys.{place}

-- a cookie takes 16 bytes, a number 8, a set 2 and a flag 1
abbrev pub body_length : ℕ → Body → ℕ
body_length n body.Probe = 0
body_length n (body.ProbeReply quorum first last) = 18
body_length n (body.Propose table) = table_length n table
body_length n body.Ack = 0
body_length n (body.Victory quorum) = 2
body_length n (body.Collect pn first last) = 24
body_length n (body.Last pn first last whole from values pending) = 33 + list_length value_length values + told_length pending
body_length n (body.Begin pn v value) = 16 + value_length value
body_length n (body.Accept pn v) = 16
body_length n (body.Commit from values) = 8 + list_length value_length values
body_length n (body.Lease last) = 8
body_length n (body.LeaseAck last) = 8
body_length n (body.Forward seq c) = 8 + command_length c
body_length n (body.Route seq r) = 8 + reply_length r
body_length n body.GetCookieFull = 0
body_length n (body.GetCookieRecent last) = 8
body_length n (body.Cookie full cookie last) = 25
body_length n (body.GetChunk cookie place) = 16 + place_length place
body_length n (body.Chunk cookie place values entries done) = 17 + place_length place + list_length value_length values + list_length entry_length entries
body_length n (body.LastChunk cookie place values entries last) = 24 + place_length place + list_length value_length values + list_length entry_length entries
body_length n (body.NoCookie cookie) = 16
body_length n (body.Ping table) = table_length n table
body_length n (body.PingReply table) = table_length n table
body_length n (body.Request id r) = 8 + request_length r
body_length n (body.Reply id r) = 8 + reply_length r

-- a header of twelve bytes, and the body
abbrev pub message_length : ℕ → Body → ℕ
message_length n b = 12 + body_length n b

abbrev pub most_message : ℕ
most_message = MOST_MESSAGE

abbrev pub short_list : {A : Type 0} → List A → Bool
short_list items = nat_le (length items) MOST_ITEMS

abbrev pub short_lists : Body → Bool
short_lists (body.Last pn first last whole from values pending) = short_list values
short_lists (body.Commit from values) = short_list values
short_lists (body.Route seq (reply.Since s from incrementals more)) = short_list incrementals
short_lists (body.Chunk cookie place values entries done) = short_list values && short_list entries
short_lists (body.LastChunk cookie place values entries last) = short_list values && short_list entries
short_lists (body.Reply id (reply.Since s from incrementals more)) = short_list incrementals
short_lists b = true

-- whether a message among n monitors may be sent
abbrev pub fits : ℕ → Body → Bool
fits n b = nat_le (message_length n b) most_message && short_lists b
