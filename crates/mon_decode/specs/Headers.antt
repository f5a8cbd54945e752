-- The header of a message and the numbers that its body begins with, which are read without the rest.
use Rattle.std.specs.Prelude.{◌≡◌, ℕ, ◌+◌, ◌-◌, ◌≤◌, ◌==◌, Bool, List, length, take, Option, Some, None, Result, Ok, Err}
use Rattle.mon_types.specs.Ranks.{to_bits}
use Rattle.mon_bytes.specs.Reading.{Reading, number}
use Rattle.mon_decode.specs.declared.header.Header.{Header}
use Rattle.mon_wire.specs.declared.body.Body.{Body}
use Rattle.mon_wire.specs.declared.body.Body.TheVariants as body
use Rattle.mon_wire.specs.declared.kind.Kind.{Kind}
use Rattle.mon_wire.specs.declared.kind.Kind.TheVariants as kind
use Rattle.mon_wire.specs.declared.message.Message.{Message}
use Rattle.mon_wire.specs.declared.refusal.MsgRefused.{MsgRefused}
use Rattle.mon_wire.specs.Message.Format.{◌>>=◌, cut, Reader}
use Rattle.mon_wire.specs.Message.Fields.{number_at}
use Rattle.mon_wire.specs.Message.Whole.{kind_of, text, HasText, format_at, kind_at, sender_at, epoch_at}

-- ---- how they are read

-- readers of the numbers that a body begins with: none, one, two, a set of ranks, the first and last of some versions
abbrev pub none_at : Reader (ℕ × ℕ)
none_at c = Ok ((0, 0), c)

unfoldable pub one_at : Reader (ℕ × ℕ)
one_at c = do
  n ← number_at c
  Ok ((n.0, 0), n.1)

unfoldable pub two_at : Reader (ℕ × ℕ)
two_at c = do
  n ← number_at c
  m ← number_at n.1
  Ok ((n.0, m.0), m.1)

unfoldable pub ranks_at : Reader (ℕ × ℕ)
ranks_at c = do
  n ← cut (number 2 c)
  Ok ((n.0, 0), n.1)

unfoldable pub range_at : Reader (ℕ × ℕ)
range_at c = do
  from ← number_at c
  count ← cut (number 2 from.1)
  Ok ((from.0, from.0 + count.0 - 1), count.1)

abbrev pub numbers_at : Kind → Reader (ℕ × ℕ)
numbers_at kind.Probe = none_at
numbers_at kind.ProbeReply = none_at
numbers_at kind.Propose = none_at
numbers_at kind.Ack = none_at
numbers_at kind.Victory = ranks_at
numbers_at kind.Collect = one_at
numbers_at kind.Last = one_at
numbers_at kind.Begin = two_at
numbers_at kind.Accept = two_at
numbers_at kind.Commit = range_at
numbers_at kind.Lease = one_at
numbers_at kind.LeaseAck = one_at
numbers_at kind.Forward = one_at
numbers_at kind.Route = one_at
numbers_at kind.GetCookieFull = none_at
numbers_at kind.GetCookieRecent = one_at
numbers_at kind.Cookie = none_at
numbers_at kind.GetChunk = two_at
numbers_at kind.Chunk = two_at
numbers_at kind.LastChunk = two_at
numbers_at kind.NoCookie = two_at
numbers_at kind.Ping = none_at
numbers_at kind.PingReply = none_at
numbers_at kind.Request = one_at
numbers_at kind.Reply = one_at

unfoldable pub header_at : Reader Header
header_at c = do
  format ← format_at c
  kind ← kind_at format.1
  sender ← sender_at kind.0 kind.1
  epoch ← epoch_at kind.0 sender.1
  numbers ← numbers_at (kind_of kind.0) epoch.1
  Ok (record { kind = kind_of kind.0; from = sender.0.0; monitors = sender.0.1; epoch = epoch.0; first = numbers.0.0; second = numbers.0.1 }, numbers.1)

abbrev pub read_in : {A : Type 0} → Result (A × Reading) MsgRefused → Option A
read_in (Ok x) = Some x.0
read_in (Err e) = None

-- the header at the front of the bytes, if there is one
unfoldable pub header_of : List ℕ → Option Header
header_of bytes = read_in (header_at (record { at = 0; rest = bytes }))

-- ---- kinds

abbrev pub kind_byte : Kind → ℕ
kind_byte kind.Probe = 1
kind_byte kind.ProbeReply = 2
kind_byte kind.Propose = 3
kind_byte kind.Ack = 4
kind_byte kind.Victory = 5
kind_byte kind.Collect = 6
kind_byte kind.Last = 7
kind_byte kind.Begin = 8
kind_byte kind.Accept = 9
kind_byte kind.Commit = 10
kind_byte kind.Lease = 11
kind_byte kind.LeaseAck = 12
kind_byte kind.Forward = 13
kind_byte kind.Route = 14
kind_byte kind.GetCookieFull = 15
kind_byte kind.GetCookieRecent = 16
kind_byte kind.Cookie = 17
kind_byte kind.GetChunk = 18
kind_byte kind.Chunk = 19
kind_byte kind.LastChunk = 20
kind_byte kind.NoCookie = 21
kind_byte kind.Ping = 22
kind_byte kind.PingReply = 23
kind_byte kind.Request = 24
kind_byte kind.Reply = 25

abbrev pub same_kind : Kind → Kind → Bool
same_kind a b = kind_byte a == kind_byte b

-- ---- what they are of a message

abbrev pub kind_in : Body → Kind
kind_in body.Probe = kind.Probe
kind_in (body.ProbeReply quorum first last) = kind.ProbeReply
kind_in (body.Propose t) = kind.Propose
kind_in body.Ack = kind.Ack
kind_in (body.Victory quorum) = kind.Victory
kind_in (body.Collect pn first last) = kind.Collect
kind_in (body.Last pn first l whole from values pending) = kind.Last
kind_in (body.Begin pn version v) = kind.Begin
kind_in (body.Accept pn version) = kind.Accept
kind_in (body.Commit from values) = kind.Commit
kind_in (body.Lease l) = kind.Lease
kind_in (body.LeaseAck l) = kind.LeaseAck
kind_in (body.Forward seq command) = kind.Forward
kind_in (body.Route seq reply) = kind.Route
kind_in body.GetCookieFull = kind.GetCookieFull
kind_in (body.GetCookieRecent l) = kind.GetCookieRecent
kind_in (body.Cookie full k l) = kind.Cookie
kind_in (body.GetChunk k at) = kind.GetChunk
kind_in (body.Chunk k at values entries done) = kind.Chunk
kind_in (body.LastChunk k at values entries l) = kind.LastChunk
kind_in (body.NoCookie k) = kind.NoCookie
kind_in (body.Ping t) = kind.Ping
kind_in (body.PingReply t) = kind.PingReply
kind_in (body.Request id r) = kind.Request
kind_in (body.Reply id r) = kind.Reply

abbrev pub numbers_in : Body → ℕ × ℕ
numbers_in body.Probe = (0, 0)
numbers_in (body.ProbeReply quorum first last) = (0, 0)
numbers_in (body.Propose t) = (0, 0)
numbers_in body.Ack = (0, 0)
numbers_in (body.Victory quorum) = (to_bits quorum, 0)
numbers_in (body.Collect pn first last) = (pn, 0)
numbers_in (body.Last pn first l whole from values pending) = (pn, 0)
numbers_in (body.Begin pn version v) = (pn, version)
numbers_in (body.Accept pn version) = (pn, version)
numbers_in (body.Commit from values) = (from, from + length values - 1)
numbers_in (body.Lease l) = (l, 0)
numbers_in (body.LeaseAck l) = (l, 0)
numbers_in (body.Forward seq command) = (seq, 0)
numbers_in (body.Route seq reply) = (seq, 0)
numbers_in body.GetCookieFull = (0, 0)
numbers_in (body.GetCookieRecent l) = (l, 0)
numbers_in (body.Cookie full k l) = (0, 0)
numbers_in (body.GetChunk k at) = (k.boot, k.seq)
numbers_in (body.Chunk k at values entries done) = (k.boot, k.seq)
numbers_in (body.LastChunk k at values entries l) = (k.boot, k.seq)
numbers_in (body.NoCookie k) = (k.boot, k.seq)
numbers_in (body.Ping t) = (0, 0)
numbers_in (body.PingReply t) = (0, 0)
numbers_in (body.Request id r) = (id, 0)
numbers_in (body.Reply id r) = (id, 0)

abbrev pub heading : Message → Header
heading m = record { kind = kind_in m.body; from = m.from; monitors = m.monitors; epoch = m.epoch; first = (numbers_in m.body).0; second = (numbers_in m.body).1 }

-- The header of a message's encoding, or of its first n bytes, is the message's own.
abbrev pub ReadsHeaders : Type 0
ReadsHeaders = (m : Message) (n : ℕ) → HasText m → 28 ≤ n → header_of (take n (text m)) ≡ Some (heading m)
