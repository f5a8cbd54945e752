-- Messages whole: a header of twelve bytes, and a body.
use Rattle.std.specs.Prelude.{◌≡◌, ℕ, ◌-◌, ◌≤◌, ◌<◌, ◌^◌, ◌&&◌, not, List, [], ◌∷◌, ◌++◌, length, get_or, Result, Ok, Err, nat_lt, nat_le, ◌==◌, if◌then◌else◌}
use Rattle.mon_bytes.specs.Reading.{Reading, number}
use Rattle.mon_wire.specs.declared.kind.Kind.{Kind}
use Rattle.mon_wire.specs.declared.kind.Kind.TheVariants as kind
use Rattle.mon_wire.specs.declared.message.Message.{Message}
use Rattle.mon_wire.specs.declared.refusal.MsgKind.TheVariants as fault
use Rattle.mon_wire.specs.declared.refusal.MsgRefused.{MsgRefused}
use Rattle.mon_wire.specs.declared.refusal.MsgRefused.TheVariants as refused
use Rattle.mon_wire.specs.Message.Format.{◌>>=◌, cut, Reader}
use Rattle.mon_wire.specs.Message.Fields.{number_bytes, number_at}
use Rattle.mon_wire.specs.Message.Bodies.{encoded, body_at}
use Rattle.mon_wire.specs.Message.Length.{most_message}

-- the kind of a client's request, which names no sender and no epoch
abbrev pub asking : ℕ
asking = 24

-- the kinds, from 1 on
abbrev pub kinds : List Kind
kinds =
    kind.Probe ∷ kind.ProbeReply ∷ kind.Propose ∷ kind.Ack ∷ kind.Victory
    ∷ kind.Collect ∷ kind.Last ∷ kind.Begin ∷ kind.Accept ∷ kind.Commit
    ∷ kind.Lease ∷ kind.LeaseAck ∷ kind.Forward ∷ kind.Route ∷ kind.GetCookieFull
    ∷ kind.GetCookieRecent ∷ kind.Cookie ∷ kind.GetChunk ∷ kind.Chunk ∷ kind.LastChunk
    ∷ kind.NoCookie ∷ kind.Ping ∷ kind.PingReply ∷ kind.Request ∷ kind.Reply ∷ []

abbrev pub kind_of : ℕ → Kind
kind_of n = get_or kinds (n - 1) kind.Probe

-- ---- how messages are encoded

abbrev pub text : Message → List ℕ
text m = 1 ∷ (encoded m.monitors m.from m.body).tag ∷ m.from ∷ m.monitors ∷ (number_bytes m.epoch ++ (encoded m.monitors m.from m.body).text)

-- which messages there are
pub record IsMessage (m : Message) : Type 0 where
  pub sender : m.from < m.monitors
  pub monitors : m.monitors ≤ 15
  pub epoch : m.epoch ≤ 2 ^ 62
  pub asks : (encoded m.monitors m.from m.body).tag ≡ asking → (m.from ≡ 0) × (m.epoch ≡ 0)
  pub body : (encoded m.monitors m.from m.body).Form

pub record HasText (m : Message) : Type 0 where
  pub form : IsMessage m
  pub short : length (text m) ≤ most_message

-- ---- how they are read

unfoldable pub format_at : Reader ℕ
format_at c = do
  n ← cut (number 1 c)
  if n.0 == 1 then Ok n else Err (refused.At c.at fault.Format)

unfoldable pub kind_at : Reader ℕ
kind_at c = do
  n ← cut (number 1 c)
  if n.0 == 0 then Err (refused.At c.at fault.Kind) else (if nat_lt 25 n.0 then Err (refused.At c.at fault.Kind) else Ok n)

-- the sender's rank, and how many monitors there are
unfoldable pub sender_at : ℕ → Reader (ℕ × ℕ)
sender_at kind c = do
  rank ← cut (number 1 c)
  n ← cut (number 1 rank.1)
  if nat_le n.0 rank.0 then Err (refused.At c.at fault.From) else (
      if nat_lt 15 n.0 then Err (refused.At c.at fault.From) else (if kind == asking && not (rank.0 == 0) then Err (refused.At c.at fault.Value) else Ok ((rank.0, n.0), n.1)))

unfoldable pub epoch_at : ℕ → Reader ℕ
epoch_at kind c = do
  epoch ← number_at c
  if kind == asking && not (epoch.0 == 0) then Err (refused.At c.at fault.Value) else Ok epoch

unfoldable pub message_at : Reader Message
message_at c = do
  format ← format_at c
  kind ← kind_at format.1
  sender ← sender_at kind.0 kind.1
  epoch ← epoch_at kind.0 sender.1
  body ← body_at sender.0.1 sender.0.0 (kind_of kind.0) epoch.1
  Ok (record { from = sender.0.0; monitors = sender.0.1; epoch = epoch.0; body = body.0 }, body.1)

-- what was read, if nothing is left
unfoldable pub ended : {A : Type 0} → A × Reading → Result A MsgRefused
ended x = if length x.1.rest == 0 then Ok x.0 else Err (refused.At x.1.at fault.Rest)

-- the message that all of the rest encodes
unfoldable pub whole_at : Reading → Result Message MsgRefused
whole_at c = do
  message ← message_at c
  ended message

-- the message that all of the bytes encode, or the first fault
unfoldable pub message_of : List ℕ → Result Message MsgRefused
message_of bytes = if nat_lt most_message (length bytes) then Err (refused.At 0 fault.TooLong) else whole_at (record { at = 0; rest = bytes })
