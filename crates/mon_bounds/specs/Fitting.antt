-- What a monitor may receive, and what it may send: messages and transactions that aren't too long.
use Rattle.std.specs.List.{AllByRecursion}
use Rattle.std.specs.Prelude.{ℕ, ◌<◌, ◌≤◌, IsTrue, List, [], length}
use Rattle.log_model.specs.LogOfValues.{IsCommand}
use Rattle.mon_bytes.specs.Texts.{is_name, is_prefix}
use Rattle.mon_bytes.specs.declared.command.Command.TheVariants as command
use Rattle.mon_bytes.specs.declared.command.Command.{Command}
use Rattle.mon_bytes.specs.declared.entry.Entry.{Entry}
use Rattle.mon_bounds.specs.Remembered.{IsNumber, MayRemember}
use Rattle.mon_msg.specs.Protocol.Commands.{text_length}
use Rattle.mon_msg.specs.Protocol.Length.{fits}
use Rattle.mon_msg.specs.Protocol.Reaction.{Reaction}
use Rattle.mon_msg.specs.declared.input.Input.TheVariants as input
use Rattle.mon_msg.specs.declared.input.Input.{Input}
use Rattle.mon_msg.specs.declared.plan.Sent.TheVariants as sent
use Rattle.mon_msg.specs.declared.plan.Sent.{Sent}
use Rattle.mon_msg.specs.declared.view.Me.{Me}
use Rattle.mon_tx.specs.Text.{text, most}
use Rattle.mon_wire.specs.Message.Whole.{IsMessage}
use Rattle.mon_wire.specs.declared.body.Body.TheVariants as body
use Rattle.mon_wire.specs.declared.body.Body.{Body}
use Rattle.mon_wire.specs.declared.message.Message.{Message}
use Rattle.mon_wire.specs.declared.reply.Reply.{Reply}
use Rattle.mon_wire.specs.declared.request.Request.TheVariants as request
use Rattle.mon_wire.specs.declared.request.Request.{Request}
use Rattle.mon_wire.specs.declared.request.Session.{Session}

-- ---- inputs that may come

-- a command as clients ask it, however long its value or text is
abbrev pub MayAsk : Command → Type 0
MayAsk c = IsCommand c × IsNumber (text_length c)

abbrev pub IsRequest : Request → Type 0
IsRequest (request.Set key value) = MayAsk (command.Set key value)
IsRequest (request.Remove key) = MayAsk (command.Remove key)
IsRequest (request.Log text) = MayAsk (command.Log text)
IsRequest (request.Show s) = Unit {0}
IsRequest (request.Since s version) = IsNumber version

-- a valid input: a message has the form of messages and isn't too long, and a client's request has the form of
-- requests and a valid session number
abbrev pub IsValidInput : Input → Type 0
IsValidInput input.Start = Unit {0}
IsValidInput (input.Deliver m) = IsMessage m × IsTrue (fits m.monitors m.body)
IsValidInput (input.Timer t) = Unit {0}
IsValidInput (input.Client session r) = IsNumber session.id × IsRequest r

-- ---- messages that may be sent

-- an entry whose prefix and key have their forms
abbrev pub IsNamed : Entry → Type 0
IsNamed e = IsTrue (is_prefix e.prefix) × IsTrue (is_name e.key)

-- the entries of its store that a monitor sends in a message
abbrev pub entries_in : Body → List Entry
entries_in (body.Chunk cookie place values entries done) = entries
entries_in (body.LastChunk cookie place values entries last) = entries
entries_in other = []

-- A message that may be sent isn't too long. It has the form of messages if its entries of a store have prefixes and
-- keys of their forms.
pub record MayGo (m : Message) : Type 0 where
  pub form : AllByRecursion IsNamed (entries_in m.body) → IsMessage m
  pub fits : IsTrue (fits m.monitors m.body)

-- the message that carries a client's answer in an epoch
abbrev pub answer_in : Me → (epoch : ℕ) → Session → Reply → Message
answer_in me epoch session r = record {
  from = me.member.rank;
  monitors = me.member.monitors;
  epoch = epoch;
  body = body.Reply session.id r;
}

-- a message to a monitor of the map, or an answer to a client, which may be sent
abbrev pub MaySend : Me → Sent → Type 0
MaySend me (sent.Message to m) = (to < me.member.monitors) × MayGo m
MaySend me (sent.Reply to r) = (epoch : ℕ) → IsNumber epoch → MayGo (answer_in me epoch to r)

-- a transaction that a store takes, messages that may be sent, and what may be remembered
pub record IsBounded (me : Me) (r : Reaction) : Type 0 where
  pub transaction : length (text r.transaction) ≤ most
  pub sends : AllByRecursion (MaySend me) r.sends
  pub state : MayRemember me r.state
