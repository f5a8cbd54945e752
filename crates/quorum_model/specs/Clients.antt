-- What clients ask, and which of a monitor's sends are messages and which are replies to clients.
use Rattle.std.specs.Prelude.{ℕ, List, [], ◌∷◌, ◌++◌, Option, Some, None}
use Rattle.std.specs.List.{filter_map}
use Rattle.std.specs.Option.{option_map}
use Rattle.mon_bytes.specs.declared.command.Command.{Command}
use Rattle.mon_bytes.specs.declared.command.Command.TheVariants as command
use Rattle.mon_tx.specs.Map.{Store}
use Rattle.map_kv.specs.declared.inc.KvInc.TheVariants as kv
use Rattle.map_kv.specs.Text as kv_text
use Rattle.map_log.specs.Text as log_text
use Rattle.mon_msg.specs.Protocol.Value.{service_of}
use Rattle.mon_msg.specs.Protocol.Readings.{readings_of, epoch_of}
use Rattle.mon_msg.specs.declared.plan.Sent.{Sent}
use Rattle.mon_msg.specs.declared.plan.Sent.TheVariants as sent
use Rattle.mon_wire.specs.declared.request.Request.{Request}
use Rattle.mon_wire.specs.declared.request.Request.TheVariants as request
use Rattle.mon_wire.specs.declared.request.Service.{Service}
use Rattle.quorum_model.specs.Growth.{last_of}
use Rattle.quorum_model.specs.World.{Plain, Client, Envelope, Asked, Replied}

-- the command of a request, if the request is one
abbrev pub command_of : Request → Option Command
command_of (request.Set key value) = Some (command.Set key value)
command_of (request.Remove key) = Some (command.Remove key)
command_of (request.Log text) = Some (command.Log text)
command_of other = None

-- the incremental that a command makes for its service, if the monitor of this rank was asked
abbrev pub incremental_of : ℕ → Command → List ℕ
incremental_of rank (command.Set key value) = kv_text.inc_text (kv.Set key value)
incremental_of rank (command.Remove key) = kv_text.inc_text (kv.Remove key)
incremental_of rank (command.Log text) = log_text.inc_text (record { rank = rank; text = text })

-- the service that a request changes, and the incremental that it makes
abbrev pub made_by : ℕ → Request → Option (Service × List ℕ)
made_by rank r = option_map (λ c. (service_of c, incremental_of rank c)) (command_of r)

-- A client's request is noted when it comes, whether or not it has an effect.
abbrev pub with_asked : Plain → List Asked → List Asked
with_asked (Client rank at session r) asked = asked ++ record { rank = rank; session = session; request = r } ∷ []
with_asked other asked = asked

-- ---- what is sent

abbrev pub envelope_of : Sent → Option Envelope
envelope_of (sent.Message to m) = Some (record { to = to; message = m })
envelope_of (sent.Reply to r) = None

abbrev pub messages_of : List Sent → List Envelope
messages_of sends = filter_map envelope_of sends

-- the reply that a send is, if it is one; the monitor of this rank keeps m when it sends it
abbrev pub reply_of : (event rank : ℕ) → Store → Sent → Option Replied
reply_of event rank m (sent.Reply to r) =
    Some (record { event = event; rank = rank; epoch = epoch_of (readings_of m); last = last_of m; session = to; reply = r })
reply_of event rank m (sent.Message to message) = None

abbrev pub replies_of : (event rank : ℕ) → Store → List Sent → List Replied
replies_of event rank m sends = filter_map (reply_of event rank m) sends
