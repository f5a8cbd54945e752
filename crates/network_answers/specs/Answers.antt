-- What processes answer clients over a history. The reads and writes of an epoch have one order, and each refusal
-- follows from the one log.
use Rattle.std.specs.Prelude.{◌≡◌, ◌⊎◌, ℕ, ◌<◌, ◌≤◌, List, length, Some, Err}
use Rattle.std.specs.List.{AllByRecursion, Contains}
use Rattle.log_model.specs.LogOfValues.{view_at}
use Rattle.mon_bytes.specs.declared.command.Command.{Command}
use Rattle.mon_bytes.specs.declared.command.CommandRefused.{CommandRefused}
use Rattle.mon_msg.specs.Fold.{entry, incrementals, map_of_log, put_in, version_of_log}
use Rattle.mon_msg.specs.Protocol.Proposing.{refusal}
use Rattle.mon_msg.specs.Protocol.Value.{value}
use Rattle.mon_tx.specs.Decode.{ops_in}
use Rattle.mon_wire.specs.Message.Whole.{HasText, text}
use Rattle.mon_wire.specs.declared.message.Message.{Message}
use Rattle.mon_wire.specs.declared.reply.Reply.{Reply}
use Rattle.mon_wire.specs.declared.reply.Reply.TheVariants as reply
use Rattle.mon_wire.specs.declared.request.Request.{Request}
use Rattle.mon_wire.specs.declared.request.Request.TheVariants as request
use Rattle.mon_wire.specs.declared.request.Session.{Session}
use Rattle.quorum_answers.specs.Changes.{HasNext}
use Rattle.quorum_answers.specs.Reads.{Shows}
use Rattle.quorum_model.specs.Clients.{command_of, made_by}
use Rattle.quorum_model.specs.Shown.{AreAfter}
use Rattle.quorum_model.specs.World.{Acknowledgement, Asked}
use Rattle.quorum_network.specs.Running.{reply_message}
use Rattle.quorum_replies.specs.Kinds.{SaysNothing, kind_of}

-- ---- answers

-- What monitor `rank` answers in a session: the epoch that its REPLY names, the last version that the monitor had
-- then, and the reply.
pub record Answer : Type 0 where
  pub rank : ℕ
  pub session : Session
  pub epoch : ℕ
  pub last : ℕ
  pub reply : Reply

abbrev pub message_of : (n : ℕ) → Answer → Message
message_of n a = reply_message n a.rank a.epoch a.session a.reply

-- Bytes are the REPLY of monitor i of n to client c with one of these answers. They decode to that REPLY alone.
pub record IsAnswer (n : ℕ) (answers : List Answer) (i c : ℕ) (bytes : List ℕ) : Type 0 where
  pub answer : Answer
  pub among : Contains answers answer
  pub rank : answer.rank ≡ i
  pub client : answer.session.client ≡ c
  pub has_text : HasText (message_of n answer)
  pub is_text : bytes ≡ text (message_of n answer)

-- ---- what an answer says

-- a client asked this of monitor i in a session
abbrev pub Requested : List Asked → ℕ → Session → Request → Type 0
Requested requests i session r = Contains requests (record { rank = i; session = session; request = r })

-- Version v was acknowledged, and it has in the log what was acknowledged, which a command of this session makes.
pub record IsDone (requests : List Asked) (acks : List Acknowledgement) (log : List (List ℕ)) (i : ℕ) (session : Session)
    (v : ℕ) : Type 0 where
  pub acknowledgement : Acknowledgement
  pub among : Contains acks acknowledgement
  pub version : acknowledgement.version ≡ v
  pub some : 1 ≤ v
  pub within : v ≤ length log
  pub request : Request
  pub requested : Requested requests i session request
  pub made : made_by i request ≡ Some (acknowledgement.service, acknowledgement.incremental)
  pub put : Contains (put_in acknowledgement.service (ops_in (entry log v))) acknowledgement.incremental

-- What monitor i shows or acknowledges in a session is of the log, and was asked for. A map is that of the log up to the
-- last version that the monitor had. Changes are the log's up to that version, after the one that was asked for, and have
-- at least the next one, if there is one. Of a reply that shows or acknowledges nothing nothing is said here.
abbrev pub IsOfLog : List Asked → List Acknowledgement → List (List ℕ) → (i : ℕ) → Session → (last : ℕ) → Reply → Type 0
IsOfLog requests acks log i session last (reply.Shown s paxos version map) =
    (paxos ≡ last) × (map ≡ map_of_log s log paxos) × (version ≡ version_of_log s log paxos)
    × (Requested requests i session (request.Show s) ⊎ ((v : ℕ) × Requested requests i session (request.Since s v)))
IsOfLog requests acks log i session last (reply.Since s from told more) =
    AreAfter (incrementals s log last) from told more × HasNext (incrementals s log last) from told
    × Requested requests i session (request.Since s from)
IsOfLog requests acks log i session last (reply.Done v) = IsDone requests acks log i session v
IsOfLog requests acks log i session last other = SaysNothing (kind_of other)

-- The answer is the log's, and was asked for.
pub record IsOfThisLog (requests : List Asked) (acks : List Acknowledgement) (log : List (List ℕ)) (a : Answer)
    : Type 0 where
  pub within : a.last ≤ length log
  pub of_log : IsOfLog requests acks log a.rank a.session a.last a.reply

-- ---- reads and writes

-- Writes and answers before some point in time are in order with those after it. The place of a write in the log is its
-- version. The place of an answer that shows something is the last version that its monitor had. In one epoch the order
-- in time is the order in the log, whichever monitors answer. What one monitor shows has this order in all its epochs.
pub record AreInOrder (writes : List Acknowledgement) (answers : List Answer) (later_writes : List Acknowledgement)
    (later_answers : List Answer) : Type 0 where
  pub write_write : (a b : Acknowledgement) → Contains writes a → Contains later_writes b → a.epoch ≡ b.epoch
      → a.version < b.version
  pub write_read : (a : Acknowledgement) (b : Answer) → Contains writes a → Contains later_answers b → a.epoch ≡ b.epoch
      → Shows b.reply → a.version ≤ b.last
  pub read_write : (a : Answer) (b : Acknowledgement) → Contains answers a → Contains later_writes b → a.epoch ≡ b.epoch
      → Shows a.reply → a.last < b.version
  pub read_read : (a b : Answer) → Contains answers a → Contains later_answers b → a.epoch ≡ b.epoch
      → Shows a.reply → Shows b.reply → a.last ≤ b.last
  pub of_monitor : (a b : Answer) → Contains answers a → Contains later_answers b → a.rank ≡ b.rank
      → Shows a.reply → Shows b.reply → a.last ≤ b.last

-- ---- refusals

-- version v is no older than those that were acknowledged before in this epoch
abbrev pub IsNoOlder : List Acknowledgement → (epoch : ℕ) → (v : ℕ) → Type 0
IsNoOlder before epoch v = AllByRecursion (λ (a : Acknowledgement). a.epoch ≡ epoch → a.version ≤ v) before

-- The answer's session asked a command of its monitor, and the command's service refuses it so over the log up to this
-- version. `before` and `acks` are what was asked and acknowledged by some point in time. If the command wasn't asked
-- by then, the version is no older than any that was acknowledged by then in the answer's epoch.
pub record IsRefused (before requests : List Asked) (acks : List Acknowledgement) (log : List (List ℕ)) (a : Answer)
    : Type 0 where
  pub request : Request
  pub requested : Requested requests a.rank a.session request
  pub command : Command
  pub is : command_of request ≡ Some command
  pub version : ℕ
  pub within : version ≤ length log
  pub why : CommandRefused
  pub refused : value (view_at log version) command a.rank ≡ Err why
  pub says : a.reply ≡ refusal why
  pub since : Requested before a.rank a.session request ⊎ IsNoOlder acks a.epoch version
