-- A refusal is the one that the service gives over the log, to a command that was asked.
use Rattle.std.specs.Prelude.{◌≡◌, ℕ, ◌≤◌, ◌⊎◌, length, Some, Err}
use Rattle.std.specs.List.{AllByRecursion, Contains}
use Rattle.log_model.specs.LogOfValues.{view_at}
use Rattle.mon_bytes.specs.declared.command.Command.{Command}
use Rattle.mon_bytes.specs.declared.command.CommandRefused.{CommandRefused}
use Rattle.mon_msg.specs.Protocol.Proposing.{refusal}
use Rattle.mon_msg.specs.Protocol.Value.{value}
use Rattle.mon_wire.specs.declared.reply.Reply.{Reply}
use Rattle.mon_wire.specs.declared.request.Session.{Session}
use Rattle.quorum_model.specs.Clients.{command_of}
use Rattle.quorum_model.specs.World.{World, Asked}
use Rattle.quorum_replies.specs.Kinds.{IsRefusing, kind_of}

-- a reply by which a service refuses a command
abbrev pub IsRefusalReply : Reply → Type 0
IsRefusalReply r = IsRefusing (kind_of r)

-- no version above this one was acknowledged in the epoch, in this world
abbrev pub CoversAll : World → (epoch version : ℕ) → Type 0
CoversAll w epoch version = AllByRecursion (λ a. a.what.epoch ≡ epoch → a.what.version ≤ version) w.acknowledged

-- Session t asked a command of monitor i, and the command's service refuses it with r over the log's versions up to
-- `version`. If the command wasn't asked in `before`, these include all that were acknowledged in `before` in epoch e.
-- A request that a session repeats on one monitor counts as asked when it is asked first.
pub record IsRefused (before w : World) (i : ℕ) (t : Session) (e : ℕ) (r : Reply) : Type 0 where
  pub asked : Asked
  pub was_asked : Contains w.asked asked
  pub rank : asked.rank ≡ i
  pub session : asked.session ≡ t
  pub command : Command
  pub is : command_of asked.request ≡ Some command
  pub version : ℕ
  pub within : version ≤ length w.log
  pub why : CommandRefused
  pub refused : value (view_at w.log version) command i ≡ Err why
  pub says : r ≡ refusal why
  pub since : Contains before.asked asked ⊎ CoversAll before e version

-- Each reply in w that refuses a command is such a refusal. World `before` is an earlier one of the same run.
abbrev pub AllRefused : (before w : World) → Type 0
AllRefused before w =
    AllByRecursion (λ r. IsRefusalReply r.reply → IsRefused before w r.rank r.session r.epoch r.reply) w.replied
