-- The acts by which commands become values.
use Rattle.std.specs.Prelude.{ℕ, suc, List, Some, Result, Ok, [], ◌∷◌, Err}
use Rattle.mon_bytes.specs.declared.command.Command.{Command}
use Rattle.mon_bytes.specs.declared.command.CommandRefused.TheVariants as refused
use Rattle.mon_bytes.specs.declared.command.CommandRefused.{CommandRefused}
use Rattle.mon_msg.specs.Protocol.Course.{Course, ◌▸◌, ◌>>=◌, checked, clients_are, arm_if}
use Rattle.mon_msg.specs.Protocol.Leading.{has_queue, begin}
use Rattle.mon_msg.specs.Protocol.Sending.{answer}
use Rattle.mon_msg.specs.Protocol.Services.{service_last}
use Rattle.mon_msg.specs.Protocol.Value.{service_of, value}
use Rattle.mon_msg.specs.declared.clients.Waiting.{Waiting}
use Rattle.mon_msg.specs.declared.paxos.LeaderStage.TheVariants as stage
use Rattle.mon_wire.specs.declared.phase.Timer.TheVariants as timer
use Rattle.mon_msg.specs.declared.plan.Origin.TheVariants as origin
use Rattle.mon_msg.specs.declared.plan.Origin.{Origin}
use Rattle.mon_wire.specs.declared.reply.Reply.TheVariants as reply
use Rattle.mon_wire.specs.declared.reply.Reply.{Reply}
use Rattle.mon_msg.specs.declared.view.Me.{Me}
use Rattle.mon_tx.specs.declared.op.Op.{Op}
use Rattle.mon_types.specs.declared.names.Which.TheVariants as which
use Rattle.mon_types.specs.declared.names.Which.{Which}

abbrev pub refusal : CommandRefused → Reply
refusal refused.NoSuch = reply.NoSuch
refusal (refused.TooLong len most) = reply.TooLong len most
refusal (refused.MapFull would_be) = reply.MapFull would_be
-- the value of a command is never refused for this
refusal refused.OutOfMemory = reply.Unavailable

-- the monitor that was asked
abbrev pub asked_of : Me → Origin → ℕ
asked_of me (origin.Session session) = me.member.rank
asked_of me (origin.Forwarded rank seq) = rank

module _ (me : Me) (now : ℕ) where
  abbrev pub begin_made : Origin → Result (List Op) CommandRefused → Course → Result Course Which
  begin_made o (Ok value) x = begin me now stage.Updating value (Some o) x
  begin_made o (Err e) x = Ok (x ▸ answer me o (refusal e) ▸ arm_if (has_queue x) now timer.Propose)

  -- a command makes the next version of its service
  unfoldable pub propose : Command → Origin → Course → Result Course Which
  propose c o x = do
    _ ← checked which.Version (suc (service_last x.readings (service_of c)))
    begin_made o (value x.readings c (asked_of me o)) x

  abbrev pub propose_first : List Waiting → Course → Result Course Which
  propose_first [] x = Ok x
  propose_first (w ∷ waiting) x =
      x ▸ clients_are (record x.state.clients { queue = waiting }) ▸ propose w.command w.origin

  -- the first command that waits
  unfoldable pub propose_next : Course → Result Course Which
  propose_next x = propose_first x.state.clients.queue x
