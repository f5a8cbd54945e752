-- A client's command is answered.
use Rattle.mon_bytes.specs.declared.command.Command.{Command}
use Rattle.mon_bytes.specs.declared.command.CommandRefused.{CommandRefused}
use Rattle.mon_msg.specs.Protocol.Proposing.{refusal}
use Rattle.mon_msg.specs.Protocol.Value.{value}
use Rattle.mon_wire.specs.declared.reply.Reply.TheVariants as reply
use Rattle.mon_wire.specs.declared.reply.Reply.{Reply}
use Rattle.mon_wire.specs.declared.request.Session.{Session}
use Rattle.quorum_elects.specs.Ready.{IsReady}
use Rattle.quorum_elects.specs.Ways.{Clock, ComesInLease, HasWay}
use Rattle.quorum_laws.specs.Accepting.{IsMajorityOf, readings_at}
use Rattle.quorum_model.specs.Agree.{IsAsked}
use Rattle.quorum_model.specs.CalmSchedule.{request_of}
use Rattle.quorum_model.specs.Monitors.{Monitors}
use Rattle.quorum_model.specs.Runs.{run}
use Rattle.quorum_model.specs.World.{Asked, Event, Replied, World}
use Rattle.std.specs.List.{Contains}
use Rattle.std.specs.Prelude.{Bool, Err, List, Option, [], length, suc, ℕ, ◌+◌, ◌<◌, ◌∷◌, ◌≡◌, ◌≤◌, ◌⊎◌}

-- The reply says that version v + 1 is done, and that version of the log is what was asked. The log before didn't have
-- that version, and lacked at most one version below it.
pub record IsDone (n : ℕ) (before after : World) (asked : Asked) (r : Reply) : Type 0 where
  pub v : ℕ
  pub done : r ≡ reply.Done (suc v)
  pub new : length before.log ≤ v
  pub near : v ≤ length before.log + 1
  pub within : v < length after.log
  pub made : IsAsked n (asked ∷ []) after.log v

-- the service refuses the command over what the monitor's store has
pub record IsRefused (c : Command) (after : World) (by : ℕ) (r : Reply) : Type 0 where
  pub why : CommandRefused
  pub made : value (readings_at after by) c by ≡ Err why
  pub refused : r ≡ refusal why

-- An event after `before` replied to the session: its command is done, or is refused.
pub record IsServed (n : ℕ) (s : Session) (c : Command) (before after : World) : Type 0 where
  pub by : Replied
  pub among : Contains after.replied by
  pub later : before.events < by.event
  pub session : by.session ≡ s
  pub answer : IsDone n before after (record { rank = by.rank; session = s; request = request_of c }) by.reply
      ⊎ IsRefused c after by.rank by.reply

-- There is a majority that has a way on to `Leads` if it is ready to serve. The premise on times is that the command
-- comes before the end of its leader's lease.
pub record SomeWay (ms : Monitors) (events : List Event) (asks : Option (Session × Command)) (clock : Clock)
    (most : ℕ) (Leads : World → World → Type 0) : Type 0 where
  pub by : List Bool
  pub major : IsMajorityOf ms.count by
  pub way : IsReady ms by (run ms events) → ComesInLease by clock → HasWay ms events by asks clock most Leads
