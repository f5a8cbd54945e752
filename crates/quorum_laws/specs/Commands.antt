-- The requests that the commands come from which monitors hand on or keep waiting.
use Rattle.log_model.specs.LogOfValues.{IsCommand}
use Rattle.mon_bytes.specs.declared.command.Command.{Command}
use Rattle.mon_msg.specs.Protocol.Phases.{is_leading, is_peon}
use Rattle.mon_msg.specs.Protocol.State.{State}
use Rattle.mon_msg.specs.declared.plan.Origin.TheVariants as origin
use Rattle.mon_msg.specs.declared.plan.Origin.{Origin}
use Rattle.mon_wire.specs.declared.body.Body.TheVariants as body
use Rattle.mon_wire.specs.declared.body.Body.{Body}
use Rattle.mon_wire.specs.declared.request.Session.{Session}
use Rattle.quorum_model.specs.Clients.{command_of}
use Rattle.quorum_model.specs.World.{Asked, Envelope, World}
use Rattle.std.proofs.Common.{List, Some, true, ℕ, ◌<◌, ◌≡◌}
use Rattle.std.specs.List.{AllByRecursion, Contains}

-- this session asked this command of one of n monitors
pub record WasAsked (n : ℕ) (asked : List Asked) (rank : ℕ) (s : Session) (c : Command) : Type 0 where
  pub by : Asked
  pub among : Contains asked by
  pub at : by.rank ≡ rank
  pub below : rank < n
  pub session : by.session ≡ s
  pub command : command_of by.request ≡ Some c
  pub form : IsCommand c

abbrev pub SomeAsked : ℕ → List Asked → ℕ → Command → Type 0
SomeAsked n asked rank c = (session : Session) × WasAsked n asked rank session c

-- a command that monitor i has from a session was asked of it, and one that a peon handed on was asked of that peon
abbrev pub HasOrigin : ℕ → List Asked → (i : ℕ) → Command → Origin → Type 0
HasOrigin n asked i c (origin.Session s) = WasAsked n asked i s c
HasOrigin n asked i c (origin.Forwarded f seq) = SomeAsked n asked f c

abbrev pub HandsOn : ℕ → List Asked → (from : ℕ) → Body → Type 0
HandsOn n asked from (body.Forward seq c) = SomeAsked n asked from c
HandsOn n asked from other = Unit {0}

-- A command that is handed on was asked of the monitor that hands it on. A command that waits at a leader has its
-- origin. Each session that waits at a peon asked that peon a command.
pub record CommandsHold (n : ℕ) (w : World) : Type 0 where
  pub messages : (e : Envelope) → Contains w.messages e → HandsOn n w.asked e.message.from e.message.body
  pub leaders : (i : ℕ) (s : State) → w.state i ≡ Some s → is_leading s.phase ≡ true → AllByRecursion (λ q. HasOrigin n w.asked i q.command q.origin) s.clients.queue
  pub peons : (i : ℕ) (s : State) → w.state i ≡ Some s → is_peon s.phase ≡ true → AllByRecursion (λ a. (c : Command) × WasAsked n w.asked i a.session c) s.clients.sessions
