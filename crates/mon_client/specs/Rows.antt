-- The inputs of clients' commands and reads, and what their calls answer.
use Rattle.std.specs.Prelude.{◌≡◌, ℕ, Bool, true, false, not, Option, Some, None, Result, if◌then◌else◌}
use Rattle.mon_msg.specs.Protocol.Course.{Course, clients_are}
use Rattle.mon_msg.specs.Protocol.Phases.{is_member}
use Rattle.mon_msg.specs.Protocol.Readings.{Readings, readings_of}
use Rattle.mon_msg.specs.declared.clients.Clients.{Clients}
use Rattle.mon_msg.specs.declared.input.Input.TheVariants as input
use Rattle.mon_msg.specs.declared.input.Input.{Input}
use Rattle.mon_msg.specs.declared.plan.Plan.{Plan}
use Rattle.mon_msg.specs.declared.plan.RoleStop.{RoleStop}
use Rattle.mon_msg.specs.declared.view.Me.{Me}
use Rattle.mon_msg.specs.declared.view.View.{View}
use Rattle.mon_types.specs.declared.names.Which.{Which}
use Rattle.mon_plan.specs.Plans.{PlansRow}
use Rattle.mon_plan.specs.Seen.{IsMet, IsSeen}
use Rattle.mon_client.specs.declared.here.Here.{Here}
use Rattle.mon_wire.specs.declared.body.Body.TheVariants as body
use Rattle.mon_wire.specs.declared.body.Body.{Body}
use Rattle.mon_wire.specs.declared.phase.Timer.TheVariants as timer
use Rattle.mon_wire.specs.declared.phase.Timer.{Timer}
use Rattle.mon_wire.specs.declared.reply.Reply.TheVariants as reply
use Rattle.mon_wire.specs.declared.reply.Reply.{Reply}
use Rattle.mon_wire.specs.declared.request.Request.TheVariants as request
use Rattle.mon_wire.specs.declared.request.Request.{Request}

-- what a peon hands on, and what its leader answers
abbrev pub is_role_message : Body → Bool
is_role_message (body.Forward seq c) = true
is_role_message (body.Route seq r) = true
is_role_message b = false

abbrev pub is_rung : Timer → Bool
is_rung timer.Propose = true
is_rung t = false

-- Whether a request is one of this role's. The core itself shows maps.
abbrev pub is_asked : Request → Bool
is_asked (request.Show s) = false
is_asked r = true

abbrev pub is_input : Input → Bool
is_input input.Start = false
is_input (input.Deliver m) = is_role_message m.body
is_input (input.Timer t) = is_rung t
is_input (input.Client session r) = is_asked r

-- the reply to a client if nothing may be read now, by what is seen
abbrev pub unreadable : Readings → View → Option Reply
unreadable w view =
    if not (is_member view.phase) then Some reply.Unavailable
    else (if not view.readable then Some (reply.NotReadable w.last view.standing) else None)

-- An event under way, whatever is remembered of clients: the store's readers return this, and the other roles are seen so.
pub record IsUnderWay (me : Me) (now : ℕ) (w : Readings) (view : View) (x : Course) : Type 0 where
  pub readings : x.readings ≡ w
  pub seen : IsSeen me now x.readings x.state view

module _ (here : Here) (clients : Clients) (row : Course → Result Course Which) where
  -- a call's answer, by a row of the table, if these clients are remembered
  abbrev pub ByRow : Result (Plan Clients) RoleStop → Type 0
  ByRow result =
      PlansRow here.me.now here.time clients_are
      (IsMet here.me.now here.time (readings_of here.kv.now) here.view.now (λ s. s.clients) clients) row result

  -- the same for a role that first replaces whatever it remembers by these clients
  abbrev pub ByRowOnce : Result (Plan Clients) RoleStop → Type 0
  ByRowOnce result =
      PlansRow here.me.now here.time clients_are
      (IsUnderWay here.me.now here.time (readings_of here.kv.now) here.view.now) (λ x. row (clients_are clients x)) result
