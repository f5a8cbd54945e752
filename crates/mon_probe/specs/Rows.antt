-- The inputs of a prober, and what is known when its rows and its act are proved.
use Rattle.std.specs.Prelude.{◌≡◌, ℕ, Bool, true, false, nat_lt, Result}
use Rattle.mon_msg.specs.Protocol.Course.{Course, prober_is}
use Rattle.mon_msg.specs.Protocol.Readings.{Readings, epoch_of, readings_of}
use Rattle.mon_msg.specs.declared.election.Prober.{Prober}
use Rattle.mon_msg.specs.declared.input.Input.TheVariants as input
use Rattle.mon_msg.specs.declared.input.Input.{Input}
use Rattle.mon_msg.specs.declared.plan.Plan.{Plan}
use Rattle.mon_msg.specs.declared.plan.RoleStop.{RoleStop}
use Rattle.mon_msg.specs.declared.view.Me.{Me}
use Rattle.mon_msg.specs.declared.view.View.{View}
use Rattle.mon_plan.specs.Plans.{PlansRow}
use Rattle.mon_plan.specs.Seen.{IsMet}
use Rattle.mon_types.specs.declared.names.Which.{Which}
use Rattle.mon_wire.specs.declared.body.Body.TheVariants as body
use Rattle.mon_wire.specs.declared.body.Body.{Body}
use Rattle.mon_wire.specs.declared.phase.Timer.TheVariants as timer
use Rattle.mon_wire.specs.declared.phase.Timer.{Timer}
use Rattle.mon_probe.specs.declared.here.Here.{Here}

-- what monitors say to each other while one of them probes
abbrev pub is_role_message : Body → Bool
is_role_message body.Probe = true
is_role_message (body.ProbeReply quorum first last) = true
is_role_message b = false

abbrev pub is_rung : Timer → Bool
is_rung timer.Probe = true
is_rung t = false

-- the inputs of a prober
abbrev pub is_input : Input → Bool
is_input input.Start = false
is_input (input.Deliver m) = is_role_message m.body
is_input (input.Timer t) = is_rung t
is_input (input.Client session r) = false

-- a call's result is this row of the table, if the store's readers return w, and the prober sees `view` and remembers s
abbrev pub PlansProbe : Me → (now : ℕ) → Readings → View → Prober → (Course → Result Course Which) →
    Result (Plan Prober) RoleStop → Type 0
PlansProbe me now w view s row result =
    PlansRow me now prober_is (IsMet me now w view (λ state. state.prober) s) row result

-- a call's result is this row of the table
abbrev pub ByRow : Here → (now : ℕ) → (Course → Result Course Which) → Result (Plan Prober) RoleStop → Type 0
ByRow here now row result =
    PlansProbe here.me.now now (readings_of here.stored.now) here.view.now here.state.now row result

-- An event under way in which a monitor bootstraps in epoch e. If it is alone in its map, the mark is that from before
-- the event.
pub record IsBegun (me : Me) (w : Readings) (e : ℕ) (x : Course) : Type 0 where
  pub epoch : epoch_of x.readings ≡ e
  pub marked : nat_lt 1 me.member.monitors ≡ false → x.readings.marked ≡ w.marked
