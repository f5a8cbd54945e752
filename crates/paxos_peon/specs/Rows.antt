-- The inputs of a peon, and what is known when its rows are proved.
use Rattle.std.specs.Prelude.{◌≡◌, ℕ, Bool, true, false, List, [], ◌∷◌, nat_lt, Result, if◌then◌else◌}
use Rattle.mon_msg.specs.Protocol.Changes.{Change, Promise}
use Rattle.mon_msg.specs.Protocol.Course.{Course, peon_is}
use Rattle.mon_msg.specs.Protocol.Peon.{of_leader}
use Rattle.mon_msg.specs.Protocol.Readings.{Readings, readings_of}
use Rattle.mon_msg.specs.declared.input.Input.TheVariants as input
use Rattle.mon_msg.specs.declared.input.Input.{Input}
use Rattle.mon_msg.specs.declared.paxos.Peon.{Peon}
use Rattle.mon_msg.specs.declared.plan.Plan.{Plan}
use Rattle.mon_msg.specs.declared.plan.RoleStop.{RoleStop}
use Rattle.mon_plan.specs.Plans.{PlansRow}
use Rattle.mon_types.specs.declared.names.Which.{Which}
use Rattle.mon_wire.specs.declared.body.Body.TheVariants as body
use Rattle.mon_wire.specs.declared.body.Body.{Body}
use Rattle.mon_wire.specs.declared.phase.Timer.TheVariants as timer
use Rattle.mon_wire.specs.declared.phase.Timer.{Timer}
use Rattle.paxos_peon.specs.declared.here.Here.{Here}

-- what a leader sends its peons
abbrev pub is_role_message : Body → Bool
is_role_message (body.Collect pn first last) = true
is_role_message (body.Begin pn v value) = true
is_role_message (body.Commit from values) = true
is_role_message (body.Lease last) = true
is_role_message b = false

abbrev pub is_rung : Timer → Bool
is_rung timer.Lease = true
is_rung t = false

-- the inputs of a peon
abbrev pub is_input : Input → Bool
is_input input.Start = false
is_input (input.Deliver m) = is_role_message m.body
is_input (input.Timer t) = is_rung t
is_input (input.Client session r) = false

-- An event under way at a peon that hears of its leader f, in its epoch e: the store's readers return this, and the role
-- remembers that.
pub record IsOurs (w : Readings) (state : Peon) (f e : ℕ) (x : Course) : Type 0 where
  pub readings : x.readings ≡ w
  pub role : x.state.peon ≡ state
  pub ours : of_leader f e x ≡ true

-- A call's result is this row of the table, of a message of the leader in its epoch e.
abbrev pub ByRow : Here → (e : ℕ) → (row : Course → Result Course Which) → Result (Plan Peon) RoleStop → Type 0
ByRow here e row result =
    PlansRow here.me.now here.time peon_is (IsOurs (readings_of here.stored.now) here.state.now here.state.now.leader e) row result

-- a number above the own one is promised
abbrev pub promised : (old pn : ℕ) → List Change
promised old pn = if nat_lt old pn then Promise pn ∷ [] else []
