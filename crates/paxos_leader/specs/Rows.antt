-- Events under way at a leader that hears of a member, and what it notes of an answer.
use Rattle.std.specs.Prelude.{◌≡◌, ℕ, Bool, true, List, Option, Some, None, Result, Ok, Err, if◌then◌else◌}
use Rattle.mon_msg.specs.Protocol.Collecting.{collect}
use Rattle.mon_msg.specs.Protocol.Course.{Course, leader_is}
use Rattle.mon_msg.specs.Protocol.Leader.{of_member, note, note_answer, hear_whole}
use Rattle.mon_msg.specs.Protocol.Phases.{phase_of}
use Rattle.mon_msg.specs.Protocol.Readings.{Readings, readings_of}
use Rattle.mon_msg.specs.Protocol.Records.{may_begin}
use Rattle.mon_msg.specs.declared.paxos.Found.{Found}
use Rattle.mon_msg.specs.declared.paxos.Leader.{Leader}
use Rattle.mon_msg.specs.declared.plan.Plan.{Plan}
use Rattle.mon_msg.specs.declared.plan.RoleStop.TheVariants as stop
use Rattle.mon_msg.specs.declared.plan.RoleStop.{RoleStop}
use Rattle.mon_msg.specs.declared.view.Me.{Me}
use Rattle.mon_msg.specs.declared.view.View.{View}
use Rattle.mon_types.specs.declared.names.Which.{Which}
use Rattle.mon_wire.specs.declared.parts.Told.{Told}
use Rattle.mon_wire.specs.declared.phase.Phase.{Phase}
use Rattle.mon_plan.specs.Plans.{PlansRow, leads}
use Rattle.mon_plan.specs.Seen.{IsMet}
use Rattle.mon_stored.specs.declared.here.Here.{Here}

-- a leader that reads this plans a row of the table
abbrev pub ByRow : Here → (At : Course → Type 0) → (row : Me → (now : ℕ) → Course → Result Course Which)
    → Result (Plan Leader) RoleStop → Type 0
ByRow here At row result = PlansRow here.me.now here.time leads At (row here.me.now here.time) result

-- an event under way before the call of a leader that reads this, sees the other roles so and remembers that
abbrev pub Meets : Here → View → Leader → Course → Type 0
Meets here view l = IsMet here.me.now here.time (readings_of here.kv.now) view (λ s. s.leader) l

-- An event under way at a leader in one of these phases that hears of a member of its quorum in this epoch.
pub record IsHeard (phases : List Phase) (f e : ℕ) (w : Readings) (l : Leader) (x : Course) : Type 0 where
  pub readings : x.readings ≡ w
  pub role : x.state.leader ≡ l
  pub stage : phase_of l.stage ≡ x.state.phase
  pub member : of_member phases f e x ≡ true

abbrev pub may_begin_pending : Option Told → Bool
may_begin_pending None = true
may_begin_pending (Some told) = may_begin told.value

-- what is found after a member gave a pending value for the version after its last one, or the number that runs out
abbrev pub NotesFound : (found : Option Found) → (last : ℕ) → Option Told → Result (Option Found) RoleStop → Type 0
NotesFound found last told (Ok new) =
    (f : ℕ) (x : Course) → x.state.leader.found ≡ found → note f last told x ≡ Ok (note_answer f last new x)
NotesFound found last told (Err stop.OutOfMemory) = Unit {0}
NotesFound found last told (Err (stop.Spent which)) = (f : ℕ) (x : Course) → note f last told x ≡ Err which

-- the leader's state with a member's complete answer, or the number that runs out
abbrev pub Notes : Leader → (f last : ℕ) → Option Told → Result Leader RoleStop → Type 0
Notes l f last told (Ok new) = (x : Course) → x.state.leader ≡ l → note f last told x ≡ Ok (leader_is new x)
Notes l f last told (Err stop.OutOfMemory) = Unit {0}
Notes l f last told (Err (stop.Spent which)) = (x : Course) → x.state.leader ≡ l → note f last told x ≡ Err which

-- what follows once the values of an answer are learned
abbrev pub goes_on : Me → (now : ℕ) → (f last : ℕ) → (whole : Bool) → Option Told → Course → Result Course Which
goes_on me now f last whole told y =
    if whole then hear_whole me now f last told y else collect me now y.state.leader.quorum 0 y
