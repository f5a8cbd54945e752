-- The result of an input.
use Rattle.std.specs.Prelude.{◌≡◌, ℕ, Bool, true, false, List, Some, Result, [], ◌∷◌}
use Rattle.mon_bounds.specs.Remembered.{MayRemember}
use Rattle.mon_msg.specs.Protocol.Changes.{Change, Boot, Epoch}
use Rattle.mon_msg.specs.Protocol.Course.{Course, ◌▸◌, arm_if, elector_is}
use Rattle.mon_msg.specs.Protocol.Entering.{scores_count}
use Rattle.mon_msg.specs.Protocol.Readings.{readings_of, shared_entries}
use Rattle.mon_msg.specs.Protocol.Table.{at_rest, first_elector, react}
use Rattle.mon_msg.specs.declared.election.Elector.{Elector}
use Rattle.mon_msg.specs.declared.input.Input.{Input}
use Rattle.mon_msg.specs.declared.plan.RoleStop.{RoleStop}
use Rattle.mon_msg.specs.declared.view.Me.{Me}
use Rattle.mon_tx.specs.Map.{Store}
use Rattle.mon_types.specs.declared.names.Which.{Which}
use Rattle.mon_plan.specs.Inputs.{input_is_short, row}
use Rattle.mon_plan.specs.Plans.{changed}
use Rattle.mon_wire.specs.declared.phase.Timer.TheVariants as timer
use Rattle.mon_event.specs.Events.{Reaches}
use Rattle.mon_event.specs.Roles.{role_of}
use Rattle.mon_event.specs.State.{state_of}
use Rattle.mon_event.specs.declared.event.Event.{Event}
use Rattle.mon_event.specs.declared.role.Role.{Role}

-- An event that has just begun, at a monitor that remembers what it may.
pub record IsReady (me : Me) (e : Event) : Type 0 where
  pub unwritten : e.tx ≡ []
  pub unsent : e.out ≡ []
  pub remembers : MayRemember me (state_of e.state)

-- An input of a role, which isn't too long if it is a message.
pub record IsFor (me : Me) (r : Role) (came : Input) : Type 0 where
  pub role : role_of came ≡ Some r
  pub comes : input_is_short me.member.monitors came ≡ true

-- an event that has just begun reaches the wanted course
abbrev pub ReachesFrom : Store → (old : Event) → (Course → Result Course Which) → (new : Event) →
    Result Unit RoleStop → Type 0
ReachesFrom m old wanted new result =
    Reaches (readings_of m) (wanted (at_rest (readings_of m) (state_of old.state))) new result

-- such an event reaches the protocol's row of an input
abbrev pub AnswersRow : Me → Store → (now : ℕ) → (old : Event) → Input → (new : Event) → Result Unit RoleStop → Type 0
AnswersRow me m now old came new result = ReachesFrom m old (row me (shared_entries m) now came) new result

-- such an event reaches the protocol's reaction to an input
abbrev pub AnswersInput : Me → Store → (now : ℕ) → (old : Event) → Input → (new : Event) → Result Unit RoleStop → Type 0
AnswersInput me m now old came new result =
    ReachesFrom m old (λ x. react me (shared_entries m) now x.readings x.state came) new result

-- what a start writes: it is counted, and an epoch that isn't there is put as 1
abbrev pub first_changes : (boot : ℕ) → (has_epoch : Bool) → List Change
first_changes boot true = Boot boot ∷ []
first_changes boot false = Boot boot ∷ Epoch 1 ∷ []

-- A start up to the point at which the monitor bootstraps: it is counted, and under connectivity the monitor begins to
-- measure and to ping.
abbrev pub started : Me → (now : ℕ) → (boot : ℕ) → (has_epoch : Bool) → Elector → Course → Course
started me now boot has_epoch elector x =
    x
    ▸ changed (first_changes boot has_epoch)
    ▸ elector_is (first_elector me now boot elector)
    ▸ arm_if (scores_count me.rule) now timer.Ping
