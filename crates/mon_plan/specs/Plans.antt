-- What a role's plan does to an event under way, and the act that it names.
use Rattle.std.specs.List.{AllByRecursion}
use Rattle.std.specs.Prelude.{◌≡◌, ℕ, Bool, true, not, List, Option, Some, None, Result, Ok, Err, if◌then◌else◌, [], ◌∷◌, slice_set}
use Rattle.mon_msg.specs.Protocol.Changes.{Change, encoded}
use Rattle.mon_msg.specs.Protocol.Collecting.{reign}
use Rattle.mon_msg.specs.Protocol.Course.{Course, ◌▸◌, change_all, say, leader_is, peon_is, timers_are, forget_clients, in_phase}
use Rattle.mon_msg.specs.Protocol.Entering.{bootstrap, elect}
use Rattle.mon_msg.specs.Protocol.Leading.{begin, has_queue}
use Rattle.mon_msg.specs.Protocol.Phases.{phase_of, is_leading}
use Rattle.mon_msg.specs.Protocol.Played.{Fits}
use Rattle.mon_msg.specs.Protocol.Synchronizing.{full_sync, recent_sync}
use Rattle.mon_msg.specs.Protocol.Timers.{index_of, is_armed, disarmed}
use Rattle.mon_msg.specs.declared.paxos.Leader.{Leader}
use Rattle.mon_msg.specs.declared.paxos.LeaderStage.TheVariants as stage
use Rattle.mon_msg.specs.declared.paxos.LeaderStage.{LeaderStage}
use Rattle.mon_msg.specs.declared.plan.Arming.TheVariants as arming
use Rattle.mon_msg.specs.declared.plan.Arming.{Arming}
use Rattle.mon_msg.specs.declared.plan.Next.TheVariants as next
use Rattle.mon_msg.specs.declared.plan.Next.{Next}
use Rattle.mon_msg.specs.declared.plan.Plan.{Plan}
use Rattle.mon_msg.specs.declared.plan.RoleStop.TheVariants as stop
use Rattle.mon_msg.specs.declared.plan.RoleStop.{RoleStop}
use Rattle.mon_msg.specs.declared.plan.Sent.{Sent}
use Rattle.mon_msg.specs.declared.view.Me.{Me}
use Rattle.mon_types.specs.declared.names.Which.{Which}
use Rattle.mon_wire.specs.declared.phase.Phase.TheVariants as phase
use Rattle.mon_wire.specs.declared.phase.Phase.{Phase}
use Rattle.mon_wire.specs.declared.phase.Timer.TheVariants as timer
use Rattle.mon_wire.specs.declared.phase.Timer.{Timer}

-- ---- the parts of a plan

-- without changes or messages nothing is done
abbrev pub changed : List Change → Course → Course
changed [] x = x
changed (c ∷ cs) x = change_all (c ∷ cs) x

abbrev pub sending : List Sent → Course → Course
sending [] x = x
sending (m ∷ ms) x = say (m ∷ ms) x

-- Whether arming sets a timer: the one that proposes if a command waits, and the one that awaits acknowledgements of a
-- lease if it isn't armed, so that it keeps its end.
abbrev pub is_needed : (waits : Bool) → Timer → List (Option ℕ) → Bool
is_needed waits timer.Propose timers = waits
is_needed waits timer.LeaseAck timers = not (is_armed timer.LeaseAck timers)
is_needed waits t timers = true

abbrev pub armed_as : (waits : Bool) → Arming → List (Option ℕ) → List (Option ℕ)
armed_as waits (arming.Arm t end) timers = if is_needed waits t timers then slice_set timers (index_of t) (Some end) else timers
armed_as waits (arming.Disarm t) timers = disarmed t timers

abbrev pub all_armed : (waits : Bool) → List Arming → List (Option ℕ) → List (Option ℕ)
all_armed waits [] timers = timers
all_armed waits (a ∷ more) timers = all_armed waits more (armed_as waits a timers)

abbrev pub arm_all : List Arming → Course → Course
arm_all armings x = timers_are (all_armed (has_queue x) armings x.state.timers) x

-- a leader's stage is its phase
abbrev pub phase_as : LeaderStage → Phase → Phase
phase_as s p = if is_leading p then phase_of s else p

abbrev pub leads : Leader → Course → Course
leads l x = x ▸ in_phase (phase_as l.stage x.state.phase) ▸ leader_is l

-- for two of the acts it matters whether the monitor has already entered them when the plan's timers are set
abbrev pub stands : Next → Course → Course
stands next.Electing x = x ▸ in_phase phase.Electing ▸ forget_clients
stands (next.Follow leader quorum) x = x ▸ in_phase phase.Peon ▸ peon_is (record { leader = leader; quorum = quorum; lease = None })
stands next.Stay x = x
stands next.Bootstrap x = x
stands next.Elect x = x
stands (next.Win quorum) x = x
stands (next.FullSync from) x = x
stands (next.RecentSync from) x = x
stands (next.Begin value o) x = x

-- The effect of a role's plan, where `is` replaces what the role remembers and the plan's transaction encodes these changes.
abbrev pub done : {S : Type 0} → (S → Course → Course) → List Change → Plan S → Course → Course
done is cs p x = x ▸ stands p.next ▸ changed cs ▸ is p.state ▸ arm_all p.timers ▸ sending p.out

-- ---- the acts

-- the act that follows a plan
abbrev pub act : Me → (now : ℕ) → Next → Course → Result Course Which
act me now next.Stay x = Ok x
act me now next.Bootstrap x = bootstrap me now x
act me now next.Elect x = elect me now x
act me now next.Electing x = Ok x
act me now (next.Win quorum) x = reign me now quorum x
act me now (next.Follow leader quorum) x = Ok x
act me now (next.FullSync from) x = Ok (full_sync me now from x)
act me now (next.RecentSync from) x = Ok (recent_sync me now from x)
act me now (next.Begin value o) x = begin me now stage.Updating value (Some o) x

-- what an act begins with, before the role that it enters makes its plan
abbrev pub entered : Next → Course → Course
entered next.Bootstrap x = x ▸ in_phase phase.Probing ▸ forget_clients
entered next.Elect x = x ▸ in_phase phase.Electing ▸ forget_clients
entered (next.Win quorum) x = x ▸ in_phase phase.Collecting
entered (next.FullSync from) x = x ▸ in_phase phase.Synchronizing
entered (next.RecentSync from) x = x ▸ in_phase phase.Synchronizing
entered next.Stay x = x
entered next.Electing x = x
entered (next.Follow leader quorum) x = x
entered (next.Begin value o) x = x

-- ---- what a role's call answers

module _ {S : Type 0} (me : Me) (now : ℕ) (is : S → Course → Course) (Before : Course → Type 0)
    (start : Course → Course) (wanted : Course → Result Course Which) where
  -- A plan is what is wanted of every valid event under way: its transaction encodes changes whose numbers fit, and the
  -- plan's effect together with the act that it names is what is wanted.
  pub record Does (p : Plan S) : Type 0 where
    pub changes : List Change
    pub fit : AllByRecursion Fits changes
    pub encoded : p.tx ≡ encoded changes
    pub row : (x : Course) → Before x → wanted x ≡ act me now p.next (done is changes p (start x))

  -- A call returned such a plan, or `Spent` with the number that runs out in what is wanted, or memory ran out.
  abbrev pub Plans : Result (Plan S) RoleStop → Type 0
  Plans (Ok p) = Does p
  Plans (Err stop.OutOfMemory) = Unit {0}
  Plans (Err (stop.Spent which)) = (x : Course) → Before x → wanted x ≡ Err which

module _ {S : Type 0} (me : Me) (now : ℕ) (is : S → Course → Course) (Before : Course → Type 0) where
  -- a row of the table
  abbrev pub PlansRow : (row : Course → Result Course Which) → Result (Plan S) RoleStop → Type 0
  PlansRow row result = Plans me now is Before (λ x. x) row result

  -- an act, after the monitor has entered the phase with which the act begins
  abbrev pub PlansAct : Next → Result (Plan S) RoleStop → Type 0
  PlansAct a result = Plans me now is Before (entered a) (act me now a) result
