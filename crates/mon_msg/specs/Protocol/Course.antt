-- An event under way, and the small steps of which acts and rows are made. A step changes only its own field. If the
-- change depends on a test, the test is in the value of that field, so all other fields compute without it.
use Rattle.std.specs.Prelude.{ℕ, Bool, nat_le, List, Option, Result, Ok, if◌then◌else◌, ◌^◌, [], ◌∷◌, ◌++◌, Err}
use Rattle.mon_msg.specs.Protocol.Changes.{Change}
use Rattle.mon_msg.specs.Protocol.Phases.{phase_of, same_phase}
use Rattle.mon_msg.specs.Protocol.Played.{played}
use Rattle.mon_msg.specs.Protocol.Readings.{Readings}
use Rattle.mon_msg.specs.Protocol.State.{State, no_clients}
use Rattle.mon_msg.specs.Protocol.Timers.{armed, armed_once, disarmed, only_ping}
use Rattle.mon_msg.specs.declared.clients.Clients.{Clients}
use Rattle.mon_msg.specs.declared.election.Elector.{Elector}
use Rattle.mon_msg.specs.declared.election.Prober.{Prober}
use Rattle.mon_msg.specs.declared.paxos.Leader.{Leader}
use Rattle.mon_msg.specs.declared.paxos.LeaderStage.{LeaderStage}
use Rattle.mon_msg.specs.declared.paxos.Peon.{Peon}
use Rattle.mon_wire.specs.declared.phase.Phase.{Phase}
use Rattle.mon_wire.specs.declared.phase.Timer.{Timer}
use Rattle.mon_msg.specs.declared.plan.Sent.{Sent}
use Rattle.mon_msg.specs.declared.synchronization.Provider.{Provider}
use Rattle.mon_msg.specs.declared.synchronization.Requester.{Requester}
use Rattle.mon_types.specs.declared.names.Which.{Which}

-- What the store's readers return after the changes so far, these changes in order, what the monitor remembers, and what it
-- sends. Each act reads what the acts before it left.
pub record Course : Type 0 where
  pub readings : Readings
  pub changes : List Change
  pub state : State
  pub out : List Sent

-- one step after another
infixl 6 ◌▸◌
abbrev pub ◌▸◌ : {A B : Type 0} → A → (A → B) → B
x ▸ f = f x

-- one step after another; a number may run out
infixl 5 ◌>>=◌
abbrev pub ◌>>=◌ : {A B : Type 0} → Result A Which → (A → Result B Which) → Result B Which
(Ok x) >>= f = f x
(Err e) >>= f = Err e

-- the number, or an error if it is above 2 ^ 62
abbrev pub checked : Which → ℕ → Result ℕ Which
checked w n = if nat_le n (2 ^ 62) then Ok n else Err w

-- nothing is done
abbrev pub dropped : Course → Result Course Which
dropped x = Ok x

-- what was done so far is all
abbrev pub nothing_more : Course → Result Course Which
nothing_more x = Ok x

-- ---- the store

abbrev pub change_all : List Change → Course → Course
change_all cs x = record x { readings = played cs x.readings; changes = x.changes ++ cs }

abbrev pub change : Change → Course → Course
change c = change_all (c ∷ [])

abbrev pub change_if : Bool → Change → Course → Course
change_if test c = change_all (if test then c ∷ [] else [])

-- ---- what is sent

abbrev pub say : List Sent → Course → Course
say sends x = record x { out = x.out ++ sends }

-- ---- what is remembered

abbrev pub elector_is : Elector → Course → Course
elector_is e x = record x { state = record x.state { elector = e } }

abbrev pub prober_is : Prober → Course → Course
prober_is p x = record x { state = record x.state { prober = p } }

abbrev pub leader_is : Leader → Course → Course
leader_is l x = record x { state = record x.state { leader = l } }

abbrev pub peon_is : Peon → Course → Course
peon_is p x = record x { state = record x.state { peon = p } }

abbrev pub clients_are : Clients → Course → Course
clients_are c x = record x { state = record x.state { clients = c } }

abbrev pub provider_is : Provider → Course → Course
provider_is p x = record x { state = record x.state { provider = p } }

abbrev pub requester_is : Requester → Course → Course
requester_is q x = record x { state = record x.state { requester = q } }

-- queue, waiting sessions and numbers are forgotten
abbrev pub forget_clients : Course → Course
forget_clients x = clients_are no_clients x

-- ---- timers and phases

abbrev pub timers_are : List (Option ℕ) → Course → Course
timers_are ts x = record x { state = record x.state { timers = ts } }

abbrev pub arm : ℕ → Timer → Course → Course
arm now t x = timers_are (armed now t x.state.timers) x

abbrev pub arm_if : Bool → ℕ → Timer → Course → Course
arm_if test now t x = timers_are (if test then armed now t x.state.timers else x.state.timers) x

-- a timer that is armed keeps its end
abbrev pub arm_once_if : Bool → ℕ → Timer → Course → Course
arm_once_if test now t x = timers_are (if test then armed_once now t x.state.timers else x.state.timers) x

abbrev pub disarm : Timer → Course → Course
disarm t x = timers_are (disarmed t x.state.timers) x

abbrev pub disarm_if : Bool → Timer → Course → Course
disarm_if test t x = timers_are (if test then disarmed t x.state.timers else x.state.timers) x

-- the timers after a phase is entered: a new phase disarms all but the one that pings
abbrev pub timers_in : Phase → State → List (Option ℕ)
timers_in p s = if same_phase s.phase p then s.timers else only_ping s.timers

abbrev pub in_phase : Phase → Course → Course
in_phase p x = record x { state = record x.state { phase = p; timers = timers_in p x.state } }

abbrev pub leads_in : LeaderStage → Course → Course
leads_in s x = x ▸ in_phase (phase_of s) ▸ leader_is (record x.state.leader { stage = s })
