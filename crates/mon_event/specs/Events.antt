-- An event under way in a core, and the course of the protocol that it represents.
use Rattle.std.specs.List.{AllByRecursion}
use Rattle.std.specs.Prelude.{◌≡◌, ◌++◌, List, Result, Ok, Err}
use Rattle.mon_bytes.specs.declared.memory.OutOfMemory.{OutOfMemory}
use Rattle.mon_msg.specs.Protocol.Changes.{Change, encoded}
use Rattle.mon_msg.specs.Protocol.Course.{Course}
use Rattle.mon_msg.specs.Protocol.Played.{Fits, played}
use Rattle.mon_msg.specs.Protocol.Readings.{Readings}
use Rattle.mon_msg.specs.Protocol.State.{State}
use Rattle.mon_msg.specs.declared.plan.Next.{Next}
use Rattle.mon_msg.specs.declared.plan.Plan.{Plan}
use Rattle.mon_msg.specs.declared.plan.RoleStop.TheVariants as stop
use Rattle.mon_msg.specs.declared.plan.RoleStop.{RoleStop}
use Rattle.mon_types.specs.declared.names.Which.{Which}
use Rattle.mon_plan.specs.Plans.{done}
use Rattle.mon_event.specs.State.{state_of}
use Rattle.mon_event.specs.declared.event.Event.{Event}

-- The event writes, sends and remembers what the course does, and the store's readers return what the changes so far leave.
pub record IsUnderWay (w : Readings) (e : Event) (x : Course) : Type 0 where
  pub readings : x.readings ≡ played x.changes w
  pub fit : AllByRecursion Fits x.changes
  pub encoded : e.tx ≡ encoded x.changes
  pub out : e.out ≡ x.out
  pub state : state_of e.state ≡ x.state

-- the event goes on as a course that takes this step
abbrev pub Goes : (old new : Event) → (Course → Course) → Type 0
Goes old new step = (w : Readings) (x : Course) → IsUnderWay w old x → IsUnderWay w new (step x)

-- The event matches the wanted course, which doesn't run out of numbers.
pub record IsReached (w : Readings) (wanted : Result Course Which) (e : Event) : Type 0 where
  pub course : Course
  pub wanted_is : wanted ≡ Ok course
  pub under_way : IsUnderWay w e course

-- An event reaches the wanted course, or names the number that runs out, or memory ran out.
abbrev pub Reaches : Readings → Result Course Which → Event → Result Unit RoleStop → Type 0
Reaches w wanted e (Ok done) = IsReached w wanted e
Reaches w wanted e (Err stop.OutOfMemory) = Unit {0}
Reaches w wanted e (Err (stop.Spent which)) = wanted ≡ Err which

-- ---- plans

-- the course with a role's state replaced, by `put` in what the monitor remembers
abbrev pub remembering : {S : Type 0} → (S → State → State) → S → Course → Course
remembering put s x = record x { state = put s x.state }

-- A plan was carried out: its transaction is written after the earlier ones, and applied whichever changes it encodes. The
-- act that it names comes next.
pub record IsCarried {S : Type 0} (is : S → Course → Course) (old : Event) (p : Plan S) (new : Event)
    (n : Next) : Type 0 where
  pub next : n ≡ p.next
  pub written : new.tx ≡ old.tx ++ p.tx
  pub done : (cs : List Change) → AllByRecursion Fits cs → p.tx ≡ encoded cs → Goes old new (done is cs p)

abbrev pub Carries : {S : Type 0} → (S → Course → Course) → (old : Event) → Plan S → (new : Event) →
    Result Next OutOfMemory → Type 0
Carries is old p new (Ok n) = IsCarried is old p new n
Carries is old p new (Err no_memory) = Unit {0}
