-- What a monitor with its two disks represents, and the effect of an input on it.
use Rattle.std.specs.Prelude.{◌≡◌, ℕ, ◌≤◌, List, length, Option, Some, None, Result, Ok, Err}
use Rattle.std.specs.List.{AllByRecursion}
use Rattle.mon_bounds.specs.Fitting.{MaySend}
use Rattle.mon_core.specs.Reacts.{SendsNamed}
use Rattle.mon_core.specs.declared.reaction.Reaction as core
use Rattle.mon_disk.specs.MemoryDisk.{MemoryState}
use Rattle.mon_kv.specs.Readers.{size_of, most_size}
use Rattle.mon_msg.specs.Protocol.Reaction.{Reaction, reaction}
use Rattle.mon_msg.specs.Protocol.Readings.{readings_of}
use Rattle.mon_msg.specs.Protocol.State.{State, booting}
use Rattle.mon_msg.specs.declared.input.Input.{Input}
use Rattle.mon_msg.specs.declared.view.Me.{Me}
use Rattle.mon_site.specs.Calm.{Runs}
use Rattle.mon_site.specs.Faults.{Rests}
use Rattle.mon_store.specs.declared.store.Store as kept
use Rattle.mon_tx.specs.Map.{Store, apply}
use Rattle.mon_tx.specs.Text.{text, most}
use Rattle.mon_tx.specs.declared.op.Op.{Op}
use Rattle.mon_types.specs.declared.member.Member.{Member}
use Rattle.quorum_model.specs.Cuts.{after_checkpoint}
use Rattle.quorum_model.specs.Files.{Files, after_append}
use Rattle.quorum_model.specs.Growth.{last_of}
use Rattle.quorum_model.specs.Happens.{Stop, unless_stopped}
use Rattle.svc_core.specs.Cache.{Follows}
use Rattle.mon_world.specs.declared.monitor.Kept.{Kept}
use Rattle.mon_world.specs.declared.monitor.Kept.TheVariants.{Down, Up}
use Rattle.mon_world.specs.declared.monitor.Monitor.{Monitor}
use Rattle.mon_world.specs.declared.monitor.Running.{Running}
use Rattle.mon_world.specs.declared.monitor.Taken.{Taken}
use Rattle.mon_world.specs.declared.stop.WorldStop.{WorldStop}
use Rattle.mon_world.specs.Stops.{Stops, IsntKept}

-- ---- a monitor

-- A monitor that is up: its store runs, its core has this state, and the core's cache of the services' maps follows the
-- store.
pub record IsUp (me : Me) (m : Store) (s : State) (f : Files) (r : Running) : Type 0 where
  pub runs : Runs me.member m f r.store
  pub me_is : r.core.me ≡ me
  pub state : r.core.state ≡ s
  pub follows : Follows r.core.cache (readings_of m)

-- What a monitor keeps represents a map, a state and files. One that is down has no state, and its disks rest.
abbrev pub Holds : Me → Store → Option State → Files → Kept → Type 0
Holds me m None f (Down disks) = Rests me.member m f disks.a disks.b
Holds me m (Some s) f (Up running) = IsUp me m s f running
Holds me m s f kept = ⊥

-- for something
abbrev pub IsHeld : Me → Kept → Type 0
IsHeld me kept = (m : Store) × (s : Option State) × (f : Files) × Holds me m s f kept

-- A monitor represents a map, the state of its core if it is up, and files.
pub record Represents (me : Me) (m : Store) (s : Option State) (f : Files) (monitor : Monitor) : Type 0 where
  pub me_is : monitor.me ≡ me
  pub last : monitor.last ≡ last_of m
  pub holds : Holds me m s f monitor.kept

-- for something
abbrev pub RepresentsSome : Monitor → Type 0
RepresentsSome monitor = (me : Me) × (m : Store) × (s : Option State) × (f : Files) × Represents me m s f monitor

-- of monitors that are up
abbrev pub IsRunning : Running → Type 0
IsRunning r = (me : Me) × (m : Store) × (s : State) × (f : Files) × IsUp me m s f r

abbrev pub RepresentsRunning : Monitor → Type 0
RepresentsRunning monitor = (me : Me) × (m : Store) × (s : State) × (f : Files) × Represents me m (Some s) f monitor

-- a store that is in use
abbrev pub InUse : kept.Store MemoryState → Type 0
InUse store = (member : Member) × (m : Store) × (f : Files) × Runs member m f store

-- ---- what becomes of it

-- the state of the core that is taken of a monitor: that of a new core, if the monitor is down
abbrev pub remembered : Me → Option State → State
remembered me None = booting me.member.rank
remembered me (Some s) = s

-- What is taken of a monitor: its disks rest, and its core's cache follows the map on them.
pub record Takes (me : Me) (m : Store) (s : Option State) (f : Files) (taken : Taken) : Type 0 where
  pub rests : Rests me.member m f taken.disks.a taken.disks.b
  pub me_is : taken.core.me ≡ me
  pub state : taken.core.state ≡ remembered me s
  pub follows : Follows taken.core.cache (readings_of m)

-- the files after a transaction over a map was kept, and after the checkpoint, if one is due
unfoldable pub files_kept : Store → Files → List Op → Files
files_kept m f ops = after_checkpoint (apply ops m) (after_append ops f)

-- the store after a transaction was kept, or why it isn't kept
abbrev pub Keeps : Member → Store → Files → List Op → kept.Store MemoryState → Result Unit WorldStop → Type 0
Keeps member m f ops store (Ok done) =
    (size_of (apply ops m) ≤ most_size) × Runs member (apply ops m) (files_kept m f ops) store
Keeps member m f ops store (Err e) = IsntKept ops m e

-- what a monitor does at an input, or what stops the run before it
unfoldable pub does : Me → (now : ℕ) → Store → State → Input → Result Reaction Stop
does me now m s came = unless_stopped m (reaction me now m s came)

-- The reaction is the protocol's. Its transaction isn't too long, and what it sends may be sent.
pub record IsDone (me : Me) (now : ℕ) (m : Store) (s : State) (came : Input) (state : State)
    (r : core.Reaction) : Type 0 where
  pub does_so : does me now m s came ≡ Ok (record { transaction = r.tx; sends = r.out; state = state })
  pub short : length (text r.tx) ≤ most
  pub may_go : AllByRecursion (MaySend me) r.out
  pub named : AllByRecursion SendsNamed r.out

-- a monitor that is up reacted so and its transaction is kept, or the run stops as the model's
abbrev pub Reacts : Me → (now : ℕ) → Store → State → Files → Input → Running → Result core.Reaction WorldStop → Type 0
Reacts me now m s f came new (Ok r) =
    (state : State) × IsDone me now m s came state r
    × IsUp me (apply r.tx m) state (files_kept m f r.tx) new
Reacts me now m s f came new (Err e) = Stops e (does me now m s came)

abbrev pub RepresentsAfter : Me → (now : ℕ) → Store → State → Files → Input → Monitor →
    Result core.Reaction WorldStop → Type 0
RepresentsAfter me now m s f came new (Ok r) =
    (state : State) × IsDone me now m s came state r
    × Represents me (apply r.tx m) (Some state) (files_kept m f r.tx) new
RepresentsAfter me now m s f came new (Err e) = Stops e (does me now m s came)
