-- The run of a schedule: the world, and the files on the disks. The files decide whether a scheduled crash keeps the
-- transaction.
use Rattle.std.specs.Prelude.{ℕ, Bool, false, List, [], ◌∷◌, Option, Some, None, Result, Ok, Err}
use Rattle.mon_types.specs.declared.names.Side.{Side}
use Rattle.mon_types.specs.declared.names.Which.{Which}
use Rattle.mon_tx.specs.declared.op.Op.{Op}
use Rattle.mon_tx.specs.Map.{Store, apply}
use Rattle.mon_msg.specs.Protocol.Reaction.{Reaction}
use Rattle.mon_msg.specs.declared.input.Input.{Input}
use Rattle.mon_msg.specs.declared.input.Input.TheVariants as input
use Rattle.quorum_model.specs.Cuts.{after_checkpoint, files_cut}
use Rattle.quorum_model.specs.Files.{Files, no_files, after_opening, after_append}
use Rattle.quorum_model.specs.Happens.{Stop, happens, put_at}
use Rattle.quorum_model.specs.Meets.{Meeting, Reacts, meets}
use Rattle.quorum_model.specs.Monitors.{Monitors}
use Rattle.quorum_model.specs.InjectedFaults.{InjectedFault, opening_count, crash_keeps}
use Rattle.quorum_model.specs.World.{World, Plain, Event, Arrives, Crash, first_world}

pub record Scene : Type 0 where
  pub world : World
  pub files : ℕ → Files

abbrev pub first_scene : Scene
first_scene = record { world = first_world; files = λ _. no_files }

-- An entry of a schedule: an input, and at which call of a disk its monitor fails, if it fails. A monitor that failed
-- is down.
pub record Scheduled : Type 0 where
  pub plain : Plain
  pub injected : Option InjectedFault

-- ---- the event of an entry

-- how many calls opening makes on a disk: only a start opens the disks
abbrev pub opening_of : Input → Side → Files → ℕ
opening_of input.Start disk f = opening_count disk f
opening_of other disk f = 0

-- whether what is written at a meeting is kept
abbrev pub kept_at : Scene → InjectedFault → Meeting → Bool
kept_at c u (Reacts i came result) = crash_keeps (c.files i) (c.world.store i) (opening_of came u.disk (c.files i)) u result
kept_at c u other = false

abbrev pub event_at : Scene → Plain → Option InjectedFault → Meeting → Event
event_at c p None met = Arrives p
event_at c p (Some u) met = Crash p (kept_at c u met)

abbrev pub event_in : Monitors → Scene → Scheduled → Event
event_in ms c e = event_at c e.plain e.injected (meets ms c.world e.plain)

-- ---- the scene after an entry

abbrev pub ops_of : Result Reaction Which → List Op
ops_of (Ok r) = r.transaction
ops_of (Err which) = []

abbrev pub files_at : Input → Files → Files
files_at input.Start f = after_opening f
files_at other f = f

-- a monitor's files after its reaction to an input over a map
abbrev pub files_after : Option InjectedFault → Input → Files → Store → List Op → Files
files_after None came f m ops = after_checkpoint (apply ops m) (after_append ops (files_at came f))
files_after (Some u) came f m ops = files_cut f m (opening_of came u.disk f) u ops

abbrev pub all_files_after : Scene → Option InjectedFault → Meeting → ℕ → Files
all_files_after c u (Reacts i came result) =
    put_at c.files i (files_after u came (c.files i) (c.world.store i) (ops_of result))
all_files_after c u other = c.files

abbrev pub with_files : (ℕ → Files) → Result World Stop → Result Scene Stop
with_files files (Ok w) = Ok (record { world = w; files = files })
with_files files (Err stop) = Err stop

-- the scene after an entry, or what stops the run before it
abbrev pub scene_after : Monitors → Scene → Scheduled → Result Scene Stop
scene_after ms c e =
    with_files (all_files_after c e.injected (meets ms c.world e.plain)) (happens ms c.world (event_in ms c e))

-- ---- the run

abbrev pub while_on : (Scene → List Event) → Result Scene Stop → List Event
while_on others (Ok next) = others next
while_on others (Err stop) = []

-- the events of a schedule from a scene on, up to the first event that stops the run, and with it
unfoldable pub events_from : Monitors → Scene → List Scheduled → List Event
events_from ms c [] = []
events_from ms c (e ∷ es) = event_in ms c e ∷ while_on (λ next. events_from ms next es) (scene_after ms c e)

abbrev pub events_of : Monitors → List Scheduled → List Event
events_of ms es = events_from ms first_scene es
