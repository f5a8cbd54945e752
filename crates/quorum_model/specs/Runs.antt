-- A run of events, and what it makes a monitor's store keep.
use Rattle.std.specs.Prelude.{ℕ, false, List, [], ◌∷◌, ◌++◌, Option, Some, None, Result, Ok, Err, ◌==◌, if◌then◌else◌}
use Rattle.mon_tx.specs.declared.op.Op.{Op}
use Rattle.quorum_model.specs.Happens.{Stop, happens}
use Rattle.quorum_model.specs.Meets.{Meeting, Reacts, meets}
use Rattle.quorum_model.specs.Monitors.{Monitors}
use Rattle.quorum_model.specs.World.{World, Event, Crash, plain_of, first_world}

-- the world after events, up to the first that stops the run, and what stopped it, if anything did
pub record Ran : Type 0 where
  pub world : World
  pub stop : Option Stop

abbrev pub goes_on : World → (World → Ran) → Result World Stop → Ran
goes_on w others (Ok next) = others next
goes_on w others (Err stop) = record { world = w; stop = Some stop }

unfoldable pub ran_from : Monitors → World → List Event → Ran
ran_from ms w [] = record { world = w; stop = None }
ran_from ms w (e ∷ es) = goes_on w (λ next. ran_from ms next es) (happens ms w e)

abbrev pub ran : Monitors → List Event → Ran
ran ms events = ran_from ms first_world events

abbrev pub run_from : Monitors → World → List Event → World
run_from ms w events = (ran_from ms w events).world

abbrev pub run : Monitors → List Event → World
run ms events = run_from ms first_world events

-- ---- what is written

-- monitor i's transaction, if it is the one that reacts
abbrev pub writes_at : ℕ → Meeting → List (List Op)
writes_at i (Reacts rank input (Ok r)) = if i == rank then r.transaction ∷ [] else []
writes_at i other = []

-- what an event makes monitor i's store keep: its transaction, unless a crash lost it
abbrev pub writes_of : Monitors → World → Event → ℕ → List (List Op)
writes_of ms w (Crash p false) i = []
writes_of ms w e i = writes_at i (meets ms w (plain_of e))

abbrev pub if_continued : (World → List (List Op)) → Result World Stop → List (List Op)
if_continued others (Ok next) = others next
if_continued others (Err stop) = []

-- the transactions of events from a world on, in order, up to the first event that stops the run
unfoldable pub all_writes : Monitors → World → List Event → ℕ → List (List Op)
all_writes ms w [] i = []
all_writes ms w (e ∷ es) i = if_continued (λ next. writes_of ms w e i ++ all_writes ms next es i) (happens ms w e)
