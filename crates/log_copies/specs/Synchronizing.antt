-- A full synchronization of one monitor from monitors of one log.
use Rattle.std.specs.FinMap.{get}
use Rattle.std.specs.Prelude.{◌≡◌, ℕ, ◌≤◌, Bool, true, false, ◌||◌, List, length, filter, None, Ok}
use Rattle.std.specs.Str.{bytes_eq}
use Rattle.mon_tx.specs.declared.key.Area.TheVariants as area
use Rattle.mon_tx.specs.Keys.{area_text}
use Rattle.mon_tx.specs.Map.{Place, Store}
use Rattle.mon_wire.specs.declared.body.Body.{Body}
use Rattle.mon_wire.specs.declared.body.Body.TheVariants as body
use Rattle.mon_wire.specs.declared.parts.Cookie.{Cookie}
use Rattle.mon_wire.specs.declared.parts.Place.{Place as ChunkPlace}
use Rattle.mon_msg.specs.Protocol.Course.{Course}
use Rattle.mon_msg.specs.Protocol.Places.{is_after}
use Rattle.mon_msg.specs.Protocol.Providing.{chunk}
use Rattle.mon_msg.specs.Protocol.Readings.{Readings, epoch_of, readings_of, shared_entries}
use Rattle.mon_msg.specs.Protocol.State.{State, booting}
use Rattle.mon_msg.specs.Protocol.Synchronizing.{full_sync}
use Rattle.mon_msg.specs.Protocol.Table.{at_rest, react}
use Rattle.mon_msg.specs.declared.input.Input.{Input}
use Rattle.mon_msg.specs.declared.input.Input.TheVariants as input
use Rattle.mon_msg.specs.declared.view.Me.{Me}
use Rattle.log_copies.specs.Copies.{is_own}
use Rattle.log_copies.specs.Versions.{HasVersions, store_after}

-- Whether a key is of a service's or the log's area. A full synchronization gives up the shared keys of these when it
-- begins.
abbrev pub is_given_up : Place → Bool
is_given_up at = bytes_eq at.0 (area_text area.Kv) || (bytes_eq at.0 (area_text area.Logm) || bytes_eq at.0 (area_text area.Paxos))

-- a store has no other keys than these and the monitor's own
abbrev pub IsShaped : Store → Type 0
IsShaped m = (at : Place) → is_own at ≡ false → is_given_up at ≡ false → get m at ≡ None

-- ---- what may come

-- A body is the chunk that a monitor of the log, among n monitors, gives for a place. Its own last version isn't below
-- the place's.
pub record IsGiven (log : List (List ℕ)) (n : ℕ) (b : Body) : Type 0 where
  pub last : ℕ
  pub store : Store
  pub provider : HasVersions log last store
  pub cookie : Cookie
  pub place : ChunkPlace
  pub reached : place.version ≤ last
  pub is : b ≡ chunk last cookie place (filter (is_after place.key) (shared_entries store)) n (readings_of store).record_of

-- Cookies and chunks come from monitors of the log. Any other message may come.
abbrev pub IsFromLog : List (List ℕ) → ℕ → Body → Type 0
IsFromLog log n (body.Cookie full cookie last) = last ≤ length log
IsFromLog log n (body.Chunk cookie p values entries done) = IsGiven log n (body.Chunk cookie p values entries done)
IsFromLog log n (body.LastChunk cookie p values entries last) = IsGiven log n (body.LastChunk cookie p values entries last)
IsFromLog log n other = Unit {0}

abbrev pub InputIsFromLog : List (List ℕ) → ℕ → Input → Type 0
InputIsFromLog log n (input.Deliver m) = IsFromLog log n m.body
InputIsFromLog log n other = Unit {0}

-- ---- from the beginning on

-- the store once an event's changes are written
abbrev pub written : Store → Course → Store
written m x = store_after x.changes m

-- The store and the memory of a monitor after it began a full synchronization with the store `before`. Any inputs may
-- follow while the store is marked, and the monitor may crash at any time, which loses its memory.
pub data Synchronizes (log : List (List ℕ)) (me : Me) (before : Store) : Store → State → Type 0 where
  begins : (now from : ℕ) (s : State) (x : Course) → full_sync me now from (at_rest (readings_of before) s) ≡ x
      → Synchronizes log me before (written before x) x.state
  goes_on : (m : Store) (s : State) (now : ℕ) (came : Input) (x : Course) → Synchronizes log me before m s
      → (readings_of m).marked ≡ true → InputIsFromLog log me.member.monitors came
      → react me (shared_entries m) now (readings_of m) s came ≡ Ok x → Synchronizes log me before (written m x) x.state
  forgets : (m : Store) (s : State) → Synchronizes log me before m s → Synchronizes log me before m (booting me.member.rank)

-- ---- what it leaves

-- the last proposal number, the promise and the epoch are as they were
pub record SameNumbers (before after : Readings) : Type 0 where
  pub last_pn : after.last_pn ≡ before.last_pn
  pub promise : after.promise ≡ before.promise
  pub epoch : epoch_of after ≡ epoch_of before

-- the monitor has versions of the log, up to the floor at least
pub record IsSynchronized (log : List (List ℕ)) (before : Readings) (floor : ℕ) (after : Store) : Type 0 where
  pub last : ℕ
  pub versions : HasVersions log last after
  pub reached : floor ≤ last
  pub unmarked : (readings_of after).marked ≡ false
  pub numbers : SameNumbers before (readings_of after)
