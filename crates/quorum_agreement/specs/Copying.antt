-- What the store of a monitor under a full synchronization has of the one log.
use Rattle.std.specs.FinMap.{empty}
use Rattle.std.specs.Prelude.{◌≡◌, ℕ, suc, ◌≤◌, ◌⊎◌, true, List, length, Option, Some, None}
use Rattle.log_copies.specs.Copies.{IsFuzzyCopy, shared_with_records}
use Rattle.mon_bytes.specs.declared.entry.KeyPlace.TheVariants as key_place
use Rattle.mon_kv.specs.Readers.{is_marked}
use Rattle.mon_msg.specs.Protocol.Readings.{readings_of}
use Rattle.mon_msg.specs.Protocol.State.{State}
use Rattle.mon_msg.specs.declared.synchronization.SyncStage.TheVariants as sync
use Rattle.mon_msg.specs.declared.synchronization.SyncStage.{SyncStage}
use Rattle.mon_tx.specs.Map.{Store}
use Rattle.mon_wire.specs.declared.parts.Place.{Place as ChunkPlace}
use Rattle.mon_wire.specs.declared.phase.Phase.TheVariants as phase

-- A monitor replays the versions after `done`, which is at least the floor. Its store is as a copy that was made while
-- the log's last version rose from `done` to `end`.
pub record Replays (log : List (List ℕ)) (m : Store) (floor next end : ℕ) : Type 0 where
  pub done : ℕ
  pub is : next ≡ suc done
  pub above : floor ≤ done
  pub within : end ≤ length log
  pub copy : IsFuzzyCopy log done end key_place.Done m

-- What a requester's store has copied of the log. While it asks for a cookie: nothing. While it takes chunks: a copy
-- from version `start`, which is at least the floor, up to the place that it asks for next. While it replays: a whole
-- copy, over which it replays versions.
abbrev pub HasCopied : List (List ℕ) → Store → (floor : ℕ) → SyncStage → (start : ℕ) → ChunkPlace → Type 0
HasCopied log m floor sync.Cookie start p = shared_with_records m ≡ empty
HasCopied log m floor sync.Chunks start p =
    (floor ≤ start) × (p.version ≤ length log) × IsFuzzyCopy log start p.version p.key m
HasCopied log m floor (sync.Replay next end) start p = Replays log m floor next end

-- A monitor takes a full copy, and its store has what it copied so far.
pub record Copies (log : List (List ℕ)) (m : Store) (s : State) : Type 0 where
  pub synchronizes : s.phase ≡ phase.Synchronizing
  pub full : s.requester.full ≡ true
  pub copy : HasCopied log m (readings_of m).floor s.requester.stage s.requester.start s.requester.place

-- A monitor that is up takes a full copy, or looks for another monitor to take one from.
abbrev pub IsCopying : List (List ℕ) → Store → Option State → Type 0
IsCopying log m None = Unit {0}
IsCopying log m (Some s) = Copies log m s ⊎ ((s.phase ≡ phase.Probing) ⊎ (s.phase ≡ phase.Booting))

-- A monitor that takes a copy is marked if and only if the copy is a full one.
abbrev pub MarkedIfFull : Store → Option State → Type 0
MarkedIfFull m None = Unit {0}
MarkedIfFull m (Some s) = s.phase ≡ phase.Synchronizing → s.requester.full ≡ is_marked m
