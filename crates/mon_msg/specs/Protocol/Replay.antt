-- The versions that a whole copy replays.
use Rattle.std.specs.Option.{option_map}
use Rattle.std.specs.Prelude.{ℕ, suc, ◌+◌, nat_le, nat_lt, List, Option, Some, None, Result, Ok, if◌then◌else◌, [], ◌∷◌, zero, ◌-◌, min, length}
use Rattle.mon_msg.specs.declared.limits.TheConstants.{MOST_REPLAYED, MOST_REPLAYED_BYTES}
use Rattle.mon_msg.specs.Protocol.Changes.{Last, Unmark}
use Rattle.mon_msg.specs.Protocol.Course.{Course, ◌▸◌, nothing_more, change, change_all, requester_is, arm}
use Rattle.mon_msg.specs.Protocol.Entering.{bootstrap}
use Rattle.mon_msg.specs.Protocol.Learning.{learn_changes}
use Rattle.mon_msg.specs.Protocol.Phases.{same_phase}
use Rattle.mon_msg.specs.Protocol.Records.{record_at}
use Rattle.mon_wire.specs.declared.phase.Phase.TheVariants as phase
use Rattle.mon_wire.specs.declared.phase.Timer.TheVariants as timer
use Rattle.mon_msg.specs.declared.synchronization.SyncStage.TheVariants as sync
use Rattle.mon_msg.specs.declared.synchronization.SyncStage.{SyncStage}
use Rattle.mon_msg.specs.declared.view.Me.{Me}
use Rattle.mon_tx.specs.Decision.{Cell}
use Rattle.mon_tx.specs.Text.{text}
use Rattle.mon_tx.specs.declared.op.Op.{Op}
use Rattle.mon_types.specs.declared.names.Which.{Which}

-- how many versions one step replays, and of how many bytes; a step replays one version at least
abbrev pub most_versions : ℕ
most_versions = MOST_REPLAYED

abbrev pub most_bytes : ℕ
most_bytes = MOST_REPLAYED_BYTES

-- at most this many versions from v on, whose values take at most this many bytes; none if one of the records is missing
unfoldable pub more_of : (records : ℕ → Cell) → (count room v : ℕ) → Option (List (List Op))
more_of records zero room v = Some []
more_of records (suc count) room v = elim (record_at records v) as (λ _. Option (List (List Op))) [
  | None ↦ None
  | Some value ↦
      let size = length (text value) in
      if nat_le size room
      then option_map (λ values. value ∷ values) (more_of records count (room - size) (suc v))
      else Some []
]

-- the values that the next step replays, if `left` versions from v on remain; none if one of their records is missing
unfoldable pub step_of : (records : ℕ → Cell) → (left v : ℕ) → Option (List (List Op))
step_of records zero v = Some []
step_of records (suc left) v = elim (record_at records v) as (λ _. Option (List (List Op))) [
  | None ↦ None
  | Some value ↦
      let more = more_of records (min left (most_versions - 1)) (most_bytes - length (text value)) (suc v) in
      option_map (λ values. value ∷ values) more
]

module _ (me : Me) (now : ℕ) where
  -- the values are learned; after the last of them the copy is over
  abbrev pub replay : (next end : ℕ) → List (List Op) → Course → Result Course Which
  replay next end values x =
      let y = x ▸ change_all (learn_changes next values) in
      let after = next + length values in
      if nat_lt end after then y ▸ change (Last end) ▸ change Unmark ▸ bootstrap me now else
      Ok (y ▸ requester_is (record y.state.requester { stage = sync.Replay after end }) ▸ arm now timer.Step)

  -- if a record is missing, the monitor bootstraps
  abbrev pub replay_any : (next end : ℕ) → Option (List (List Op)) → Course → Result Course Which
  replay_any next end None x = bootstrap me now x
  replay_any next end (Some values) x = replay next end values x

  abbrev pub step_in : SyncStage → Course → Result Course Which
  step_in sync.Cookie x = nothing_more x
  step_in sync.Chunks x = nothing_more x
  step_in (sync.Replay next end) x = replay_any next end (step_of x.readings.record_of (suc end - next) next) x

  unfoldable pub replay_step : Course → Result Course Which
  replay_step x =
      if same_phase x.state.phase phase.Synchronizing then step_in x.state.requester.stage x else nothing_more x
