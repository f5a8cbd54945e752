-- The rows of a monitor that takes chunks.
use Rattle.std.specs.Prelude.{ℕ, suc, ◌+◌, Bool, true, false, ◌&&◌, List, Result, Ok, if◌then◌else◌, [], ◌∷◌, length, map}
use Rattle.mon_bytes.specs.declared.entry.Entry.{Entry}
use Rattle.mon_bytes.specs.declared.entry.KeyPlace.TheVariants as key_place
use Rattle.mon_msg.specs.Protocol.Changes.{Change, Record, Copy}
use Rattle.mon_msg.specs.Protocol.Copying.{of_provider, ask_chunk}
use Rattle.mon_msg.specs.Protocol.Course.{Course, ◌▸◌, ◌>>=◌, checked, dropped, change_all, requester_is, arm, disarm}
use Rattle.mon_msg.specs.Protocol.Entering.{bootstrap}
use Rattle.mon_msg.specs.Protocol.Learning.{learn}
use Rattle.mon_msg.specs.Protocol.Places.{after_entries, same_place, is_cookie}
use Rattle.mon_wire.specs.declared.parts.Cookie.{Cookie}
use Rattle.mon_wire.specs.declared.parts.Place.{Place}
use Rattle.mon_wire.specs.declared.phase.Timer.TheVariants as timer
use Rattle.mon_msg.specs.declared.synchronization.SyncStage.TheVariants as sync
use Rattle.mon_msg.specs.declared.synchronization.SyncStage.{SyncStage}
use Rattle.mon_msg.specs.declared.view.Me.{Me}
use Rattle.mon_tx.specs.declared.op.Op.{Op}
use Rattle.mon_types.specs.declared.names.Which.TheVariants as which
use Rattle.mon_types.specs.declared.names.Which.{Which}

abbrev pub takes_chunks : SyncStage → Bool
takes_chunks sync.Cookie = false
takes_chunks sync.Chunks = true
takes_chunks (sync.Replay next end) = false

-- a chunk of the provider under our cookie, for exactly our place
abbrev pub is_ours : (f : ℕ) → Cookie → Place → Course → Bool
is_ours f c p x =
    let requester = x.state.requester in
    of_provider f x && takes_chunks requester.stage && is_cookie c requester.cookie && same_place p requester.place

-- ---- what a chunk holds

-- the records of the versions from v on
abbrev pub record_changes : (v : ℕ) → List (List Op) → List Change
record_changes v [] = []
record_changes v (value ∷ values) = Record v value ∷ record_changes (suc v) values

abbrev pub copy_changes : List Entry → List Change
copy_changes = map Copy

-- a whole copy takes records and entries as they are, a recent one learns the values
abbrev pub copy : Bool → (v : ℕ) → List (List Op) → List Entry → Course → Result Course Which
copy true v values entries x = Ok (x ▸ change_all (record_changes v values) ▸ change_all (copy_changes entries))
copy false v values entries x = learn v values x

-- where the next chunk goes on
abbrev pub next_place : Place → (version : ℕ) → List Entry → (done : Bool) → Place
next_place p version entries done =
    record { version = version; key = if done then key_place.Done else after_entries entries p.key }

-- the records and entries are copied, and the place moves on
abbrev pub take : Place → List (List Op) → List Entry → (done : Bool) → Course → Result Course Which
take p values entries done x = do
  version ← checked which.Version (p.version + length values)
  y ← copy x.state.requester.full (suc p.version) values entries x
  Ok (y ▸ requester_is (record y.state.requester { place = next_place p version entries done }))

-- ---- rows

-- the versions after the place where a whole copy began are replayed
abbrev pub begin_replay : (now last : ℕ) → Course → Result Course Which
begin_replay now last x = do
  next ← checked which.Version (suc x.state.requester.start)
  Ok (x
      ▸ requester_is (record x.state.requester { stage = sync.Replay next last })
      ▸ disarm timer.Sync
      ▸ arm now timer.Step)

module _ (me : Me) (now : ℕ) where
  abbrev pub take_and_ask : Cookie → Place → List (List Op) → List Entry → (done : Bool) → Course → Result Course Which
  take_and_ask c p values entries done x = do
    y ← take p values entries done x
    Ok (ask_chunk me now c y.state.requester.place y)

  unfoldable pub hear_chunk : (f : ℕ) → Cookie → Place
      → List (List Op) → List Entry → (done : Bool) → Course → Result Course Which
  hear_chunk f c p values entries done x =
      if is_ours f c p x then take_and_ask c p values entries done x else dropped x

  -- a whole copy goes on with the versions that were committed since it began; a recent one is over
  abbrev pub replay_or_end : (last : ℕ) → Course → Result Course Which
  replay_or_end last x = if x.state.requester.full then begin_replay now last x else bootstrap me now x

  abbrev pub take_last : Place → List (List Op) → List Entry → (last : ℕ) → Course → Result Course Which
  take_last p values entries last x = do
    y ← take p values entries true x
    replay_or_end last y

  unfoldable pub hear_last_chunk : (f : ℕ) → Cookie → Place
      → List (List Op) → List Entry → (last : ℕ) → Course → Result Course Which
  hear_last_chunk f c p values entries last x =
      if is_ours f c p x then take_last p values entries last x else dropped x
