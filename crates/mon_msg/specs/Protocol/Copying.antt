-- The rows by which a monitor begins to copy, and by which it gives up.
use Rattle.std.specs.Prelude.{ℕ, Bool, true, false, not, ◌&&◌, ◌||◌, ◌==◌, nat_lt, Some, Result, Ok, if◌then◌else◌}
use Rattle.mon_bytes.specs.declared.entry.KeyPlace.TheVariants as key_place
use Rattle.mon_msg.specs.Protocol.Course.{Course, ◌▸◌, dropped, requester_is, arm}
use Rattle.mon_msg.specs.Protocol.Entering.{bootstrap}
use Rattle.mon_msg.specs.Protocol.Phases.{same_phase}
use Rattle.mon_msg.specs.Protocol.Places.{same_cookie, is_cookie, no_cookie}
use Rattle.mon_msg.specs.Protocol.Sending.{send}
use Rattle.mon_wire.specs.declared.body.Body.TheVariants as body
use Rattle.mon_wire.specs.declared.parts.Cookie.{Cookie}
use Rattle.mon_wire.specs.declared.parts.Place.{Place}
use Rattle.mon_wire.specs.declared.phase.Phase.TheVariants as phase
use Rattle.mon_wire.specs.declared.phase.Timer.TheVariants as timer
use Rattle.mon_msg.specs.declared.synchronization.SyncStage.TheVariants as sync
use Rattle.mon_msg.specs.declared.synchronization.SyncStage.{SyncStage}
use Rattle.mon_msg.specs.declared.view.Me.{Me}
use Rattle.mon_types.specs.declared.names.Which.{Which}

abbrev pub awaits_cookie : SyncStage → Bool
awaits_cookie sync.Cookie = true
awaits_cookie sync.Chunks = false
awaits_cookie (sync.Replay next end) = false

-- a message of the provider, while it synchronizes
abbrev pub of_provider : (f : ℕ) → Course → Bool
of_provider f x = same_phase x.state.phase phase.Synchronizing && f == x.state.requester.provider

abbrev pub same_flag : Bool → Bool → Bool
same_flag true b = b
same_flag false b = not b

-- a whole copy begins after the provider's last version and before the first key; a recent one begins after the own
-- last version and takes no keys
abbrev pub first_place : Bool → (last own : ℕ) → Place
first_place true last own = record { version = last; key = key_place.Start }
first_place false last own = record { version = own; key = key_place.Done }

module _ (me : Me) (now : ℕ) where
  -- the next chunk is asked for
  abbrev pub ask_chunk : Cookie → Place → Course → Course
  ask_chunk c p x = x ▸ send me x.state.requester.provider (body.GetChunk c p) ▸ arm now timer.Sync

  abbrev pub start_chunks : Cookie → Place → Course → Course
  start_chunks c p x =
      x
      ▸ requester_is (record x.state.requester { stage = sync.Chunks; cookie = Some c; start = p.version; place = p })
      ▸ ask_chunk c p

  unfoldable pub hear_cookie : (f : ℕ) → Bool → Cookie → (last : ℕ) → Course → Result Course Which
  hear_cookie f full c last x =
      let requester = x.state.requester in
      let is_ours = of_provider f x && awaits_cookie requester.stage && same_flag full requester.full in
      if not is_ours || (full && nat_lt last x.readings.floor) then dropped x else
      Ok (start_chunks c (first_place full last x.readings.last) x)

  unfoldable pub hear_no_cookie : (f : ℕ) → Cookie → Course → Result Course Which
  hear_no_cookie f c x =
      let requester = x.state.requester in
      let refused = awaits_cookie requester.stage && not requester.full && same_cookie c no_cookie in
      if of_provider f x && (is_cookie c requester.cookie || refused) then bootstrap me now x else dropped x
