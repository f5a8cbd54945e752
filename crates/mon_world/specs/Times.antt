-- What a crash leaves of a monitor's two disks, at each time of an event.
use Rattle.std.specs.Prelude.{◌≡◌, ℕ, ◌≤◌, List, [], ◌∷◌, Option, Some, None, Result, Ok, Err, slice_get}
use Rattle.mon_disk.specs.Images.{Content}
use Rattle.mon_disk.specs.MemoryDisk.{MemoryState}
use Rattle.mon_msg.specs.declared.view.Me.{Me}
use Rattle.mon_site.specs.Disks.{content}
use Rattle.mon_site.specs.Times.{OpensEither}
use Rattle.mon_store.specs.Times.{Lasts}
use Rattle.mon_store.specs.Whole.{disk_a, disk_b}
use Rattle.mon_tx.specs.Map.{Store, apply}
use Rattle.mon_types.specs.declared.member.Member.{Member}
use Rattle.quorum_model.specs.Monitors.{Monitors, me_of}
use Rattle.quorum_model.specs.Scenes.{Scene}
use Rattle.mon_world.specs.declared.meeting.Handled.{Handled}
use Rattle.mon_world.specs.declared.monitor.Kept.{Kept}
use Rattle.mon_world.specs.declared.monitor.Kept.TheVariants.{Down, Up}
use Rattle.mon_world.specs.declared.monitor.Monitor.{Monitor}
use Rattle.mon_world.specs.declared.stop.WorldStop.{WorldStop}
use Rattle.mon_world.specs.declared.world.World.{World}

-- A crash leaves two images that have P, whichever time disk A is at from `from.0` to `to.0`, and disk B from `from.1`
-- to `to.1`.
pub record Between (P : List ℕ → List ℕ → Type 0) (a b : Content) (from to : ℕ × ℕ) : Type 0 where
  pub a_later : from.0 ≤ to.0
  pub b_later : from.1 ≤ to.1
  pub each : (s t : ℕ) (c d : List ℕ) → from.0 ≤ s → s ≤ to.0 → from.1 ≤ t → t ≤ to.1 → a.images_at s c →
      b.images_at t d → P c d

-- The same from one pair of times to the next, in order.
abbrev pub Through : (List ℕ → List ℕ → Type 0) → Content → Content → (from : ℕ × ℕ) → List (ℕ × ℕ) →
    (to : ℕ × ℕ) → Type 0
Through P a b from [] to = Between P a b from to
Through P a b from (mid ∷ mids) to = Between P a b from mid × Through P a b mid mids to

-- What two disks go through: what a crash might have left before stays so, and at each time since then a crash leaves two
-- images that have P.
pub record Passes (P : List ℕ → List ℕ → Type 0) (old_a old_b new_a new_b : MemoryState) : Type 0 where
  pub a : Lasts (content old_a) (content new_a)
  pub b : Lasts (content old_b) (content new_b)
  pub way : List (ℕ × ℕ)
  pub through : Through P (content new_a) (content new_b) ((content old_a).time, (content old_b).time) way
      ((content new_a).time, (content new_b).time)

-- ---- the disks of a monitor

abbrev pub a_of : Kept → MemoryState
a_of (Down disks) = disks.a
a_of (Up running) = disk_a running.store

abbrev pub b_of : Kept → MemoryState
b_of (Down disks) = disks.b
b_of (Up running) = disk_b running.store

abbrev pub PassesAt : (List ℕ → List ℕ → Type 0) → (old new : Monitor) → Type 0
PassesAt P old new = Passes P (a_of old.kept) (b_of old.kept) (a_of new.kept) (b_of new.kept)

-- A crash at any time while a monitor takes an input leaves the map from before it or from after it.
abbrev pub PassesHandled : Member → Store → Result (Option Handled) WorldStop → (old new : Monitor) → Type 0
PassesHandled member m (Ok None) old new = new ≡ old
PassesHandled member m (Ok (Some t)) old new = PassesAt (OpensEither member m (apply t.reaction.tx m)) old new
PassesHandled member m (Err e) old new = Unit {0}

-- From one scene to the next each monitor opens, after a crash at any time, the map from before or from after it.
abbrev pub EachPasses : Monitors → (before after : Scene) → (old new : World) → Type 0
EachPasses ms before after old new = (i : ℕ) (me : Me) (x y : Monitor) → me_of ms i ≡ Some me →
    slice_get old.monitors.items i ≡ Some x → slice_get new.monitors.items i ≡ Some y →
    PassesAt (OpensEither me.member (before.world.store i) (after.world.store i)) x y
