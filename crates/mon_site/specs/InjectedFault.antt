-- A disk that fails from some write or sync on, and what two disks settle to.
use Rattle.std.specs.Prelude.{◌≡◌, ℕ, ◌≤◌}
use Rattle.mon_types.specs.declared.names.Side.{Side}
use Rattle.mon_disk.specs.Memory.{Lived, seen_of, settled}
use Rattle.mon_disk.specs.MemoryDisk.{MemoryState, observed_of, injected_life}
use Rattle.mon_tx.specs.Map.{Store}
use Rattle.mon_journal.specs.declared.journal.Journal.{Journal}
use Rattle.mon_store.specs.Sound.{StandsOn}
use Rattle.quorum_model.specs.Files.{Files}
use Rattle.mon_site.specs.Disks.{files_in}

-- A disk with an injected fault: its writes and syncs fail from number `call` on, counted from 1 and from now, and it
-- settles to `image`.
pub record IsInjected (call image : ℕ) (d : MemoryState) : Type 0 where
  pub like : Lived
  pub observed : observed_of d.life ≡ observed_of (injected_life call image like)
  pub seen : seen_of (injected_life call image like) ≡ seen_of d.life
  pub first : 1 ≤ call
  pub most : image ≤ 3

-- two disks settle to images that hold this store and these files
pub record Leaves (side : Side) (journal : Journal) (m : Store) (f : Files) (a b : MemoryState) : Type 0 where
  pub stands : StandsOn side journal m (settled a.life) (settled b.life)
  pub files : files_in (settled a.life) (settled b.life) ≡ f

-- the files that two disks have as they read
abbrev pub files_on : MemoryState → MemoryState → Files
files_on a b = files_in (seen_of a.life) (seen_of b.life)
