-- A monitor with an injected fault on one disk: its disks before the opening, its open store, and what its disks settle
-- to.
use Rattle.std.specs.Prelude.{◌≡◌, ℕ, false, List, None, Ok}
use Rattle.mon_types.specs.declared.names.Side.{Side}
use Rattle.mon_types.specs.declared.member.Member.{Member}
use Rattle.mon_disk.specs.Images.{Only}
use Rattle.mon_disk.specs.Memory.{seen_of, settled}
use Rattle.mon_disk.specs.MemoryDisk.{MemoryState}
use Rattle.mon_tx.specs.Map.{Store}
use Rattle.mon_journal.specs.declared.journal.Form.TheVariants.{Second}
use Rattle.mon_journal.specs.Written.{owner_of}
use Rattle.mon_store.specs.declared.store.Store as kept
use Rattle.mon_types.specs.Sides.{other as other_side}
use Rattle.mon_store.specs.Sound.{of_live, Sound}
use Rattle.mon_store.specs.StoreView.{StoreView, opens_as}
use Rattle.mon_store.specs.Whole.{disk_a, disk_b, disk_of}
use Rattle.quorum_model.specs.Files.{Files}
use Rattle.mon_site.specs.Disks.{IsCalm, content, files_in}
use Rattle.mon_site.specs.InjectedFault.{IsInjected, files_on}

-- A member opens a store with this map on two files. The live file has the second header.
pub record OpensMap (member : Member) (m : Store) (a b : List ℕ) : Type 0 where
  pub store_view : StoreView
  pub opens : opens_as member a b ≡ Ok store_view
  pub form : store_view.journal.form ≡ Second
  pub map : store_view.kv ≡ m

-- Two disks before the opening: `disk` has the injected fault, the other one has none, and a member opens a store with
-- this map.
pub record IsReady (disk : Side) (call image : ℕ) (member : Member) (m : Store) (f : Files)
    (a b : MemoryState) : Type 0 where
  pub upset : IsInjected call image (of_live disk a b)
  pub calm : (of_live (other_side disk) a b).life.upset ≡ None
  pub only_a : Only (content a)
  pub only_b : Only (content b)
  pub opens : OpensMap member m (seen_of a.life) (seen_of b.life)
  pub files : files_on a b ≡ f

-- An open store with this map, whose disk `disk` has the injected fault.
pub record HasFault (disk : Side) (call image : ℕ) (member : Member) (m : Store) (f : Files)
    (store : kept.Store MemoryState) : Type 0 where
  pub unbroken : store.broken ≡ false
  pub sound : Sound store.journal store.kv store.live.known (content store.live) (content store.other)
  pub form : store.journal.form ≡ Second
  pub owner : owner_of store.journal.member ≡ owner_of member
  pub map : store.kv ≡ m
  pub files : files_on (disk_a store) (disk_b store) ≡ f
  pub upset : IsInjected call image (disk_of disk store)
  pub calm : (disk_of (other_side disk) store).life.upset ≡ None

-- Two disks settle to these files, on which a member opens a store with this map.
pub record Settles (member : Member) (m : Store) (f : Files) (a b : MemoryState) : Type 0 where
  pub opens : OpensMap member m (settled a.life) (settled b.life)
  pub files : files_in (settled a.life) (settled b.life) ≡ f

-- Two disks at rest, on which a member opens a store with this map, and that have these files.
pub record Rests (member : Member) (m : Store) (f : Files) (a b : MemoryState) : Type 0 where
  pub calm_a : IsCalm a
  pub calm_b : IsCalm b
  pub opens : OpensMap member m (seen_of a.life) (seen_of b.life)
  pub files : files_on a b ≡ f
