-- What is left after opening two disks, one of which has an injected fault.
use Rattle.std.specs.Prelude.{◌≡◌, ◌-◌, ◌<◌, ◌≤◌, Result, Ok, Err}
use Rattle.mon_types.specs.declared.member.Member.{Member}
use Rattle.mon_disk.specs.Memory.{seen_of}
use Rattle.mon_disk.specs.MemoryDisk.{MemoryState}
use Rattle.mon_bytes.specs.declared.memory.OutOfMemory.{OutOfMemory}
use Rattle.mon_tx.specs.Map.{Store}
use Rattle.mon_store.specs.StoreView.{StoreView, opens_as}
use Rattle.quorum_model.specs.Cuts.{opening_cut}
use Rattle.quorum_model.specs.Files.{Files, after_opening}
use Rattle.quorum_model.specs.InjectedFaults.{opening_count}
use Rattle.mon_site.specs.declared.opening.Begun.{Begun}
use Rattle.mon_site.specs.declared.opening.Begun.TheVariants.{Open, Failed}
use Rattle.mon_site.specs.declared.injected.InjectedFault.{InjectedFault}
use Rattle.mon_site.specs.Faults.{HasFault, Settles}

-- a member opens a store on two disks as they read
abbrev pub Opens : Member → MemoryState → MemoryState → Type 0
Opens member a b = (s : StoreView) × (opens_as member (seen_of a.life) (seen_of b.life) ≡ Ok s)

-- The store is open if the first call that fails comes after the opening. Otherwise the disks settle to what they held,
-- or to what a creation had written.
abbrev pub Begins : InjectedFault → Member → Store → Files → Result Begun OutOfMemory → Type 0
Begins u member m f (Ok (Open store)) =
    (opening_count u.disk f < u.call) ×
    HasFault u.disk (u.call - opening_count u.disk f) u.image member m (after_opening f) store
Begins u member m f (Ok (Failed disks)) =
    (u.call ≤ opening_count u.disk f) × Settles member m (opening_cut f u.disk u.call u.image) disks.a disks.b
Begins u member m f (Err e) = Unit {0}
