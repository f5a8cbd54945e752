-- What the program does with the devices that its arguments name.
use Rattle.std.specs.Prelude.{◌≡◌, ◌⊎◌, Bool, List, Option, String}
use Rattle.std.specs.declared.alloc.Global.{Global}
use Rattle.mon_disk.specs.Calls.{DiskState}
use Rattle.mon_disk.specs.declared.node.NodeDisks.{NodeDisks}
use Rattle.mon_link.specs.Clocks.{Readings}
use Rattle.mon_link.specs.Histories.{Happened}
use Rattle.mon_link.specs.Links.{LinkState}
use Rattle.run_status.specs.declared.status.Status.{Status}
use Rattle.run_status.specs.declared.status.Status.TheVariants as status
use Rattle.cephmon_links.specs.declared.devices.Channel.{Channel}
use Rattle.cephmon_links.specs.declared.devices.Channel.TheVariants as channel
use Rattle.cephmon_links.specs.Devices.{RecordedLives}
use Rattle.cephmon_run.specs.Lives.{AreLives, scene}
use Rattle.cephmon_run.specs.Node.{Around}
use Rattle.cephmon_run.specs.Outside.{Outside}
use Rattle.cephmon_run.specs.Run.{Ends}

abbrev pub IsLinkOf : Channel → RecordedLives → Type 0
IsLinkOf (channel.Monitor link clock) lives = lives ≡ link
IsLinkOf (channel.Client link) lives = ⊥
IsLinkOf (channel.Unused link) lives = ⊥

abbrev pub IsSocket : Channel → Type 0
IsSocket (channel.Monitor link clock) = ⊥
IsSocket (channel.Client link) = Unit {0}
IsSocket (channel.Unused link) = Unit {0}

-- The program has no devices: the name of the quorum is refused, the system gives no number of a life, or memory ran out.
abbrev pub IsWithoutDevices : Status → Type 0
IsWithoutDevices s = (s ≡ status.Words) ⊎ ((s ≡ status.LinkFault) ⊎ (s ≡ status.OutOfMemory))

module _ {D : Type 0} (disk_state : D → DiskState) (link_state : RecordedLives → LinkState)
    (history : RecordedLives → List Happened → Type 0) (stood : RecordedLives → Bool) (words : List (String Global)) (disks : NodeDisks D) where
  -- a run on these disks, over a link in this state
  abbrev pub Runs : LinkState → Status → Type 0
  Runs link s =
      (before : Outside) × (after : Outside) × (clock : Option Readings) × (left : Around D)
      × Ends disk_state words before after (record { disks = disks; link = link; clock = clock }) left s

  -- the lives of a monitor on these disks, over this link
  abbrev pub LivesOver : RecordedLives → Status → Type 0
  LivesOver link s =
      (before : Outside) × (after : Outside) × (clock : Option Readings) × (left : Around D)
      × AreLives disk_state link_state history stood words (scene before disks link clock) after left s

  -- A monitor lives on these disks over this link; or a task without lives runs on them.
  abbrev pub RunsOn : Channel → Status → Type 0
  RunsOn c s =
      ((link : RecordedLives) × IsLinkOf c link × LivesOver link s) ⊎ ((link : LinkState) × IsSocket c × Runs link s)
