-- The lives of a process: a run, and a new one each time after the machine stood still.
use Rattle.std.specs.Prelude.{◌≡◌, ◌⊎◌, ◌-◌, ◌^◌, ℕ, zero, suc, Bool, true, false, List, [], Option, String}
use Rattle.std.specs.declared.alloc.Global.{Global}
use Rattle.mon_disk.specs.Calls.{DiskState}
use Rattle.mon_disk.specs.declared.node.NodeDisks.{NodeDisks}
use Rattle.mon_link.specs.Clocks.{Readings}
use Rattle.mon_link.specs.Histories.{Happened}
use Rattle.mon_link.specs.Links.{LinkState}
use Rattle.run_status.specs.declared.status.Status.{Status}
use Rattle.run_status.specs.declared.status.Status.TheVariants as status
use Rattle.cephmon_run.specs.Node.{Around}
use Rattle.cephmon_run.specs.Outside.{Outside}
use Rattle.cephmon_run.specs.Run.{Ends}
use Rattle.cephmon_run.specs.Talking.{RunTalks}

-- What a run has at one time: its streams, its disks, its link, and what its clock shows, if that is known.
pub record Scene (D L : Type 0) : Type 0 where
  pub outside : Outside
  pub disks : NodeDisks D
  pub link : L
  pub clock : Option Readings

abbrev pub scene : {D L : Type 0} → Outside → NodeDisks D → L → Option Readings → Scene D L
scene outside disks link clock = record { outside = outside; disks = disks; link = link; clock = clock }

module _ {D L : Type 0} (disk_state : D → DiskState) (link_state : L → LinkState) (history : L → List Happened → Type 0)
    (stood : L → Bool) (words : List (String Global)) where
  abbrev pub around : Scene D L → Around D
  around s = record { disks = s.disks; link = link_state s.link; clock = s.clock }

  -- One life is a run.
  pub record IsLife (old new : Scene D L) (s : Status) : Type 0 where
    pub ends : Ends disk_state words old.outside new.outside (around old) (around new) s
    pub talks : RunTalks disk_state words old.outside new.outside (around old) (around new) s (history old.link) (history new.link)

  -- The machine stood still in a life. A new one begins with the same streams, disks and clock; no call of its link was
  -- made yet.
  pub record BeginsAnew (old new : Scene D L) : Type 0 where
    pub stood_still : stood old.link ≡ true
    pub outside : new.outside ≡ old.outside
    pub around : around new ≡ around old
    pub awake : stood new.link ≡ false
    pub fresh : history new.link []

  -- the life after this number of earlier ones, from the beginning of the first one
  abbrev pub Lived : (earlier : ℕ) → (first last : Scene D L) → Status → Type 0
  Lived zero first last s = IsLife first last s
  Lived (suc n) first last s =
      (ended : Scene D L) × (before : Status) × (begun : Scene D L)
      × Lived n first ended before × BeginsAnew ended begun × IsLife begun last s

  -- Why there is no further life: the machine didn't stand still in the last one, and its status is that of all; the system
  -- gave no number for another one; or there were 2^64.
  abbrev pub IsLast : (earlier : ℕ) → Scene D L → (before s : Status) → Type 0
  IsLast earlier last before s =
      ((stood last.link ≡ false) × (s ≡ before))
      ⊎ (((stood last.link ≡ true) × (s ≡ status.LinkFault)) ⊎ ((earlier ≡ 2 ^ 64 - 1) × (s ≡ before)))

  -- all lives, and what the last one left
  pub record AreLives (first : Scene D L) (outside : Outside) (left : Around D) (s : Status) : Type 0 where
    pub earlier : ℕ
    pub last : Scene D L
    pub before : Status
    pub lived : Lived earlier first last before
    pub ends : IsLast earlier last before s
    pub outside_after : last.outside ≡ outside
    pub around_after : around last ≡ left
