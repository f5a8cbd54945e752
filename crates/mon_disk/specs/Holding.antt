-- The contents of a disk in memory: what a read returns, and the writes that its images need beside that.
use Rattle.std.specs.Prelude.{◌≡◌, ◌==◌, ◌-◌, ◌++◌, ℕ, suc, Bool, false, List, [], ◌∷◌, map, length, take, drop, reverse, Option, Some, None, if◌then◌else◌}
use Rattle.mon_disk.specs.declared.disk.DiskCall.{DiskCall}
use Rattle.mon_disk.specs.declared.disk.DiskCall.TheVariants.{Write, Sync}
use Rattle.mon_disk.specs.declared.unsynced.Unsynced.{Unsynced}
use Rattle.mon_disk.specs.declared.holding.Countdown.{Countdown}
use Rattle.mon_disk.specs.Images.{overwritten}
use Rattle.mon_disk.specs.Memory.{InjectedFault, Lived, from_of, lost_of, done, seen_after, imaged, seen_of}

-- What a read gives; the writes since the last sync, oldest first; the first write that failed; and how many calls are
-- done before one fails.
pub record HoldingState : Type 0 where
  pub bytes : List ℕ
  pub unsynced : List Unsynced
  pub lost : Option Unsynced
  pub upset : Option Countdown

abbrev pub holds_only : List ℕ → HoldingState
holds_only file = record { bytes = file; unsynced = []; lost = None; upset = None }

-- whether the next write or sync fails
abbrev pub is_over : Option Countdown → Bool
is_over None = false
is_over (Some u) = u.left == 0

abbrev pub counted : Option Countdown → Option Countdown
counted None = None
counted (Some u) = Some (record { left = u.left - 1; image = u.image })

-- ---- a call that is done, and one that fails

abbrev pub write_of : ℕ → List ℕ → List ℕ → Unsynced
write_of at bytes file = record { at = at; bytes = bytes; under = take (length bytes) (drop at file) }

abbrev pub written_on : ℕ → List ℕ → HoldingState → HoldingState
written_on at bytes c = record {
  bytes = overwritten at bytes c.bytes;
  unsynced = c.unsynced ++ write_of at bytes c.bytes ∷ [];
  lost = c.lost;
  upset = counted c.upset;
}

abbrev pub synced_on : HoldingState → HoldingState
synced_on c = record { bytes = c.bytes; unsynced = []; lost = c.lost; upset = counted c.upset }

abbrev pub first_lost : ℕ → List ℕ → Option Unsynced → Option Unsynced
first_lost at bytes None = Some (record { at = at; bytes = bytes; under = [] })
first_lost at bytes (Some w) = Some w

abbrev pub lost_on : ℕ → List ℕ → HoldingState → HoldingState
lost_on at bytes c = record { bytes = c.bytes; unsynced = c.unsynced; lost = first_lost at bytes c.lost; upset = counted c.upset }

abbrev pub failed_on : HoldingState → HoldingState
failed_on c = record { bytes = c.bytes; unsynced = c.unsynced; lost = c.lost; upset = counted c.upset }

abbrev pub injected_on : ℕ → ℕ → HoldingState → HoldingState
injected_on call image c = record { bytes = c.bytes; unsynced = c.unsynced; lost = c.lost; upset = Some (record { left = call - 1; image = image }) }

-- ---- what it settles to

-- a file before a write
abbrev pub undone : Unsynced → List ℕ → List ℕ
undone w file = if length w.under == length w.bytes then overwritten w.at w.under file else take w.at file ++ w.under

-- a file before these writes, newest first
abbrev pub all_undone : List Unsynced → List ℕ → List ℕ
all_undone [] file = file
all_undone (w ∷ older) file = all_undone older (undone w file)

abbrev pub call_of : Unsynced → DiskCall
call_of w = Write w.at w.bytes

abbrev pub lost_calls : Option Unsynced → List DiskCall
lost_calls None = []
lost_calls (Some w) = call_of w ∷ []

abbrev pub settled_with : Option Countdown → HoldingState → List ℕ
settled_with None c = c.bytes
settled_with (Some u) c = imaged u.image (all_undone (reverse c.unsynced) c.bytes) (lost_calls c.lost ++ map call_of (reverse c.unsynced))

abbrev pub settled_from : HoldingState → List ℕ
settled_from c = settled_with c.upset c

-- ---- of which life it is

-- the writes since the last sync among these calls, newest first, and what was at that sync
abbrev pub since_sync : List DiskCall → List DiskCall
since_sync [] = []
since_sync (Write at bytes ∷ older) = Write at bytes ∷ since_sync older
since_sync (Sync ∷ older) = []

abbrev pub at_sync : List ℕ → List DiskCall → List ℕ
at_sync first [] = first
at_sync first (Write at bytes ∷ older) = at_sync first older
at_sync first (Sync ∷ older) = seen_after first older

abbrev pub left_of : ℕ → Option InjectedFault → Option Countdown
left_of made None = None
left_of made (Some u) = Some (record { left = u.from - suc made; image = u.image })

abbrev pub Holds : HoldingState → Lived → Type 0
Holds c life =
    (c.bytes ≡ seen_of life)
    × (map call_of (reverse c.unsynced) ≡ since_sync (done life))
    × (all_undone (reverse c.unsynced) c.bytes ≡ at_sync life.first (done life))
    × (lost_calls c.lost ≡ lost_of (from_of life.upset) life.calls)
    × (c.upset ≡ left_of (length life.calls) life.upset)
