-- The history of a disk in memory, and what it holds after that.
use Rattle.std.specs.Prelude.{◌≡◌, ◌==◌, ◌++◌, ◌-◌, ◌/◌, ℕ, pred, List, [], ◌∷◌, length, take, drop, replicate, reverse, Option, Some, None, if◌then◌else◌}
use Rattle.mon_disk.specs.declared.disk.DiskCall.{DiskCall}
use Rattle.mon_disk.specs.declared.disk.DiskCall.TheVariants.{Write, Sync}
use Rattle.mon_disk.specs.Images.{overwritten, Torn}

-- an injected fault: the number, counted from 1, of the first write or sync that fails, and the image that the disk
-- settles to
pub record InjectedFault : Type 0 where
  pub from : ℕ
  pub image : ℕ

-- A disk's life since it was made or last settled: what it held then, the writes and syncs since, failed ones too, and the
-- injected fault, if there is one.
pub record Lived : Type 0 where
  pub first : List ℕ
  pub calls : List DiskCall
  pub upset : Option InjectedFault

-- the lives that ended with a settling, oldest first, and the one that goes on
pub record Lives : Type 0 where
  pub past : List Lived
  pub life : Lived

-- a life that begins with what the disk then holds
abbrev pub begins_with : List ℕ → Lived
begins_with file = record { first = file; calls = []; upset = None }

-- the number, from 1, of the first call that fails
abbrev pub from_of : Option InjectedFault → Option ℕ
from_of None = None
from_of (Some u) = Some u.from

-- the calls that were done
abbrev pub done_of : Option ℕ → List DiskCall → List DiskCall
done_of None calls = calls
done_of (Some from) calls = take (pred from) calls

-- the first write of these calls, if there is one
abbrev pub first_write : List DiskCall → List DiskCall
first_write [] = []
first_write (Write at bytes ∷ calls) = Write at bytes ∷ []
first_write (Sync ∷ calls) = first_write calls

abbrev pub lost_of : Option ℕ → List DiskCall → List DiskCall
lost_of None calls = []
lost_of (Some from) calls = first_write (drop (pred from) calls)

-- what was done, newest first
abbrev pub done : Lived → List DiskCall
done life = reverse (done_of (from_of life.upset) life.calls)

-- what was begun, newest first: what was done, and above it the first write that failed
abbrev pub begun : Lived → List DiskCall
begun life = lost_of (from_of life.upset) life.calls ++ done life

-- what a read gives after these calls, newest first
abbrev pub seen_after : List ℕ → List DiskCall → List ℕ
seen_after first [] = first
seen_after first (Write at bytes ∷ older) = overwritten at bytes (seen_after first older)
seen_after first (Sync ∷ older) = seen_after first older

-- what a crash may leave after these calls, newest first
abbrev pub LeftAfter : List ℕ → List DiskCall → List ℕ → Type 0
LeftAfter first [] c = c ≡ first
LeftAfter first (Write at bytes ∷ older) c = (d : List ℕ) × LeftAfter first older d × Torn at bytes d c
LeftAfter first (Sync ∷ older) c = c ≡ seen_after first older

-- the part of a write that an image keeps: nothing, all, the first half, or a byte 0xA5 for each of its bytes
abbrev pub part : ℕ → List ℕ → List ℕ
part image bytes =
    if image == 0 then [] else if image == 1 then bytes else if image == 2 then take (length bytes / 2) bytes else replicate (length bytes) 165

-- a file with these bytes at a place, and zeros between its old end and them
abbrev pub placed : ℕ → List ℕ → List ℕ → List ℕ
placed at [] file = file
placed at (byte ∷ bytes) file = overwritten at (byte ∷ bytes) (file ++ replicate (at - length file) 0)

-- the image after these calls, newest first: the file at the last sync with the kept part of each write since, in order
abbrev pub imaged : ℕ → List ℕ → List DiskCall → List ℕ
imaged image first [] = first
imaged image first (Write at bytes ∷ older) = placed at (part image bytes) (imaged image first older)
imaged image first (Sync ∷ older) = seen_after first older

abbrev pub seen_of : Lived → List ℕ
seen_of life = seen_after life.first (done life)

-- what the disk settles to: without an injected fault, what a read gives
abbrev pub settled_as : Option InjectedFault → Lived → List ℕ
settled_as None life = seen_of life
settled_as (Some u) life = imaged u.image life.first (begun life)

abbrev pub settled : Lived → List ℕ
settled life = settled_as life.upset life
