-- When a disk fails within an event, and whether what its monitor writes is kept then.
use Rattle.std.specs.Prelude.{ℕ, suc, ◌-◌, nat_le, nat_lt, Bool, true, false, ◌&&◌, ◌||◌, Option, Some, None, Result, Ok, Err, is_err, ◌==◌, if◌then◌else◌}
use Rattle.mon_types.specs.declared.names.Side.{Side}
use Rattle.mon_types.specs.declared.names.Side.TheVariants.{A, B}
use Rattle.mon_types.specs.declared.names.Which.{Which}
use Rattle.mon_tx.specs.Map.{Store}
use Rattle.mon_msg.specs.Protocol.Reaction.{Reaction}
use Rattle.mon_msg.specs.Protocol.Sets.{is_empty}
use Rattle.quorum_model.specs.declared.calls.TheConstants.{SYNC, OPENING, FIRST_OPENING, APPEND}
use Rattle.quorum_model.specs.Files.{File, Files, file_on, live_side, is_created}
use Rattle.quorum_model.specs.Happens.{unless_stopped}

-- A disk fails: its write or sync of this number, and every later one. Calls are counted from 1, in a start from its
-- beginning, and in any other event after an opening of the disks. The image says what remains of each write that
-- wasn't synced: 0 nothing, 1 all, 2 the first half of its bytes, 3 a foreign byte in place of each.
pub record InjectedFault : Type 0 where
  pub disk : Side
  pub call : ℕ
  pub image : ℕ

abbrev pub same_side : Side → Side → Bool
same_side A A = true
same_side B B = true
same_side a b = false

-- ---- how many calls are made

-- Opening syncs a disk, and then writes and syncs the first closed gate of an open file. If the store is created, on disk a,
-- its file is created after the sync, and opening makes no call after that.
abbrev pub opening_count : Side → Files → ℕ
opening_count side f = count (file_on side f) (is_created f) side
  where
    count : Option File → Bool → Side → ℕ
    count (Some file) created side = OPENING
    count None false A = FIRST_OPENING
    count None created side = SYNC

-- the number of the last write, among calls that end with this write and its sync
abbrev pub last_write : ℕ → ℕ
last_write calls = calls - SYNC

-- Whether a gate is open if the calls of its disk fail from this one on. A gate is one byte, which call `written`
-- writes and the next one syncs. It is open if the failing call follows these two, or if it is one of them and image 1
-- keeps the write.
abbrev pub opens_gate : (written call image : ℕ) → Bool
opens_gate written call image = nat_lt (suc written) call || (nat_le written call && image == 1)

-- whether a gate that is to be closed is closed: a foreign byte closes it as well
abbrev pub closes_gate : (written call image : ℕ) → Bool
closes_gate written call image = nat_lt (suc written) call || (nat_le written call && (image == 1 || image == 3))

-- ---- what a crash keeps

abbrev pub stops : Store → Result Reaction Which → Bool
stops m r = is_err (unless_stopped m r)

abbrev pub writes_nothing : Result Reaction Which → Bool
writes_nothing (Err which) = false
writes_nothing (Ok r) = is_empty r.transaction

-- Whether a crash keeps a monitor's transaction. Opening makes this many calls on the disk that fails, none except in a
-- start. A transaction that stops the run counts as kept unless opening failed. An empty one is kept. If the live disk
-- fails, the transaction is kept if the gate of its record is opened, which is an append's last write. If the other
-- disk fails, it is kept unless opening failed.
abbrev pub crash_keeps : Files → Store → (opening : ℕ) → InjectedFault → Result Reaction Which → Bool
crash_keeps f m opening u r =
    if stops m r && nat_lt opening u.call then true
    else (if writes_nothing r then true
    else (if same_side u.disk (live_side f) then opens_gate (last_write APPEND) (u.call - opening) u.image else nat_lt opening u.call))
