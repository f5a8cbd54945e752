-- What is left on a monitor's disks if one of them fails within an event.
use Rattle.std.specs.Prelude.{ℕ, ◌+◌, ◌-◌, nat_le, nat_lt, ◌||◌, List, Option, Some, None, if◌then◌else◌}
use Rattle.mon_types.specs.declared.names.Side.{Side}
use Rattle.mon_types.specs.declared.names.Side.TheVariants.{A, B}
use Rattle.mon_types.specs.Sides.{other}
use Rattle.mon_tx.specs.declared.op.Op.{Op}
use Rattle.mon_tx.specs.Map.{Store, apply}
use Rattle.mon_msg.specs.Protocol.Sets.{is_empty}
use Rattle.quorum_model.specs.declared.calls.TheConstants.{SYNC, CREATION, APPEND}
use Rattle.quorum_model.specs.Files.{File, Files, first_file, file_on, with_file, live_side, is_created, after_opening, after_append, is_due, checkpoint}
use Rattle.quorum_model.specs.InjectedFaults.{InjectedFault, same_side, last_write, opens_gate, closes_gate}

-- The file of a disk after a creation whose calls fail from this one on. A creation closes the gate of the header by
-- its first call, and opens it by its last write. If the gate was opened, the disk has the new file. If it was only
-- closed, the disk has no file. Otherwise it has the old one.
abbrev pub file_remaining : (call image : ℕ) → (old : Option File) → File → Option File
file_remaining call image old new =
    if opens_gate (last_write CREATION) call image then Some new else (if closes_gate 1 call image then None else old)

-- The files after a checkpoint on this disk, if one is due. The calls of the disk fail from this one on.
abbrev pub checkpoint_cut : (call image : ℕ) → Store → Side → Option File → Files → Files
checkpoint_cut call image m side None f = f
checkpoint_cut call image m side (Some live) f =
    if is_due live m then with_file side (file_remaining call image (file_on side f) (checkpoint live m)) f else f

abbrev pub checkpoint_begun : (call image : ℕ) → Store → Files → Files
checkpoint_begun call image m f = checkpoint_cut call image m (other (live_side f)) (file_on (live_side f) f) f

-- the files after a whole checkpoint: the first call that fails would come after its last one
abbrev pub after_checkpoint : Store → Files → Files
after_checkpoint m f = checkpoint_begun (CREATION + 1) 0 m f

-- The files after a transaction over a map and the checkpoint after it, if the calls of a disk fail from this one on.
abbrev pub append_cut : Files → Store → Side → (call image : ℕ) → List Op → Files
append_cut f m disk call image ops =
    if same_side disk (live_side f)
    then (if nat_lt APPEND call || is_empty ops then after_checkpoint (apply ops m) (after_append ops f)
    else (if opens_gate (last_write APPEND) call image then after_append ops f else f))
    else checkpoint_begun call image (apply ops m) (after_append ops f)

-- The files after an opening that fails at this call. If it creates the store, the creation, which follows a sync, may
-- be cut short. Otherwise the files stay as they are.
abbrev pub opening_cut : Files → Side → (call image : ℕ) → Files
opening_cut f B call image = f
opening_cut f A call image =
    if is_created f then f else with_file A (file_remaining (call - SYNC) image None first_file) f

-- a monitor's files after an event that writes these operations and in which a disk fails
abbrev pub files_cut : Files → Store → (opening : ℕ) → InjectedFault → List Op → Files
files_cut f m opening u ops =
    if nat_le u.call opening then opening_cut f u.disk u.call u.image
    else append_cut (after_opening f) m u.disk (u.call - opening) u.image ops
