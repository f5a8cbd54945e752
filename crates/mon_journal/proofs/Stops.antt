-- The journal's stop for a disk's.
use Rattle.std.proofs.Common.{◌≡◌, List, ℕ, Option, Some, Err, refl}
use Rattle.mon_types.specs.declared.names.Stop.{Stop}
use Rattle.mon_types.specs.declared.names.Stop.TheVariants.{Failed, OutOfMemory}
use Rattle.mon_disk.specs.declared.disk.DiskCall.{DiskCall}
use Rattle.mon_disk.specs.Images.{LeavesOnly}
use Rattle.mon_disk.specs.Calls.{DiskState, Called}
use Rattle.mon_journal.specs.Steps.{stopped, stop_in}

pub stop_back : (T : Type 0) (s : Stop) → stop_in {T = T} (Err (stopped s)) ≡ Some s
stop_back T Failed = refl
stop_back T OutOfMemory = refl

pub with_times : {calls : List DiskCall} {stop : Option Stop} {old new : DiskState} (P R : List ℕ → Type 0) → Called calls P stop old new → LeavesOnly old.content new.content R → Called calls R stop old new
with_times P R c times = record { visible = c.visible; any_time = times; made = c.made; faults = c.faults; refusals = c.refusals }
