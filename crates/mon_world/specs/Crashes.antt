-- What remains of a monitor in whose event a disk fails.
use Rattle.std.specs.Prelude.{◌≡◌, ℕ, ◌+◌, ◌≤◌, Bool, true, false, List, Option, Some, None, Result, Ok, Err, is_err, if◌then◌else◌}
use Rattle.mon_disk.specs.MemoryDisk.{MemoryState}
use Rattle.mon_kv.specs.Readers.{is_marked, size_of, most_size}
use Rattle.mon_msg.specs.Protocol.Reaction.{Reaction}
use Rattle.mon_msg.specs.declared.input.Input.{Input}
use Rattle.mon_msg.specs.declared.input.Input.TheVariants as input
use Rattle.mon_msg.specs.declared.view.Me.{Me}
use Rattle.mon_site.specs.Ending.{is_kept}
use Rattle.mon_site.specs.Faults.{HasFault, Rests}
use Rattle.mon_site.specs.declared.injected.InjectedFault.{InjectedFault}
use Rattle.mon_store.specs.declared.store.Store as kept
use Rattle.mon_tx.specs.Map.{Store, apply}
use Rattle.mon_tx.specs.declared.op.Op.{Op}
use Rattle.mon_types.specs.declared.member.Member.{Member}
use Rattle.mon_types.specs.declared.names.Which.{Which}
use Rattle.quorum_model.specs.Cuts.{append_cut, files_cut}
use Rattle.quorum_model.specs.Files.{Files}
use Rattle.quorum_model.specs.Growth.{last_of}
use Rattle.quorum_model.specs.Happens.{Stop, unless_stopped}
use Rattle.quorum_model.specs.Scenes.{opening_of, ops_of}
use Rattle.quorum_model.specs.InjectedFaults as model
use Rattle.quorum_model.specs.InjectedFaults.{crash_keeps}
use Rattle.mon_world.specs.declared.crash.Remains.{Remains}
use Rattle.mon_world.specs.declared.crash.Written.{Written}
use Rattle.mon_world.specs.declared.monitor.Monitor.{Monitor}
use Rattle.mon_world.specs.declared.stop.WorldStop.{WorldStop}
use Rattle.mon_world.specs.declared.stop.WorldStop.TheVariants.{OutOfMemory, Spent, Full}
use Rattle.mon_world.specs.Monitor.{Represents}
use Rattle.mon_world.specs.Stops.{Stops, IsntKept}

-- a fault as the model has it
abbrev pub injected_of : InjectedFault → model.InjectedFault
injected_of u = record { disk = u.disk; call = u.call; image = u.image }

-- A fault that the code takes: its call is counted from 1 and has 16 bits, and its image is one of four.
pub record MayBe (u : InjectedFault) : Type 0 where
  pub first : 1 ≤ u.call
  pub most : u.call ≤ 65535
  pub image : u.image ≤ 3

-- The fault with its call counted from the first call of the opening. An event counts a start's failing call so, and
-- that of another input from the end of the opening, which has this many calls.
abbrev pub counted : InjectedFault → Input → ℕ → InjectedFault
counted u input.Start opening = u
counted u other opening = record { disk = u.disk; call = u.call + opening; image = u.image }

-- what a kept transaction leaves
abbrev pub written : Store → Written
written m = record { last = last_of m; marked = is_marked m }

abbrev pub written_if : Bool → Store → Option Written
written_if kept m = if kept then Some (written m) else None

-- a store that is open, and of which this disk fails at that call
abbrev pub WithFault : InjectedFault → kept.Store MemoryState → Type 0
WithFault u store = (member : Member) × (m : Store) × (f : Files) × HasFault u.disk u.call u.image member m f store

-- A transaction in which a disk fails: the map has room for it, and it is kept or lost. The disks settle.
pub record Settled (u : InjectedFault) (member : Member) (m : Store) (f : Files) (ops : List Op)
    (remains : Remains) : Type 0 where
  pub room : size_of (apply ops m) ≤ most_size
  pub kept : remains.kept ≡ written_if (is_kept u f ops) (apply ops m)
  pub rests : Rests member (if is_kept u f ops then apply ops m
      else m) (append_cut f m u.disk u.call u.image ops) remains.disks.a remains.disks.b

abbrev pub EndsWith : InjectedFault → Member → Store → Files → List Op → Result Remains WorldStop → Type 0
EndsWith u member m f ops (Ok remains) = Settled u member m f ops remains
EndsWith u member m f ops (Err e) = IsntKept ops m e

-- the same of a core's reaction over an open store, or the reaction stops the run
abbrev pub Ends : InjectedFault → Member → Store → Files → Result Reaction Which → Result Remains WorldStop → Type 0
Ends u member m f r (Ok remains) = (x : Reaction) × (r ≡ Ok x) × Settled u member m f x.transaction remains
Ends u member m f r (Err e) = Stops e (unless_stopped m r)

-- ---- as the model says, if the monitor's reaction to an input is this

-- whether its transaction is kept
unfoldable pub keeps : InjectedFault → Store → Files → Input → Result Reaction Which → Bool
keeps u m f came r = crash_keeps f m (opening_of came u.disk f) (injected_of u) r

-- the map and the files that it leaves
unfoldable pub map_remaining : InjectedFault → Store → Files → Input → Result Reaction Which → Store
map_remaining u m f came r = if keeps u m f came r then apply (ops_of r) m else m

unfoldable pub files_remaining : InjectedFault → Store → Files → Input → Result Reaction Which → Files
files_remaining u m f came r = files_cut f m (opening_of came u.disk f) (injected_of u) (ops_of r)

-- a reaction whose transaction is kept doesn't stop the run
abbrev pub GoesOn : InjectedFault → Store → Files → Input → Result Reaction Which → Type 0
GoesOn u m f came r = keeps u m f came r ≡ true → is_err (unless_stopped m r) ≡ false

-- What remains of the monitor is as the model says, and its disks settle.
pub record IsRemains (u : InjectedFault) (member : Member) (m : Store) (f : Files) (came : Input)
    (r : Result Reaction Which)
    (remains : Remains) : Type 0 where
  pub goes_on : GoesOn u m f came r
  pub kept : remains.kept ≡ written_if (keeps u m f came r) (apply (ops_of r) m)
  pub rests : Rests member (map_remaining u m f came r) (files_remaining u m f came r) remains.disks.a remains.disks.b

-- unless memory ran out, the model's run stops at the same number or size, and its transaction counts as kept
abbrev pub StopsKept : WorldStop → Bool → Result Reaction Stop → Type 0
StopsKept OutOfMemory kept wanted = Unit {0}
StopsKept (Spent which) kept wanted = (kept ≡ true) × Stops (Spent which) wanted
StopsKept (Full would_be) kept wanted = (kept ≡ true) × Stops (Full would_be) wanted

abbrev pub Crashes : InjectedFault → Member → Store → Files → Input → Result Reaction Which → Result Remains WorldStop
    → Type 0
Crashes u member m f came r (Ok remains) = IsRemains u member m f came r remains
Crashes u member m f came r (Err e) = StopsKept e (keeps u m f came r) (unless_stopped m r)

-- whether the map is marked then, if the transaction is kept
abbrev pub marked_if : Bool → Store → Option Bool
marked_if kept m = if kept then Some (is_marked m) else None

-- The monitor is down, with the map and the files that the model says.
pub record IsDown (u : InjectedFault) (me : Me) (m : Store) (f : Files) (came : Input) (r : Result Reaction Which)
    (reported : Option Bool) (new : Monitor) : Type 0 where
  pub goes_on : GoesOn u m f came r
  pub reported_is : reported ≡ marked_if (keeps u m f came r) (apply (ops_of r) m)
  pub stands : Represents me (map_remaining u m f came r) None (files_remaining u m f came r) new

abbrev pub CrashesDown : InjectedFault → Me → Store → Files → Input → Result Reaction Which → Monitor →
    Result (Option Bool) WorldStop → Type 0
CrashesDown u me m f came r new (Ok reported) = IsDown u me m f came r reported new
CrashesDown u me m f came r new (Err e) = StopsKept e (keeps u m f came r) (unless_stopped m r)
