-- The changes by which a chunk is taken.
use Rattle.std.specs.List.{AllByRecursion}
use Rattle.std.specs.Prelude.{◌≡◌, ℕ, suc, Bool, true, false, List, Result, Ok, Err, ◌++◌}
use Rattle.mon_bytes.specs.declared.entry.Entry.{Entry}
use Rattle.mon_msg.specs.Protocol.Changes.{Change, encoded}
use Rattle.mon_msg.specs.Protocol.Chunks.{record_changes, copy_changes, copy, take}
use Rattle.mon_msg.specs.Protocol.Course.{Course, requester_is}
use Rattle.mon_msg.specs.Protocol.Played.{Fits}
use Rattle.mon_msg.specs.declared.plan.RoleStop.TheVariants as stop
use Rattle.mon_msg.specs.declared.plan.RoleStop.{RoleStop}
use Rattle.mon_msg.specs.declared.synchronization.Requester.{Requester}
use Rattle.mon_tx.specs.declared.op.Op.{Op}
use Rattle.mon_wire.specs.declared.parts.Place.{Place}
use Rattle.mon_plan.specs.Learned.{learned}
use Rattle.mon_plan.specs.Plans.{changed}
use Rattle.sync_requester.specs.declared.chunks.Taken.{Taken}

-- The changes that take a chunk. A whole copy puts records and entries as they are; a recent synchronization learns the
-- values of the versions from v on.
abbrev pub copied : (full : Bool) → (v : ℕ) → List (List Op) → List Entry → List Change
copied true v values entries = record_changes v values ++ copy_changes entries
copied false v values entries = learned v values

-- A call that appends these changes does what the protocol's step does, or names the number that runs out, or memory
-- ran out.
abbrev pub Copies : (full : Bool) → (v : ℕ) → List (List Op) → List Entry → Result Unit RoleStop → Type 0
Copies full v values entries (Ok done) =
    (x : Course) → copy full v values entries x ≡ Ok (changed (copied full v values entries) x)
Copies full v values entries (Err stop.OutOfMemory) = Unit {0}
Copies full v values entries (Err (stop.Spent which)) = (x : Course) → copy full v values entries x ≡ Err which

-- A chunk that was taken is written, and the requester remembers the place after it.
pub record IsTaken (s : Requester) (p : Place) (values : List (List Op)) (entries : List Entry) (done : Bool)
    (taken : Taken) : Type 0 where
  pub encoded : taken.tx ≡ encoded (copied s.full (suc p.version) values entries)
  pub fit : AllByRecursion Fits (copied s.full (suc p.version) values entries)
  pub row : (x : Course) → x.state.requester ≡ s → take p values entries done x
      ≡ Ok (requester_is (record s { place = taken.place }) (changed (copied s.full (suc p.version) values entries) x))

-- A call takes a chunk and returns what it writes, or names the number that runs out, or memory ran out.
abbrev pub Takes : Requester → Place → List (List Op) → List Entry → (done : Bool) → Result Taken RoleStop → Type 0
Takes s p values entries done (Ok taken) = IsTaken s p values entries done taken
Takes s p values entries done (Err stop.OutOfMemory) = Unit {0}
Takes s p values entries done (Err (stop.Spent which)) =
    (x : Course) → x.state.requester ≡ s → take p values entries done x ≡ Err which
