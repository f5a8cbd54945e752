-- The changes by which values are learned.
use Rattle.std.specs.Prelude.{◌≡◌, ℕ, ◌+◌, List, Result, Ok, Err, [], ◌∷◌, ◌++◌, length}
use Rattle.mon_msg.specs.Protocol.Changes.{Change, Last}
use Rattle.mon_msg.specs.Protocol.Course.{Course}
use Rattle.mon_msg.specs.Protocol.Learning.{learn_changes, learn}
use Rattle.mon_msg.specs.declared.plan.RoleStop.TheVariants as stop
use Rattle.mon_msg.specs.declared.plan.RoleStop.{RoleStop}
use Rattle.mon_tx.specs.declared.op.Op.{Op}
use Rattle.mon_plan.specs.Plans.{changed}

-- the values of the versions from v on, and then the last version, unless there are none
abbrev pub learned : (v : ℕ) → List (List Op) → List Change
learned v [] = []
learned v (value ∷ values) = learn_changes v (value ∷ values) ++ Last (v + length values) ∷ []

-- A call that appends these changes does what the protocol's act does. Otherwise it names the number that runs out, or
-- memory ran out.
abbrev pub Learns : (v : ℕ) → List (List Op) → Result Unit RoleStop → Type 0
Learns v values (Ok done) = (x : Course) → learn v values x ≡ Ok (changed (learned v values) x)
Learns v values (Err stop.OutOfMemory) = Unit {0}
Learns v values (Err (stop.Spent which)) = (x : Course) → learn v values x ≡ Err which
