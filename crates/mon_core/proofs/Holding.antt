-- A BEGIN with each value that a leader remembers may be sent.
use Rattle.std.proofs.Common.{◌≡◌, ℕ, true, ◌&&◌, List, Option, Some, None, refl}
use Rattle.std.specs.Prelude.{IfSome}
use Rattle.mon_bounds.specs.Remembered.{IsLeader, MayPropose}
use Rattle.mon_bounds.proofs.Table.{begins_ok}
use Rattle.mon_msg.specs.declared.paxos.Found.{Found}
use Rattle.mon_msg.specs.declared.paxos.Leader.{Leader}
use Rattle.mon_tx.specs.declared.op.Op.{Op}
use Rattle.paxos_leader.specs.Inputs.{may_begin_any, may_begin_found, may_begin_all}

held_value : (value : Option (List Op)) → IfSome value MayPropose → may_begin_any value ≡ true
held_value None h = refl
held_value (Some value) h = begins_ok value h

held_found : (found : Option Found) → IfSome found (λ found. MayPropose found.value) → may_begin_found found ≡ true
held_found None h = refl
held_found (Some found) h = begins_ok found.value h

pub may_begin_held : (n : ℕ) (l : Leader) → IsLeader n l → may_begin_all l ≡ true
may_begin_held n l h = λ i. held_value l.value h.value i && held_found l.found h.found i
