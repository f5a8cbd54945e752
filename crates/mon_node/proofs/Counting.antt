-- Which ends count a fault.
use Rattle.std.proofs.Common.{◌≡◌, ℕ, Result, Ok, Err, refl, subst}
use Rattle.std.specs.Prelude.{List, IfErr}
use Rattle.mon_msg.specs.declared.plan.RoleStop.TheVariants as stop
use Rattle.mon_msg.specs.declared.plan.RoleStop.{RoleStop}
use Rattle.mon_tx.specs.Map.{Store}
use Rattle.mon_tx.specs.declared.op.Op.{Op}
use Rattle.mon_node.specs.Ends.{of_core}
use Rattle.mon_node.specs.Hearing.{Heard, Hears, faults_by}
use Rattle.mon_node.specs.Keeping.{Keeps, DisksCountAt}
use Rattle.mon_node.specs.Nodes.{Outside}
use Rattle.mon_node.specs.Posting.{IsSpent}
use Rattle.mon_node.specs.Serving.{IsOfInput}
use Rattle.mon_node.specs.declared.end.NodeEnd.TheVariants as end
use Rattle.mon_node.specs.declared.end.NodeEnd.{NodeEnd}

-- an end that an input may have counts no fault of the link
pub no_link_fault : {T : Type 0} (result : Result T NodeEnd) (n : ℕ) → IfErr result IsOfInput → n ≡ faults_by result n
no_link_fault (Ok x) n h = refl
no_link_fault (Err end.Closed) n h = absurd h
no_link_fault (Err end.TurnsUsed) n h = absurd h
no_link_fault (Err end.DiskFault) n h = refl
no_link_fault (Err end.LinkFault) n h = absurd h
no_link_fault (Err (end.Full would_be)) n h = refl
no_link_fault (Err (end.Spent spent)) n h = refl
no_link_fault (Err end.OutOfMemory) n h = refl

-- an end at hearing counts no fault of the disks
pub no_disk_fault : (h : Heard) (e : NodeEnd) (o : Outside) (a b : ℕ) → Hears h (Err e) o → DisksCountAt e a b a b
no_disk_fault h end.Closed o a b heard = (refl, refl)
no_disk_fault h end.LinkFault o a b heard = (refl, refl)
no_disk_fault h end.OutOfMemory o a b heard = (refl, refl)
no_disk_fault h end.TurnsUsed o a b heard = absurd heard
no_disk_fault h end.DiskFault o a b heard = absurd heard
no_disk_fault h (end.Full would_be) o a b heard = absurd heard
no_disk_fault h (end.Spent spent) o a b heard = absurd heard

-- nor does the end of a core that stops
pub core_counts : (s : RoleStop) (a b : ℕ) → DisksCountAt (of_core s) a b a b
core_counts stop.OutOfMemory a b = (refl, refl)
core_counts (stop.Spent which) a b = (refl, refl)

pub core_is : (s : RoleStop) → IsOfInput (of_core s)
core_is stop.OutOfMemory = tt
core_is (stop.Spent which) = tt

-- a transaction that isn't kept has an end that an input may have
pub unkept_is : (ops : List Op) (old new : Store) (e : NodeEnd) → Keeps {T = Unit {0}} ops old new (Err e) → IsOfInput e
unkept_is ops old new (end.Full would_be) h = tt
unkept_is ops old new end.DiskFault h = tt
unkept_is ops old new end.OutOfMemory h = tt
unkept_is ops old new end.Closed h = absurd h
unkept_is ops old new end.TurnsUsed h = absurd h
unkept_is ops old new end.LinkFault h = absurd h
unkept_is ops old new (end.Spent spent) h = absurd h

-- nor does an end at sending
module _ (next : ℕ) where
  pub unsent_counts : (e : NodeEnd) (a b new_a new_b : ℕ) → IsSpent next e → new_a ≡ a → new_b ≡ b → DisksCountAt e a b new_a new_b
  unsent_counts end.OutOfMemory a b new_a new_b why x y = (x, y)
  unsent_counts (end.Spent spent) a b new_a new_b why x y = (x, y)
  unsent_counts end.Closed a b new_a new_b why x y = absurd why
  unsent_counts end.TurnsUsed a b new_a new_b why x y = absurd why
  unsent_counts end.DiskFault a b new_a new_b why x y = absurd why
  unsent_counts end.LinkFault a b new_a new_b why x y = absurd why
  unsent_counts (end.Full would_be) a b new_a new_b why x y = absurd why

  pub unsent_is : (e : NodeEnd) → IsSpent next e → IsOfInput e
  unsent_is end.OutOfMemory why = tt
  unsent_is (end.Spent spent) why = tt
  unsent_is end.Closed why = absurd why
  unsent_is end.TurnsUsed why = absurd why
  unsent_is end.DiskFault why = absurd why
  unsent_is end.LinkFault why = absurd why
  unsent_is (end.Full would_be) why = absurd why

-- if the first of two calls counts nothing, both count what the second counts
pub counts_on : (e : NodeEnd) (a b mid_a mid_b new_a new_b : ℕ) → mid_a ≡ a → mid_b ≡ b → DisksCountAt e mid_a mid_b new_a new_b → DisksCountAt e a b new_a new_b
counts_on e a b mid_a mid_b new_a new_b x y h = subst (λ (n : ℕ). DisksCountAt e n b new_a new_b) x (subst (λ (n : ℕ). DisksCountAt e mid_a n new_a new_b) y h)
