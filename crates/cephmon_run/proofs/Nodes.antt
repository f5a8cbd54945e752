-- How the ends of a node, and of opening its store, end the program.
use Rattle.std.proofs.Common.{◌≡◌, ℕ, List, Option, None, IsTrue, inl, inr, subst, sym}
use Rattle.std.specs.Prelude.{is_some}
use Rattle.mon_disk.specs.Calls.{DiskState}
use Rattle.mon_msg.specs.declared.view.Me.{Me}
use Rattle.mon_node.specs.declared.end.NodeEnd.{NodeEnd}
use Rattle.mon_node.specs.declared.end.NodeEnd.TheVariants as end
use Rattle.mon_store.specs.Opening.{BothCount}
use Rattle.mon_store.specs.declared.stop.OpenStop.{OpenStop}
use Rattle.mon_store.specs.declared.stop.OpenStop.TheVariants as open_stop
use Rattle.mon_node.specs.Keeping.{DisksCountAt}
use Rattle.run_status.specs.declared.status.Status.{Status}
use Rattle.cephmon_run.specs.Node.{Around, NodeCause, Served, Unopened}
use Rattle.run_status.specs.Status.{status_of_end, status_of_opening}

module _ {D : Type 0} (state : D → DiskState) (me : Me) (turns : ℕ) (before after : Around D) where
  unopened : (why : OpenStop) → Unopened state me.member before after why → NodeCause state me turns before after (status_of_opening why)
  unopened open_stop.DiskFault h = inl h
  unopened (open_stop.NotAStore disk at) h = h
  unopened (open_stop.Stranger kept asked) h = h
  unopened open_stop.OutOfMemory h = inr (inl h)

  served : (e : NodeEnd) → Served state me turns before after e → NodeCause state me turns before after (status_of_end e)
  served end.Closed h = h
  served end.TurnsUsed h = h
  served end.DiskFault h = inr h
  served end.LinkFault h = h
  served (end.Full would_be) h = h
  served (end.Spent which) h = h
  served end.OutOfMemory h = inr (inr h)

  -- the status that is returned
  pub ends_unopened : (why : OpenStop) (s : Status) → s ≡ status_of_opening why → Unopened state me.member before after why → NodeCause state me turns before after s
  ends_unopened why s is h = subst (NodeCause state me turns before after) (sym is) (unopened why h)

  pub ends_served : (e : NodeEnd) (s : Status) → s ≡ status_of_end e → Served state me turns before after e → NodeCause state me turns before after s
  ends_served e s is h = subst (NodeCause state me turns before after) (sym is) (served e h)

-- ---- what an opening leaves for the serving

-- an opening that was carried out counted nothing
pub counted_none : (a b new_a new_b : DiskState) → BothCount None a b new_a new_b → (new_a.faults ≡ a.faults) × (new_b.faults ≡ b.faults)
counted_none a b new_a new_b counts = elim counts [
  | inl c ↦ (c.0.0, c.1.0)
  | inr c ↦ (c.0.0, c.1.0)
]

pub count_since : (e : NodeEnd) (old_a old_b mid_a mid_b new_a new_b : ℕ) → mid_a ≡ old_a → mid_b ≡ old_b → DisksCountAt e mid_a mid_b new_a new_b
    → DisksCountAt e old_a old_b new_a new_b
count_since e old_a old_b mid_a mid_b new_a new_b same_a same_b counts =
    subst (λ (a : ℕ). DisksCountAt e a old_b new_a new_b) same_a (subst (λ (b : ℕ). DisksCountAt e mid_a b new_a new_b) same_b counts)

-- a disk's contents stay visible
pub visible_still : (old new : Option (List ℕ)) → is_some new ≡ is_some old → IsTrue (is_some old) → IsTrue (is_some new)
visible_still old new same visible = subst IsTrue (sym same) visible
