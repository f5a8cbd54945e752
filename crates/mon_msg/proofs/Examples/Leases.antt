-- A leader that gives leases waits for their acknowledgements, and one that already waits keeps the time at which it
-- gives up. So a leader that is cut off steps down.
use Rattle.std.proofs.Common.{◌≡◌, ℕ, ◌+◌, ◌^◌, false, Option, Some, None, min, [], ◌∷◌, refl}
use Rattle.mon_msg.specs.Protocol.Course.{Course, timers_are}
use Rattle.mon_msg.specs.Protocol.Leading.{extend}
use Rattle.mon_msg.specs.Protocol.Sending.{members}
use Rattle.mon_msg.specs.Protocol.Sets.{is_empty}
use Rattle.mon_msg.specs.Protocol.Timers.{end_of}
use Rattle.mon_msg.specs.declared.view.Me.{Me}
use Rattle.mon_wire.specs.declared.phase.Timer.TheVariants as timer

module _ (me : Me) (now : ℕ) (course : Course) (a b c d e g h i j k : Option ℕ) where
  -- if this timer has that end, and the others have any
  abbrev awaiting : Option ℕ → Course
  awaiting end = timers_are (a ∷ b ∷ c ∷ d ∷ e ∷ end ∷ g ∷ h ∷ i ∷ j ∷ k ∷ []) course

  abbrev awaits : Course → Option ℕ
  awaits x = end_of timer.LeaseAck x.state.timers

  module _ (others : is_empty (members me course.state.leader.quorum) ≡ false) where
    awaits-from-now : awaits (extend me now (awaiting None)) ≡ Some (min (now + 10000) (2 ^ 62))
    unfolding extend
    awaits-from-now = rw others refl

    awaits-no-longer : (end : ℕ) → awaits (extend me now (awaiting (Some end))) ≡ Some end
    unfolding extend
    awaits-no-longer end = rw others refl
