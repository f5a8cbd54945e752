-- The state of the core that takes an input.
use Rattle.std.proofs.Common.{◌≡◌, ℕ, Option, Some, None, sym, ap, subst}
use Rattle.mon_msg.specs.Protocol.State.{State, booting}
use Rattle.mon_msg.specs.declared.input.Input.{Input}
use Rattle.mon_msg.specs.declared.input.Input.TheVariants as input
use Rattle.mon_msg.specs.declared.view.Me.{Me}
use Rattle.mon_wire.specs.declared.phase.Phase.TheVariants as phase
use Rattle.quorum_model.specs.Meets.{state_at}
use Rattle.mon_world.specs.Monitor.{remembered}

-- a monitor that is down takes no input but a start
pub remembered_so : (me : Me) (s : Option State) (came : Input) (t : State) → state_at me.member.rank s came ≡ Some t → state_at me.member.rank (Some (remembered me s)) came ≡ Some t
remembered_so me s input.Start t e = e
remembered_so me (Some x) (input.Deliver m) t e = e
remembered_so me (Some x) (input.Timer k) t e = e
remembered_so me (Some x) (input.Client session r) t e = e
remembered_so me None (input.Deliver m) t e = absurd cc
remembered_so me None (input.Timer k) t e = absurd cc
remembered_so me None (input.Client session r) t e = absurd cc

pub same_state : (x y : State) → ◌≡◌ {A = Option State} (Some x) (Some y) → x ≡ y
same_state x y e = cc

-- the core of a monitor that starts is booting
pub start_boots : (rank : ℕ) (x y : State) (came : Input) → came ≡ input.Start → state_at rank (Some x) came ≡ Some y → y.phase ≡ phase.Booting
start_boots rank x y came is e =
    let so = subst (λ (came : Input). state_at rank (Some x) came ≡ Some y) is e in
    sym (ap (λ (s : State). s.phase) (same_state (booting rank) y so))
