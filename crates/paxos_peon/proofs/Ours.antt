-- What holds of an event under way at a peon also holds of what is known of the event.
use Rattle.std.proofs.Common.{ℕ, List, subst}
use Rattle.mon_msg.specs.Protocol.Changes.{Change, encoded}
use Rattle.mon_msg.specs.Protocol.Course.{Course}
use Rattle.mon_msg.specs.Protocol.Readings.{Readings}
use Rattle.mon_msg.specs.declared.paxos.Peon.{Peon}
use Rattle.mon_msg.specs.declared.plan.Arming.{Arming}
use Rattle.mon_msg.specs.declared.plan.Next.TheVariants as next
use Rattle.mon_msg.specs.declared.plan.Plan.{Plan}
use Rattle.mon_msg.specs.declared.plan.Sent.{Sent}
use Rattle.paxos_peon.specs.Rows.{IsOurs}

pub along : (w : Readings) (s : Peon) (f e : ℕ) (x : Course) → IsOurs w s f e x → (P : Readings → Peon → Type 0) → P x.readings x.state.peon → P w s
along w s f e x b P h = subst (λ (r : Peon). P w r) b.role (subst (λ (r : Readings). P r x.state.peon) b.readings h)

-- a plan of these parts, after which nothing is done
abbrev pub plan_of : List Change → List Sent → List Arming → Peon → Plan Peon
plan_of cs out timers s = record { tx = encoded cs; out = out; timers = timers; state = s; next = next.Stay }
