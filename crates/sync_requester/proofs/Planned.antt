-- Plans as a whole, and what holds of the readings of an event under way.
use Rattle.std.proofs.Common.{◌≡◌, ℕ, ◌+◌, ◌^◌, List, [], ◌∷◌, Result, min, ap, subst, ◌∙◌}
use Rattle.mon_msg.specs.Protocol.Course.{Course, requester_is}
use Rattle.mon_msg.specs.Protocol.Readings.{Readings}
use Rattle.mon_msg.specs.Protocol.Sending.{message_to}
use Rattle.mon_msg.specs.Protocol.Timers.{length_of}
use Rattle.mon_msg.specs.declared.plan.Arming.TheVariants as arming
use Rattle.mon_msg.specs.declared.plan.Next.TheVariants as next
use Rattle.mon_msg.specs.declared.plan.Next.{Next}
use Rattle.mon_msg.specs.declared.plan.Plan.{Plan}
use Rattle.mon_msg.specs.declared.synchronization.Requester.{Requester}
use Rattle.mon_msg.specs.declared.view.Me.{Me}
use Rattle.mon_plan.proofs.Kept.{kept-requester}
use Rattle.mon_plan.proofs.Planning.{only_acts}
use Rattle.mon_plan.specs.Plans.{act, stands, Does}
use Rattle.mon_tx.specs.declared.op.Op.{Op}
use Rattle.mon_types.specs.declared.names.Which.{Which}
use Rattle.mon_wire.specs.declared.body.Body.TheVariants as body
use Rattle.mon_wire.specs.declared.body.Body.{Body}
use Rattle.mon_wire.specs.declared.parts.Cookie.{Cookie}
use Rattle.mon_wire.specs.declared.phase.Timer.TheVariants as timer

-- a plan of changes after which an act is done
abbrev pub then_acts : List Op → Requester → Next → Plan Requester
then_acts tx s n = record { tx = tx; out = []; timers = []; state = s; next = n }

-- a plan that only names an act, if what is remembered is copied
pub remains : (me : Me) (now : ℕ) (Before : Course → Type 0) (wanted : Course → Result Course Which) (s : Requester) → ((x : Course) → Before x → x.state.requester ≡ s)
    → (n : Next) → ((x : Course) → stands n x ≡ x) → ((x : Course) → Before x → wanted x ≡ act me now n x)
    → (p : Plan Requester) (kept : Requester) → kept ≡ s → p ≡ then_acts [] kept n → Does me now requester_is Before (λ x. x) wanted p
remains me now Before wanted s role n stays row p kept same e =
    only_acts me now requester_is Before (λ x. x) wanted [] tt s (λ x b. kept-requester s x (role x b)) n stays row p (e ∙ ap (λ (q : Requester). then_acts [] q n) same)

pub along : (w : Readings) (s : Requester) (x : Course) → x.readings ≡ w → x.state.requester ≡ s → (P : Readings → Requester → Type 0) → P x.readings x.state.requester → P w s
along w s x r q P h = subst (λ (s : Requester). P w s) q (subst (λ (w : Readings). P w x.state.requester) r h)

-- the plan that asks a provider, and waits
abbrev pub asks : Me → (now : ℕ) → List Op → Body → Requester → (epoch : ℕ) → Plan Requester
asks me now tx b s epoch = record {
  tx = tx;
  out = message_to me epoch b s.provider ∷ [];
  timers = arming.Arm timer.Sync (min (now + length_of timer.Sync) (2 ^ 62)) ∷ [];
  state = s;
  next = next.Stay;
}

-- the next chunk
abbrev pub asks_chunk : Me → (now : ℕ) → List Op → Cookie → Requester → (epoch : ℕ) → Plan Requester
asks_chunk me now tx c s epoch = asks me now tx (body.GetChunk c s.place) s epoch
