-- Rows of a leader that change what it remembers, and rows that change nothing.
use Rattle.std.proofs.Common.{◌≡◌, inl, ℕ, true, List, [], Result, Ok, Err, IfOk, refl, sym, ap, subst, ◌∙◌}
use Rattle.mon_msg.specs.Protocol.Course.{Course, ◌▸◌, leader_is}
use Rattle.mon_msg.specs.Protocol.Phases.{phase_of, is_leading}
use Rattle.mon_msg.specs.declared.paxos.Leader.{Leader}
use Rattle.mon_msg.specs.declared.plan.Arming.{Arming}
use Rattle.mon_msg.specs.declared.plan.Next.TheVariants as next
use Rattle.mon_msg.specs.declared.plan.Next.{Next}
use Rattle.mon_msg.specs.declared.plan.Plan.{Plan}
use Rattle.mon_msg.specs.declared.plan.RoleStop.{RoleStop}
use Rattle.mon_msg.specs.declared.view.Me.{Me}
use Rattle.mon_types.specs.declared.names.Which.{Which}
use Rattle.mon_wire.specs.declared.phase.Phase.{Phase}
use Rattle.mon_plan.specs.Leaves.{Leaves}
use Rattle.mon_plan.specs.Plans.{Does, stands, leads, arm_all, act}
use Rattle.mon_plan.proofs.Kept.{kept-leader}
use Rattle.mon_plan.proofs.Planning.{does, only_acts}
use Rattle.paxos_leader.proofs.Going.{finish, done-is}

led : (l : Leader) (x : Course) → (is_leading x.state.phase ≡ true → phase_of l.stage ≡ x.state.phase) → leads l x ≡ leader_is l x
led l x stage = kept-leader l (leader_is l x) stage refl

module _ (me : Me) (now : ℕ) (Before : Course → Type 0) (wanted : Course → Result Course Which) (l : Leader)
    (stage : (x : Course) → Before x → is_leading x.state.phase ≡ true → phase_of l.stage ≡ x.state.phase) where
  -- a plan that leaves the leader's state as it is, and may name an act
  pub nothing_but : (n : Next) → ((x : Course) → stands n x ≡ x) → ((x : Course) → Before x → x.state.leader ≡ l) → ((x : Course) → Before x → wanted x ≡ act me now n x)
      → (p : Plan Leader) → p ≡ record { tx = []; out = []; timers = []; state = l; next = n } → Does me now leads Before (λ x. x) wanted p
  nothing_but n same role law p e =
      only_acts me now leads Before (λ x. x) wanted [] tt l (λ x b. kept-leader l x (stage x b) (role x b)) n same law p e

  -- a plan that replaces the leader's state, and arms and disarms timers
  pub notes : (armings : List Arming) → ((x : Course) → Before x → wanted x ≡ Ok (x ▸ leader_is l ▸ arm_all armings))
      → (p : Plan Leader) → p ≡ record { tx = []; out = []; timers = armings; state = l; next = next.Stay } → Does me now leads Before (λ x. x) wanted p
  notes armings law p e =
      does me now leads Before (λ x. x) wanted [] tt [] armings l next.Stay
      (λ x b. law x b ∙ ap (λ y. Ok (arm_all armings y)) (sym (led l x (stage x b))))
      p (ap (λ (p : Plan Leader). p.tx) e) (ap (λ (p : Plan Leader). p.out) e) (ap (λ (p : Plan Leader). p.timers) e) (ap (λ (p : Plan Leader). p.state) e) (ap (λ (p : Plan Leader). p.next) e)

-- a plan that only replaces the leader's state
pub notes-is : (l : Leader) (y : Course) → phase_of l.stage ≡ y.state.phase → finish [] [] [] l y ≡ leader_is l y
notes-is l y stage =
    sym (done-is [] (record { tx = []; out = []; timers = []; state = l; next = next.Stay }) y refl) ∙ led l y (λ _. stage)

pub remembered : (l : Leader) (y : Course) → y.state.leader ≡ l → leader_is l y ≡ y
remembered l y h = λ i. record y { state = record y.state { leader = sym h i } }

-- ---- what plans leave

pub stay_leaves : (at : Phase) (p : Plan Leader) → p.next ≡ next.Stay → Leaves at p.next p.tx
stay_leaves at p h = subst (λ n. Leaves at n p.tx) (sym h) tt

pub stays_leaves : (at : Phase) (r : Result (Plan Leader) RoleStop) → IfOk r (λ p. p.next ≡ next.Stay) → IfOk r (λ p. Leaves at p.next p.tx)
stays_leaves at (Ok p) h = stay_leaves at p h
stays_leaves at (Err e) h = tt

-- a plan that names a bootstrap has written nothing
pub bootstrap_leaves : (at : Phase) (p : Plan Leader) → p.next ≡ next.Bootstrap → p.tx ≡ [] → Leaves at p.next p.tx
bootstrap_leaves at p h none = subst (λ n. Leaves at n p.tx) (sym h) (inl none)
