-- Plans to whose changes earlier ones are prepended.
use Rattle.std.proofs.Common.{◌≡◌, ℕ, List, [], ◌∷◌, ◌++◌, Result, Ok, Err, refl, sym, ap, ◌∙◌}
use Rattle.std.specs.List.{AllByRecursion}
use Rattle.mon_msg.specs.Protocol.Changes.{Change, encoded}
use Rattle.mon_msg.specs.Protocol.Course.{Course, ◌▸◌, ◌>>=◌, leader_is}
use Rattle.mon_msg.specs.Protocol.Learning.{learn}
use Rattle.mon_msg.specs.Protocol.Played.{Fits}
use Rattle.mon_msg.specs.declared.paxos.Leader.{Leader}
use Rattle.mon_msg.specs.declared.plan.Next.TheVariants as next
use Rattle.mon_msg.specs.declared.plan.Next.{Next}
use Rattle.mon_msg.specs.declared.plan.Plan.{Plan}
use Rattle.mon_msg.specs.declared.plan.RoleStop.TheVariants as stop
use Rattle.mon_msg.specs.declared.plan.RoleStop.{RoleStop}
use Rattle.mon_msg.specs.declared.view.Me.{Me}
use Rattle.mon_tx.specs.declared.op.Op.{Op}
use Rattle.mon_types.specs.declared.names.Which.{Which}
use Rattle.mon_plan.specs.Learned.{Learns}
use Rattle.mon_plan.specs.Plans.{Does, Plans, changed, sending, stands, leads, arm_all, done, act}
use Rattle.mon_plan.proofs.Planning.{changed-append, changed-state, encoded-append, fit-append}
use Rattle.paxos_leader.proofs.Noting.{remembered}

stands-changed : (n : Next) (cs : List Change) (x : Course) → stands n (changed cs x) ≡ changed cs (stands n x)
stands-changed n [] x = refl
stands-changed next.Stay (c ∷ cs) x = refl
stands-changed next.Bootstrap (c ∷ cs) x = refl
stands-changed next.Elect (c ∷ cs) x = refl
stands-changed next.Electing (c ∷ cs) x = refl
stands-changed (next.Win quorum) (c ∷ cs) x = refl
stands-changed (next.Follow leader quorum) (c ∷ cs) x = refl
stands-changed (next.FullSync from) (c ∷ cs) x = refl
stands-changed (next.RecentSync from) (c ∷ cs) x = refl
stands-changed (next.Begin value o) (c ∷ cs) x = refl

done-after : (cs ds : List Change) (p q : Plan Leader) (x : Course) → q.out ≡ p.out → q.timers ≡ p.timers → q.state ≡ p.state → q.next ≡ p.next
    → done leads ds p (changed cs x) ≡ done leads (cs ++ ds) q x
done-after cs ds p q x out timers state n =
    ap (λ z. z ▸ changed ds ▸ leads p.state ▸ arm_all p.timers ▸ sending p.out) (stands-changed p.next cs x)
    ∙ ap (λ z. z ▸ leads p.state ▸ arm_all p.timers ▸ sending p.out) (sym (changed-append cs ds (stands p.next x)))
    ∙ sym (λ i. x ▸ stands (n i) ▸ changed (cs ++ ds) ▸ leads (state i) ▸ arm_all (timers i) ▸ sending (out i))

module _ (me : Me) (now : ℕ) (At Bt : Course → Type 0) (wanted tail : Course → Result Course Which) (l : Leader) (cs : List Change)
    (role : (x : Course) → At x → x.state.leader ≡ l) (there : (x : Course) → At x → Bt (leader_is l (changed cs x)))
    (same : (x : Course) → At x → wanted x ≡ tail (changed cs x)) where
  stays : (x : Course) → At x → leader_is l (changed cs x) ≡ changed cs x
  stays x b = remembered l (changed cs x) (ap (λ s. s.leader) (changed-state cs x) ∙ role x b)

  pub prepended-fails : (e : RoleStop) → Plans me now leads (λ x. Bt (leader_is l x)) (λ x. x) (λ x. tail (leader_is l x)) (Err e) → Plans me now leads At (λ x. x) wanted (Err e)
  prepended-fails stop.OutOfMemory h = tt
  prepended-fails (stop.Spent which) h = λ x b. same x b ∙ ap tail (sym (stays x b)) ∙ h (changed cs x) (there x b)

  pub prepended-does : AllByRecursion Fits cs → (p q : Plan Leader) → Plans me now leads (λ x. Bt (leader_is l x)) (λ x. x) (λ x. tail (leader_is l x)) (Ok p)
      → q.tx ≡ encoded cs ++ p.tx → q.out ≡ p.out → q.timers ≡ p.timers → q.state ≡ p.state → q.next ≡ p.next → Does me now leads At (λ x. x) wanted q
  prepended-does fit p q h tx out timers state n = record {
    changes = cs ++ h.changes;
    fit = fit-append cs h.changes fit h.fit;
    encoded = tx ∙ ap (λ ops. encoded cs ++ ops) h.encoded ∙ sym (encoded-append cs h.changes);
    row = λ x b.
        same x b ∙ ap tail (sym (stays x b)) ∙ h.row (changed cs x) (there x b)
        ∙ (λ i. act me now (sym n i) (done-after cs h.changes p q x out timers state n i));
  }

-- if learning fails, the whole call fails in the same way
pub learning-fails : (me : Me) (now : ℕ) (At : Course → Type 0) (v : ℕ) (values : List (List Op)) (more wanted : Course → Result Course Which) (e : RoleStop)
    → Learns v values (Err e) → ((x : Course) → At x → wanted x ≡ (learn v values x >>= more)) → Plans me now leads At (λ x. x) wanted (Err e)
learning-fails me now At v values more wanted stop.OutOfMemory h same = tt
learning-fails me now At v values more wanted (stop.Spent which) h same = λ x b. same x b ∙ ap (λ r. r >>= more) (h x)
