use Rattle.std.proofs.Common.{◌≡◌, ℕ, suc, ◌<◌, ◌&&◌, [], ◌∷◌, refl, sym, ap, subst, ◌∙◌, arith}
use Rattle.std.specs.Prelude.{nat_lt}
use Rattle.mon_msg.specs.Protocol.Collecting.{collect}
use Rattle.mon_msg.specs.Protocol.Leader.{hear_last, hear_answer}
use Rattle.mon_msg.specs.Protocol.Readings.{Readings, readings_of, epoch_of}
use Rattle.mon_msg.specs.Protocol.State.{start_leader}
use Rattle.mon_msg.specs.declared.paxos.Leader.{Leader}
use Rattle.mon_msg.specs.declared.plan.Next.TheVariants as next
use Rattle.mon_msg.specs.declared.plan.Plan.{Plan}
use Rattle.mon_tx.specs.Map.{Store}
use Rattle.mon_wire.specs.declared.phase.Phase.TheVariants as phase
use Rattle.mon_plan.specs.Plans.{leads}
use Rattle.mon_plan.proofs.Planning.{instead}
use Rattle.paxos_leader.specs.Drafts.{ActsOn, GoesOn, IsAsking}
use Rattle.paxos_leader.specs.Rows.{IsHeard}
use Rattle.paxos_leader.specs.declared.seen.Act.{Act}
use Rattle.paxos_leader.proofs.Answering.{asks-here, heard-phase}
use Rattle.paxos_leader.proofs.Going.{from_start}
use Rattle.paxos_leader.proofs.Hearing.{last-above, last-below, last-prepended, last-answer}
use Rattle.paxos_leader.proofs.Noting.{nothing_but, stay_leaves, bootstrap_leaves, stays_leaves}
use Rattle.paxos_leader.proofs.Settling.{collect-fresh}
use Rattle.paxos_leader.proofs.answers.hear_last.Goals as goal

pub returns-then-get-clause-plans : goal.returns-then-get-clause-plans
returns-then-get-clause-plans c =
    λ e.
    let me = c.args.here.now.me.now in
    let now = c.args.here.now.time in
    let l : Leader = c.args.state in
    let a = c.args.answer.now in
    let w : Readings = readings_of c.args.here.now.kv.now in
    let At = IsHeard (phase.Collecting ∷ []) a.from e w l in
    let Asks = λ (e : ℕ) (m : Store).
    GoesOn me now (IsAsking e (readings_of m)) (record { tx = []; out = []; state = start_leader }) (collect me now l.quorum a.pn) c.ask_again.result in
    from_start me now (IsAsking (epoch_of w) w) (record { tx = []; out = []; state = start_leader }) (collect me now l.quorum a.pn) c.ask_again.result refl
    (subst (λ (m : Store). Asks (epoch_of (readings_of m)) m) c.of-stored.ensures (subst (λ (e : ℕ). Asks e c.of-stored.result) c.epoch.ensures
    (subst (λ (act : Act). ActsOn act (IsAsking act.epoch (readings_of c.of-stored.result)) (record { tx = []; out = []; state = start_leader }) (λ me now. collect me now l.quorum a.pn) c.ask_again.result)
    c.of-act.ensures c.ask_again.ensures.goes)))
    At (λ x. x) (hear_last me now a.from e a.pn a.first a.last a.whole a.start a.values.now a.pending.now)
    (λ x b. asks-here (epoch_of w) w x b.readings refl (heard-phase a.from e w l x b))
    (λ x b.
    last-above me now a.from e x a.pn a.first a.last a.whole a.start a.values.now a.pending.now b.member
    (subst (λ (k : Leader). k.pn < a.pn) (sym b.role) (omega (arith, c.if-get.true, c.get.ensures.value, c.get-2.ensures.value)))
    ∙ ap (λ (k : Leader). collect me now k.quorum a.pn x) b.role
    ∙ sym (collect-fresh me now l.quorum a.pn x start_leader))

pub returns-then-get-clause-leaves : goal.returns-then-get-clause-leaves
returns-then-get-clause-leaves c = λ at. stays_leaves at c.ask_again.result c.ask_again.ensures.stays

pub returns-then-get-2-clause-plans : goal.returns-then-get-2-clause-plans
returns-then-get-2-clause-plans c =
    λ e.
    let me = c.args.here.now.me.now in
    let now = c.args.here.now.time in
    let l : Leader = c.args.state in
    let a = c.args.answer.now in
    let w : Readings = readings_of c.args.here.now.kv.now in
    let At = IsHeard (phase.Collecting ∷ []) a.from e w l in
    nothing_but me now At (hear_last me now a.from e a.pn a.first a.last a.whole a.start a.values.now a.pending.now) l (λ x b _. b.stage)
    next.Stay (λ x. refl) (λ x b. b.role)
    (λ x b.
    last-below me now a.from e x a.pn a.first a.last a.whole a.start a.values.now a.pending.now b.member
    (subst (λ (k : Leader). a.pn < k.pn) (sym b.role) (omega arith)))
    c.stay.result c.stay.ensures

pub returns-then-needs_copy-clause-plans : goal.returns-then-needs_copy-clause-plans
returns-then-needs_copy-clause-plans c =
    λ e.
    let me = c.args.here.now.me.now in
    let now = c.args.here.now.time in
    let l : Leader = c.args.state in
    let a = c.args.answer.now in
    let w : Readings = readings_of c.args.here.now.kv.now in
    let At = IsHeard (phase.Collecting ∷ []) a.from e w l in
    nothing_but me now At (hear_last me now a.from e a.pn a.first a.last a.whole a.start a.values.now a.pending.now) l (λ x b _. b.stage)
    next.Bootstrap (λ x. refl) (λ x b. b.role)
    (λ x b.
    last-prepended me now a.from e x a.pn a.first a.last a.whole a.start a.values.now a.pending.now b.member
    (subst (λ (k : Leader). a.pn ≡ k.pn) (sym b.role) (omega arith))
    (ap (λ (n : ℕ). nat_lt (suc n) a.first && nat_lt n a.last) (ap (λ (r : Readings). r.last) b.readings ∙ sym c.own_last.ensures) ∙ sym c.needs_copy.ensures ∙ c.if-needs_copy.true))
    c.planned.result c.planned.ensures

pub returns-then-needs_copy-clause-leaves : goal.returns-then-needs_copy-clause-leaves
returns-then-needs_copy-clause-leaves c =
    λ at. bootstrap_leaves at c.planned.result (ap (λ (p : Plan Leader). p.next) c.planned.ensures) (ap (λ (p : Plan Leader). p.tx) c.planned.ensures)

pub returns-then-get-2-clause-leaves : goal.returns-then-get-2-clause-leaves
returns-then-get-2-clause-leaves c = λ at. stay_leaves at c.stay.result (ap (λ (p : Plan Leader). p.next) c.stay.ensures)

pub returns-clause-plans : goal.returns-clause-plans
returns-clause-plans c =
    λ e.
    let me = c.args.here.now.me.now in
    let now = c.args.here.now.time in
    let l : Leader = c.args.state in
    let a = c.args.answer.now in
    let w : Readings = readings_of c.args.here.now.kv.now in
    let At = IsHeard (phase.Collecting ∷ []) a.from e w l in
    instead me now leads At (λ x. x) (hear_answer me now a.from a.last a.whole a.start a.values.now a.pending.now)
    (hear_last me now a.from e a.pn a.first a.last a.whole a.start a.values.now a.pending.now) c.hear_answer.result
    (λ x b.
    last-answer me now a.from e x a.pn a.first a.last a.whole a.start a.values.now a.pending.now b.member
    (subst (λ (k : Leader). a.pn ≡ k.pn) (sym b.role) (omega arith))
    (ap (λ (n : ℕ). nat_lt (suc n) a.first && nat_lt n a.last) (ap (λ (r : Readings). r.last) b.readings ∙ sym c.own_last.ensures) ∙ sym c.needs_copy.ensures ∙ c.if-needs_copy.false))
    (c.hear_answer.ensures.plans e)

pub returns-clause-leaves : goal.returns-clause-leaves
returns-clause-leaves c = λ at. stays_leaves at c.hear_answer.result c.hear_answer.ensures.stays
