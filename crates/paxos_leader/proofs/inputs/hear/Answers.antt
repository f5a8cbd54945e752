use Rattle.std.proofs.Common.{◌≡◌, ℕ, ◌≤◌, List, [], ◌∷◌, length, ◌&&◌, true, false, refl, sym, ap, subst, ◌∙◌}
use Rattle.std.specs.List.{AllByRecursion}
use Rattle.std.specs.Prelude.{◌==◌}
use Rattle.mon_msg.specs.Protocol.Hearing.{hear}
use Rattle.mon_msg.specs.Protocol.Leader.{hear_last, hear_accept, hear_lease_ack, is_one_of}
use Rattle.mon_msg.specs.Protocol.Length.{fits}
use Rattle.mon_msg.specs.Protocol.Phases.{phase_of}
use Rattle.mon_msg.specs.Protocol.Readings.{Readings, readings_of, epoch_of}
use Rattle.mon_msg.specs.declared.paxos.Leader.{Leader}
use Rattle.mon_msg.specs.declared.plan.Next.TheVariants as next
use Rattle.mon_msg.specs.declared.plan.Plan.{Plan}
use Rattle.mon_tx.specs.Text.{text, most}
use Rattle.mon_tx.specs.declared.op.Op.{Op}
use Rattle.mon_types.specs.Ranks.{has}
use Rattle.mon_wire.specs.declared.body.Body.TheVariants as body
use Rattle.mon_wire.specs.declared.body.Body.{Body}
use Rattle.mon_wire.specs.declared.phase.Phase.TheVariants as phase
use Rattle.mon_plan.specs.Plans.{PlansRow, leads}
use Rattle.mon_plan.specs.Seen.{IsMet}
use Rattle.paxos_leader.specs.Inputs.{phases_for}
use Rattle.paxos_leader.specs.Rows.{IsHeard}
use Rattle.paxos_leader.proofs.Hearing.{others, member-row, hear-dropped, answered-short, answered-few, answered-begins}
use Rattle.paxos_leader.proofs.Noting.{nothing_but, stay_leaves, stays_leaves}
use Rattle.paxos_leader.proofs.Pending.{all-begun}
use Rattle.paxos_leader.proofs.inputs.hear.Goals as goal

pub hear_last-requires : goal.hear_last-requires
hear_last-requires c =
    let n = c.args.here.now.me.now.member.monitors in
    let i = c.in-Last in
    let h : fits n (body.Last i.pn i.first i.last i.whole i.start i.values i.pending) ≡ true = ap (fits n) (sym c.in-Last.is) ∙ c.requires.fits in
    record {
      short = subst (AllByRecursion (λ (ops : List Op). length (text ops) ≤ most)) (sym c.as_slice.ensures) (answered-short n i.pn i.first i.last i.whole i.start i.values i.pending h);
      few = subst (λ (vs : List (List Op)). length vs ≤ 65535) (sym c.as_slice.ensures) (answered-few n i.pn i.first i.last i.whole i.start i.values i.pending h);
      found = (all-begun c.args.state c.requires.held).1;
      told = answered-begins n i.pn i.first i.last i.whole i.start i.values i.pending h;
    }

pub hear_accept-requires : goal.hear_accept-requires
hear_accept-requires c = (all-begun c.args.state c.requires.held).0

pub returns-then-not-is_ours-clause-plans : goal.returns-then-not-is_ours-clause-plans
returns-then-not-is_ours-clause-plans c =
    λ shared.
    let me = c.args.here.now.me.now in
    let now = c.args.here.now.time in
    let l : Leader = c.args.state in
    let w : Readings = readings_of c.args.here.now.kv.now in
    let v = c.args.view.now in
    let m = c.args.message.now in
    let epoch : epoch_of w ≡ c.own_epoch-epoch.result = sym c.own_epoch-epoch.ensures in
    let ours : (is_one_of (phases_for m.body) v.phase && m.epoch == epoch_of w && has l.quorum m.from) ≡ false =
    ap (λ (e : ℕ). is_one_of (phases_for m.body) v.phase && m.epoch == e && has l.quorum m.from) epoch ∙ sym c.is_ours.ensures ∙ c.if-not-is_ours.true in
    nothing_but me now (IsMet me now w v (λ s. s.leader) l) (hear me shared now m.from m.epoch m.body) l
    (λ x b lead. ap (λ (k : Leader). phase_of k.stage) (sym b.role) ∙ b.seen.stage lead)
    next.Stay (λ x. refl) (λ x b. b.role)
    (λ x b. hear-dropped me shared now m.from m.epoch m.body c.requires.input x (others me now w v l m.from m.epoch m.body ours x b))
    c.stay.result c.stay.ensures

pub returns-then-not-is_ours-clause-leaves : goal.returns-then-not-is_ours-clause-leaves
returns-then-not-is_ours-clause-leaves c = stay_leaves c.args.view.now.phase c.stay.result (ap (λ (p : Plan Leader). p.next) c.stay.ensures)

pub returns-in-Last-clause-plans : goal.returns-in-Last-clause-plans
returns-in-Last-clause-plans c =
    λ shared.
    let me = c.args.here.now.me.now in
    let now = c.args.here.now.time in
    let l : Leader = c.args.state in
    let w : Readings = readings_of c.args.here.now.kv.now in
    let v = c.args.view.now in
    let m = c.args.message.now in
    let i = c.in-Last in
    let b : Body = body.Last i.pn i.first i.last i.whole i.start i.values i.pending in
    let epoch : epoch_of w ≡ c.own_epoch-epoch.result = sym c.own_epoch-epoch.ensures in
    let ours : (is_one_of (phases_for m.body) v.phase && m.epoch == epoch_of w && has l.quorum m.from) ≡ true =
    ap (λ (e : ℕ). is_one_of (phases_for m.body) v.phase && m.epoch == e && has l.quorum m.from) epoch ∙ sym c.is_ours.ensures ∙ c.if-not-is_ours.false in
    subst (λ (b : Body). PlansRow me now leads (IsMet me now w v (λ s. s.leader) l) (hear me shared now m.from m.epoch b) c.hear_last.result) (sym c.in-Last.is)
    (member-row me now w v l m.from m.epoch b (ap (λ (b : Body). is_one_of (phases_for b) v.phase && m.epoch == epoch_of w && has l.quorum m.from) (sym c.in-Last.is) ∙ ours)
    (hear_last me now m.from m.epoch i.pn i.first i.last i.whole i.start i.values i.pending) c.hear_last.result
    (subst (λ (vs : List (List Op)). PlansRow me now leads (IsHeard (phase.Collecting ∷ []) m.from m.epoch w l) (hear_last me now m.from m.epoch i.pn i.first i.last i.whole i.start vs i.pending) c.hear_last.result) c.as_slice.ensures
    (c.hear_last.ensures.plans m.epoch)))

pub returns-in-Last-clause-leaves : goal.returns-in-Last-clause-leaves
returns-in-Last-clause-leaves c = c.hear_last.ensures.leaves c.args.view.now.phase

pub returns-in-Accept-clause-plans : goal.returns-in-Accept-clause-plans
returns-in-Accept-clause-plans c =
    λ shared.
    let me = c.args.here.now.me.now in
    let now = c.args.here.now.time in
    let l : Leader = c.args.state in
    let w : Readings = readings_of c.args.here.now.kv.now in
    let v = c.args.view.now in
    let m = c.args.message.now in
    let b : Body = body.Accept c.in-Accept.pn c.in-Accept.version in
    let epoch : epoch_of w ≡ c.own_epoch-epoch.result = sym c.own_epoch-epoch.ensures in
    let ours : (is_one_of (phases_for m.body) v.phase && m.epoch == epoch_of w && has l.quorum m.from) ≡ true =
    ap (λ (e : ℕ). is_one_of (phases_for m.body) v.phase && m.epoch == e && has l.quorum m.from) epoch ∙ sym c.is_ours.ensures ∙ c.if-not-is_ours.false in
    subst (λ (b : Body). PlansRow me now leads (IsMet me now w v (λ s. s.leader) l) (hear me shared now m.from m.epoch b) c.hear_accept.result) (sym c.in-Accept.is)
    (member-row me now w v l m.from m.epoch b (ap (λ (b : Body). is_one_of (phases_for b) v.phase && m.epoch == epoch_of w && has l.quorum m.from) (sym c.in-Accept.is) ∙ ours)
    (hear_accept me now m.from m.epoch c.in-Accept.pn c.in-Accept.version) c.hear_accept.result (c.hear_accept.ensures.plans m.epoch))

pub returns-in-Accept-clause-leaves : goal.returns-in-Accept-clause-leaves
returns-in-Accept-clause-leaves c = stays_leaves c.args.view.now.phase c.hear_accept.result c.hear_accept.ensures.stays

pub returns-in-LeaseAck-clause-plans : goal.returns-in-LeaseAck-clause-plans
returns-in-LeaseAck-clause-plans c =
    λ shared.
    let me = c.args.here.now.me.now in
    let now = c.args.here.now.time in
    let l : Leader = c.args.state in
    let w : Readings = readings_of c.args.here.now.kv.now in
    let v = c.args.view.now in
    let m = c.args.message.now in
    let b : Body = body.LeaseAck c.in-LeaseAck.last in
    let epoch : epoch_of w ≡ c.own_epoch-epoch.result = sym c.own_epoch-epoch.ensures in
    let ours : (is_one_of (phases_for m.body) v.phase && m.epoch == epoch_of w && has l.quorum m.from) ≡ true =
    ap (λ (e : ℕ). is_one_of (phases_for m.body) v.phase && m.epoch == e && has l.quorum m.from) epoch ∙ sym c.is_ours.ensures ∙ c.if-not-is_ours.false in
    subst (λ (b : Body). PlansRow me now leads (IsMet me now w v (λ s. s.leader) l) (hear me shared now m.from m.epoch b) c.hear_lease_ack.result) (sym c.in-LeaseAck.is)
    (member-row me now w v l m.from m.epoch b (ap (λ (b : Body). is_one_of (phases_for b) v.phase && m.epoch == epoch_of w && has l.quorum m.from) (sym c.in-LeaseAck.is) ∙ ours)
    (hear_lease_ack me m.from m.epoch c.in-LeaseAck.last) c.hear_lease_ack.result (c.hear_lease_ack.ensures.plans now m.epoch))

pub returns-in-LeaseAck-clause-leaves : goal.returns-in-LeaseAck-clause-leaves
returns-in-LeaseAck-clause-leaves c = stays_leaves c.args.view.now.phase c.hear_lease_ack.result c.hear_lease_ack.ensures.stays
