use Rattle.std.proofs.Common.{◌≡◌, [], Ok, refl, sym, ap, subst, ◌∙◌}
use Rattle.mon_msg.specs.Protocol.Leader.{renew}
use Rattle.mon_msg.specs.Protocol.Leading.{be_active}
use Rattle.mon_msg.specs.Protocol.Phases.{phase_of, is_leading, same_phase}
use Rattle.mon_msg.specs.Protocol.Readings.{Readings, readings_of, epoch_of}
use Rattle.mon_msg.specs.declared.paxos.Leader.{Leader}
use Rattle.mon_msg.specs.declared.plan.Next.TheVariants as next
use Rattle.mon_wire.specs.declared.phase.Phase.TheVariants as phase
use Rattle.mon_wire.specs.declared.phase.Phase.{Phase}
use Rattle.mon_plan.specs.Seen.{IsMet}
use Rattle.paxos_leader.specs.Drafts.{ActsOn, GoesOn, IsHere}
use Rattle.paxos_leader.specs.declared.draft.Draft.{Draft}
use Rattle.paxos_leader.specs.declared.seen.Act.{Act}
use Rattle.paxos_leader.proofs.Beginning.{renew-active, renew-other}
use Rattle.paxos_leader.proofs.Going.{from_start}
use Rattle.paxos_leader.proofs.Hearing.{acts, not_active}
use Rattle.paxos_leader.proofs.Noting.{nothing_but, remembered}
use Rattle.paxos_leader.proofs.inputs.renew.Goals as goal

pub returns-then-not-is_active-clause-plans : goal.returns-then-not-is_active-clause-plans
returns-then-not-is_active-clause-plans c =
    let me = c.args.here.now.me.now in
    let now = c.args.here.now.time in
    let l : Leader = c.args.state in
    let w : Readings = readings_of c.args.here.now.kv.now in
    nothing_but me now (IsMet me now w c.args.view.now (λ s. s.leader) l) (renew me now) l
    (λ x b lead. ap (λ (k : Leader). phase_of k.stage) (sym b.role) ∙ b.seen.stage lead)
    next.Stay (λ x. refl) (λ x b. b.role)
    (λ x b. renew-other me now x (ap (λ (p : Phase). same_phase p phase.Active) (sym b.seen.phase) ∙ not_active c.args.view.now.phase (sym c.is_active.ensures ∙ c.if-not-is_active.true)))
    c.stay.result c.stay.ensures

pub returns-clause-plans : goal.returns-clause-plans
returns-clause-plans c =
    let me = c.args.here.now.me.now in
    let now = c.args.here.now.time in
    let l : Leader = c.args.state in
    let w : Readings = readings_of c.args.here.now.kv.now in
    let e = c.own_epoch-epoch.result in
    let v = c.own_last-last.result in
    let drafted : c.new-draft.result ≡ record { tx = []; out = []; state = l } = c.new-draft.ensures in
    from_start me now (IsHere e v) (record { tx = []; out = []; state = l }) (λ y. Ok (be_active me now y)) (Ok c.in_ok-be_active.field-0) refl
    (subst (λ (d : Draft). GoesOn me now (IsHere e v) d (λ y. Ok (be_active me now y)) (Ok c.in_ok-be_active.field-0)) drafted
    (subst (λ (a : Act). ActsOn a (IsHere a.epoch v) c.new-draft.result (λ me now y. Ok (be_active me now y)) (Ok c.in_ok-be_active.field-0)) c.of-act.ensures c.in_ok-be_active.ensures.goes))
    (IsMet me now w c.args.view.now (λ s. s.leader) l) (λ x. x) (renew me now)
    (λ x b.
    let phases : x.state.phase ≡ phase.Active = sym b.seen.phase ∙ acts c.args.view.now.phase (sym c.is_active.ensures ∙ c.if-not-is_active.false) in
    record {
      epoch = ap epoch_of b.readings ∙ sym c.own_epoch-epoch.ensures;
      last = ap (λ (r : Readings). r.last) b.readings ∙ sym c.own_last-last.ensures;
      leads = ap is_leading phases;
    })
    (λ x b.
    let phases : x.state.phase ≡ phase.Active = sym b.seen.phase ∙ acts c.args.view.now.phase (sym c.is_active.ensures ∙ c.if-not-is_active.false) in
    renew-active me now x phases (b.seen.stage (ap is_leading phases)) ∙ ap (λ z. Ok (be_active me now z)) (sym (remembered l x b.role)))
