use Rattle.std.proofs.Common.{◌≡◌, suc, true, false, ◌&&◌, [], ◌∷◌, refl, sym, ap, ◌∙◌}
use Rattle.std.specs.Prelude.{◌==◌}
use Rattle.mon_msg.specs.Protocol.Leader.{hear_accept, commit_any}
use Rattle.mon_msg.specs.Protocol.Phases.{phase_of}
use Rattle.mon_msg.specs.Protocol.Readings.{Readings, readings_of}
use Rattle.mon_msg.specs.declared.paxos.Leader.{Leader}
use Rattle.mon_msg.specs.declared.plan.Next.TheVariants as next
use Rattle.mon_wire.specs.declared.phase.Phase.TheVariants as phase
use Rattle.paxos_leader.specs.Drafts.{IsVoted}
use Rattle.paxos_leader.specs.Inputs.{may_begin_any}
use Rattle.paxos_leader.specs.Rows.{IsHeard}
use Rattle.paxos_leader.proofs.Going.{from_start}
use Rattle.paxos_leader.proofs.Hearing.{accept-other, heard-waits, heard-all, heard-votes}
use Rattle.paxos_leader.proofs.Noting.{nothing_but, notes}
use Rattle.paxos_leader.proofs.values.hear_accept.Goals as goal

pub commit_any-requires : goal.commit_any-requires
commit_any-requires c = ap (λ (l : Leader). may_begin_any l.value) c.with_vote-state.ensures ∙ c.requires

pub returns-then-not-is_asked-clause-plans : goal.returns-then-not-is_asked-clause-plans
returns-then-not-is_asked-clause-plans c =
    λ e.
    let me = c.args.here.now.me.now in
    let now = c.args.here.now.time in
    let l : Leader = c.args.state in
    let w : Readings = readings_of c.args.here.now.kv.now in
    let other : (c.args.pn == l.pn && c.args.version == suc w.last) ≡ false = sym c.is_asked.ensures ∙ c.if-not-is_asked.true in
    nothing_but me now (IsHeard (phase.Previous ∷ phase.Updating ∷ []) c.args.from e w l) (hear_accept me now c.args.from e c.args.pn c.args.version) l (λ x b _. b.stage)
    next.Stay (λ x. refl) (λ x b. b.role)
    (λ x b. accept-other me now c.args.from e x c.args.pn c.args.version b.member ((λ i. c.args.pn == (b.role i).pn && c.args.version == suc (b.readings i).last) ∙ other))
    c.stay.result c.stay.ensures

pub returns-then-not-all_accepted-clause-plans : goal.returns-then-not-all_accepted-clause-plans
returns-then-not-all_accepted-clause-plans c =
    λ e.
    let me = c.args.here.now.me.now in
    let now = c.args.here.now.time in
    let l : Leader = c.args.state in
    let w : Readings = readings_of c.args.here.now.kv.now in
    let new : Leader = c.with_vote-state.result in
    let asked : (c.args.pn == l.pn && c.args.version == suc w.last) ≡ true = sym c.is_asked.ensures ∙ c.if-not-is_asked.false in
    notes me now (IsHeard (phase.Previous ∷ phase.Updating ∷ []) c.args.from e w l) (hear_accept me now c.args.from e c.args.pn c.args.version) new
    (λ x b _. ap (λ (k : Leader). phase_of k.stage) c.with_vote-state.ensures ∙ b.stage) []
    (λ x b. heard-waits me now c.args.from e c.args.pn c.args.version w l new x b c.with_vote-state.ensures asked (sym c.all_accepted.ensures ∙ c.if-not-all_accepted.true))
    c.stay-then-not-all_accepted.result c.stay-then-not-all_accepted.ensures

pub returns-clause-plans : goal.returns-clause-plans
returns-clause-plans c =
    λ e.
    let me = c.args.here.now.me.now in
    let now = c.args.here.now.time in
    let l : Leader = c.args.state in
    let w : Readings = readings_of c.args.here.now.kv.now in
    let new : Leader = c.with_vote-state.result in
    let asked : (c.args.pn == l.pn && c.args.version == suc w.last) ≡ true = sym c.is_asked.ensures ∙ c.if-not-is_asked.false in
    from_start me now (IsVoted w) (record { tx = []; out = []; state = new }) (commit_any me now new.value) c.commit_any.result refl c.commit_any.ensures.goes
    (IsHeard (phase.Previous ∷ phase.Updating ∷ []) c.args.from e w l) (λ x. x) (hear_accept me now c.args.from e c.args.pn c.args.version)
    (λ x b. heard-votes me now c.args.from e c.args.pn c.args.version w l new x b c.with_vote-state.ensures asked)
    (λ x b. heard-all me now c.args.from e c.args.pn c.args.version w l new x b c.with_vote-state.ensures asked (sym c.all_accepted.ensures ∙ c.if-not-all_accepted.false))
