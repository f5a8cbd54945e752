use Rattle.std.proofs.Common.{[], Result, Ok, Err, refl, sym, ap, subst, ◌∙◌}
use Rattle.std.proofs.lemmas.Result.{err_from_is_err_and}
use Rattle.mon_msg.specs.Protocol.Collecting.{settle}
use Rattle.mon_msg.specs.Protocol.Leader.{hear_whole}
use Rattle.mon_msg.specs.Protocol.Phases.{phase_of}
use Rattle.mon_msg.specs.Protocol.Readings.{Readings, readings_of}
use Rattle.mon_msg.specs.declared.paxos.Leader.{Leader}
use Rattle.mon_msg.specs.declared.plan.Plan.{Plan}
use Rattle.mon_msg.specs.declared.plan.RoleStop.{RoleStop}
use Rattle.paxos_leader.specs.Drafts.{ActsOn, GoesOn, IsAsking, IsCollecting}
use Rattle.paxos_leader.specs.Inputs.{may_begin_found}
use Rattle.paxos_leader.specs.declared.draft.Draft.{Draft}
use Rattle.paxos_leader.proofs.Answering.{whole-fails, whole-waits, whole-settles}
use Rattle.paxos_leader.proofs.Going.{goes, hands_on}
use Rattle.paxos_leader.proofs.Noting.{notes-is}
use Rattle.paxos_leader.proofs.answers.hear_whole.Goals as goal

pub returns-in_err-state-clause-goes : goal.returns-in_err-state-clause-goes
returns-in_err-state-clause-goes c =
    let act = c.args.act.now in
    let a = c.args.answer.now in
    let At = IsAsking act.epoch (readings_of c.args.stored.now) in
    let p = err_from_is_err_and c.from_residual.result c.from_residual.ensures.1 in
    subst
    (λ (r : Result (Plan Leader) RoleStop). ActsOn act At (record { tx = []; out = []; state = c.args.state }) (λ me now. hear_whole me now a.from a.last a.pending.now) r)
    (sym (p.1 ∙ ap Err p.2))
    (whole-fails act.me.now act.time a.from a.last a.pending.now At c.args.state c.in_err-state.field-0.0 c.in_err-state.ensures.notes)

pub returns-then-not-are_within-clause-goes : goal.returns-then-not-are_within-clause-goes
returns-then-not-are_within-clause-goes c =
    let me = c.args.act.now.me.now in
    let now = c.args.act.now.time in
    let l : Leader = c.args.state in
    let new : Leader = c.in_ok-state.state in
    let a = c.args.answer.now in
    let w : Readings = readings_of c.args.stored.now in
    let p : Plan Leader = c.stay.result in
    let is = c.stay.ensures in
    goes me now (IsAsking c.args.act.now.epoch w) (record { tx = []; out = []; state = l }) (hear_whole me now a.from a.last a.pending.now) [] tt [] [] new
    (λ y b r.
    whole-waits me now a.from a.last a.pending.now new y (c.in_ok-state.ensures.notes y r) (sym c.are_within.ensures ∙ c.if-not-are_within.true)
    ∙ ap Ok (sym (notes-is new y (ap phase_of (c.in_ok-state.ensures.stage ∙ ap (λ (k : Leader). k.stage) (sym r) ∙ b.stage) ∙ sym b.phase))))
    p (ap (λ (p : Plan Leader). p.tx) is) (ap (λ (p : Plan Leader). p.out) is) (ap (λ (p : Plan Leader). p.timers) is) (ap (λ (p : Plan Leader). p.state) is) (ap (λ (p : Plan Leader). p.next) is)

pub returns-clause-goes : goal.returns-clause-goes
returns-clause-goes c =
    let me = c.args.act.now.me.now in
    let now = c.args.act.now.time in
    let l : Leader = c.args.state in
    let new : Leader = c.in_ok-state.state in
    let a = c.args.answer.now in
    let w : Readings = readings_of c.args.stored.now in
    hands_on me now (IsAsking c.args.act.now.epoch w) (record { tx = []; out = []; state = l }) (hear_whole me now a.from a.last a.pending.now)
    (IsCollecting c.args.act.now.epoch w) (record { tx = []; out = []; state = new }) (settle me now) [] tt [] refl refl
    (λ y b r. record {
      epoch = b.epoch;
      last = ap (λ (r : Readings). r.last) b.kept;
      records = ap (λ (r : Readings). r.record_of) b.kept;
      phase = b.phase;
    })
    (λ y b r. whole-settles me now a.from a.last a.pending.now new y (c.in_ok-state.ensures.notes y r) (sym c.are_within.ensures ∙ c.if-not-are_within.false))
    c.settle.result (subst (λ (d : Draft). GoesOn me now (IsCollecting c.args.act.now.epoch w) d (settle me now) c.settle.result) c.new-draft.ensures c.settle.ensures.goes)

pub settle-requires : goal.settle-requires
settle-requires c = ap (λ (d : Draft). may_begin_found d.state.found) c.new-draft.ensures ∙ c.in_ok-state.ensures.short
