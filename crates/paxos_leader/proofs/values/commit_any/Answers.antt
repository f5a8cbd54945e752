use Rattle.std.proofs.Common.{◌≡◌, List, [], Option, Some, None, Ok, sym, ap, subst, ◌∙◌}
use Rattle.mon_msg.specs.Protocol.Leader.{commit_any}
use Rattle.mon_msg.specs.Protocol.Leading.{commit}
use Rattle.mon_msg.specs.Protocol.Phases.{phase_of}
use Rattle.mon_msg.specs.Protocol.Readings.{Readings, readings_of}
use Rattle.mon_msg.specs.declared.paxos.Leader.{Leader}
use Rattle.mon_msg.specs.declared.plan.Plan.{Plan}
use Rattle.mon_tx.specs.declared.op.Op.{Op}
use Rattle.paxos_leader.specs.Drafts.{GoesOn, IsVoted}
use Rattle.paxos_leader.specs.Inputs.{may_begin_any}
use Rattle.paxos_leader.proofs.Committing.{commits-none, commits-some}
use Rattle.paxos_leader.proofs.Going.{goes, otherwise}
use Rattle.paxos_leader.proofs.Noting.{notes-is, remembered}
use Rattle.paxos_leader.proofs.Pending.{begun-short}
use Rattle.paxos_leader.proofs.values.commit_any.Goals as goal

pub commit-requires : goal.commit-requires
commit-requires c =
    begun-short c.in-Some.value (ap may_begin_any (sym c.in-Some.is ∙ ap (λ (r : Leader × Option (List Op)). r.1) c.take_value-state.ensures) ∙ c.requires)

pub returns-in-None-clause-goes : goal.returns-in-None-clause-goes
returns-in-None-clause-goes c =
    let me = c.args.here.now.me.now in
    let now = c.args.here.now.time in
    let l : Leader = c.args.state in
    let w : Readings = readings_of c.args.here.now.kv.now in
    let none : l.value ≡ None = sym (ap (λ (r : Leader × Option (List Op)). r.1) c.take_value-state.ensures) ∙ c.in-None.is in
    let kept : c.take_value-state.result.0 ≡ l = ap (λ (r : Leader × Option (List Op)). r.0) c.take_value-state.ensures ∙ (λ i. record l { value = sym none i }) in
    let is = c.stay.ensures in
    goes me now (IsVoted w) (record { tx = []; out = []; state = l }) (commit_any me now l.value) [] tt [] [] l
    (λ y b r.
    commits-none me now l.value y none
    ∙ ap Ok (sym (notes-is l y (ap (λ (k : Leader). phase_of k.stage) (sym r) ∙ b.stage) ∙ remembered l y r)))
    c.stay.result (ap (λ (p : Plan Leader). p.tx) is) (ap (λ (p : Plan Leader). p.out) is) (ap (λ (p : Plan Leader). p.timers) is) (ap (λ (p : Plan Leader). p.state) is ∙ kept) (ap (λ (p : Plan Leader). p.next) is)

pub returns-in-Some-clause-goes : goal.returns-in-Some-clause-goes
returns-in-Some-clause-goes c =
    let me = c.args.here.now.me.now in
    let now = c.args.here.now.time in
    let l : Leader = c.args.state in
    let w : Readings = readings_of c.args.here.now.kv.now in
    let some : l.value ≡ Some c.in-Some.value = sym (ap (λ (r : Leader × Option (List Op)). r.1) c.take_value-state.ensures) ∙ c.in-Some.is in
    let kept : record c.take_value-state.result.0 { value = Some c.in-Some.value } ≡ l =
    ap (λ (r : Leader × Option (List Op)). record r.0 { value = Some c.in-Some.value }) c.take_value-state.ensures ∙ (λ i. record l { value = sym some i }) in
    otherwise me now (IsVoted w) (record { tx = []; out = []; state = l }) (commit_any me now l.value) (commit me now c.in-Some.value)
    (λ y b r. commits-some me now l.value c.in-Some.value y some)
    c.commit.result
    (subst (λ (k : Leader). GoesOn me now (IsVoted w) (record { tx = []; out = []; state = k }) (commit me now c.in-Some.value) c.commit.result) kept c.commit.ensures.goes)
