use Rattle.std.proofs.Common.{ℕ, List, [], Option, sym, ap, subst, ◌∙◌, append-nil}
use Rattle.mon_msg.specs.Protocol.Collecting.{begin_found, settle}
use Rattle.mon_msg.specs.Protocol.Readings.{Readings, readings_of}
use Rattle.mon_msg.specs.declared.paxos.Found.{Found}
use Rattle.mon_msg.specs.declared.paxos.Leader.{Leader}
use Rattle.mon_msg.specs.declared.plan.Sent.{Sent}
use Rattle.paxos_leader.specs.Drafts.{IsCollecting, IsHere, under_way}
use Rattle.paxos_leader.specs.Inputs.{may_begin_found}
use Rattle.paxos_leader.specs.Parts.{commits}
use Rattle.paxos_leader.specs.declared.draft.Draft.{Draft}
use Rattle.paxos_leader.proofs.Going.{hands_on}
use Rattle.paxos_leader.proofs.Settled.{settled-here, settles}
use Rattle.paxos_leader.proofs.collecting.settle.Goals as goal

pub begin_found-requires : goal.begin_found-requires
begin_found-requires c = ap (λ (r : Leader × Option Found). may_begin_found r.1) c.take_found-state.ensures ∙ c.requires

pub returns-clause-goes : goal.returns-clause-goes
returns-clause-goes c =
    let me = c.args.act.now.me.now in
    let now = c.args.act.now.time in
    let e = c.args.act.now.epoch in
    let w : Readings = readings_of c.args.stored.now in
    let d : Draft = c.args.draft in
    let sends : List Sent = commits me e w d.state in
    let taken = c.take_found-state.ensures in
    hands_on me now (IsCollecting e w) d (settle me now) (IsHere e c.last.result) (record { tx = d.tx; out = c.in_ok-out.out; state = c.take_found-state.result.0 })
    (begin_found me now c.take_found-state.result.1) [] tt sends
    (sym (append-nil d.tx)) c.in_ok-out.ensures
    (λ y b r.
    subst (λ (v : ℕ). IsHere e v (under_way [] sends c.take_found-state.result.0 y)) (sym c.last.ensures.value)
    (subst (λ (k : Leader). IsHere e w.last (under_way [] sends k y)) (sym (ap (λ (r : Leader × Option Found). r.0) taken)) (settled-here me now e w d.state y b r)))
    (λ y b r. settles me now e w d.state y b r ∙ (λ i. begin_found me now (sym taken i).1 (under_way [] sends (sym taken i).0 y)))
    c.begin_found.result c.begin_found.ensures.goes
