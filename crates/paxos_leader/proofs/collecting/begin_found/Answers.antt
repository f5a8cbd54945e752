use Rattle.std.proofs.Common.{Some, Ok, sym, ap, ◌∙◌}
use Rattle.mon_msg.specs.Protocol.Collecting.{begin_found}
use Rattle.mon_msg.specs.Protocol.Leading.{be_active}
use Rattle.paxos_leader.specs.Drafts.{IsHere}
use Rattle.paxos_leader.specs.Inputs.{may_begin_found}
use Rattle.paxos_leader.proofs.Going.{otherwise}
use Rattle.paxos_leader.proofs.collecting.begin_found.Goals as goal

pub begin_if_next-requires : goal.begin_if_next-requires
begin_if_next-requires c = ap may_begin_found (sym c.in-Some.is) ∙ c.requires

pub returns-in_ok-be_active-in-None-clause-goes : goal.returns-in_ok-be_active-in-None-clause-goes
returns-in_ok-be_active-in-None-clause-goes c =
    let me = c.args.act.now.me.now in
    let now = c.args.act.now.time in
    otherwise me now (IsHere c.args.act.now.epoch c.args.last) c.args.draft (begin_found me now c.args.found) (λ y. Ok (be_active me now y))
    (λ y b e. ap (λ f. begin_found me now f y) c.in-None.is)
    (Ok c.in_ok-be_active-in-None.field-0) c.in_ok-be_active-in-None.ensures.goes

pub returns-in-Some-clause-goes : goal.returns-in-Some-clause-goes
returns-in-Some-clause-goes c =
    let me = c.args.act.now.me.now in
    let now = c.args.act.now.time in
    otherwise me now (IsHere c.args.act.now.epoch c.args.last) c.args.draft (begin_found me now c.args.found) (begin_found me now (Some c.in-Some.found))
    (λ y b e. ap (λ f. begin_found me now f y) c.in-Some.is)
    c.begin_if_next.result c.begin_if_next.ensures.goes
