use Rattle.std.proofs.Common.{Some, None, Ok, arith}
use Rattle.mon_msg.specs.Protocol.Collecting.{begin_found}
use Rattle.mon_msg.specs.Protocol.Leading.{be_active, begin}
use Rattle.mon_msg.specs.declared.paxos.LeaderStage.TheVariants as stage
use Rattle.paxos_leader.specs.Drafts.{IsHere}
use Rattle.paxos_leader.proofs.Going.{otherwise}
use Rattle.paxos_leader.proofs.Pending.{begun-short}
use Rattle.paxos_leader.proofs.Settled.{found-other, found-next}
use Rattle.paxos_leader.proofs.collecting.begin_if_next.Goals as goal

pub begin_value-requires : goal.begin_value-requires
begin_value-requires c = begun-short c.args.found.value c.requires

pub returns-then-get-clause-goes : goal.returns-then-get-clause-goes
returns-then-get-clause-goes c =
    let me = c.args.act.now.me.now in
    let now = c.args.act.now.time in
    otherwise me now (IsHere c.args.act.now.epoch c.args.last) c.args.draft (begin_found me now (Some c.args.found)) (λ y. Ok (be_active me now y))
    (λ y b e. found-other me now c.args.last c.args.found y b.last (λ is. c.if-get.true (omega (arith, is, c.get.ensures.value, c.get-2.ensures.value))))
    (Ok c.in_ok-be_active.field-0) c.in_ok-be_active.ensures.goes

pub returns-clause-goes : goal.returns-clause-goes
returns-clause-goes c =
    let me = c.args.act.now.me.now in
    let now = c.args.act.now.time in
    otherwise me now (IsHere c.args.act.now.epoch c.args.last) c.args.draft (begin_found me now (Some c.args.found)) (begin me now stage.Previous c.args.found.value None)
    (λ y b e. found-next me now c.args.last c.args.found y b.last (omega (arith, c.if-get.false, c.get.ensures.value, c.get-2.ensures.value)))
    c.begin_value.result c.begin_value.ensures.goes
