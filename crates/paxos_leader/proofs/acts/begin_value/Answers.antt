use Rattle.std.proofs.Common.{None, Ok, refl, sym, ◌∙◌, arith}
use Rattle.mon_msg.specs.Protocol.Leading.{begin, begin_alone, begin_with}
use Rattle.paxos_leader.specs.Drafts.{IsHere}
use Rattle.paxos_leader.proofs.Acting.{alone-goes, begin-over, begins-alone, begins-among, over}
use Rattle.paxos_leader.proofs.Going.{otherwise}
use Rattle.paxos_leader.proofs.acts.begin_value.Goals as goal

pub returns-in_default-clause-goes : goal.returns-in_default-clause-goes
returns-in_default-clause-goes c =
    λ cs fits is x b.
    begin-over c.args.act.now.me.now c.args.act.now.time c.args.act.now.epoch c.args.last c.args.draft.state _ b refl c.args.stage c.args.value None (over c.args.last c.in_default.ensures.valid.1)

pub returns-then-leads_alone-clause-goes : goal.returns-then-leads_alone-clause-goes
returns-then-leads_alone-clause-goes c =
    let me = c.args.act.now.me.now in
    let now = c.args.act.now.time in
    let d = c.args.draft in
    otherwise me now (IsHere c.args.act.now.epoch c.args.last) d (begin me now c.args.stage c.args.value None) (begin_alone me c.in-Some.version c.args.value None)
    (λ y b e. begins-alone me now c.args.act.now.epoch c.args.last d.state y b e c.args.stage c.args.value None c.in-Some.version c.in-Some.ensures.value (omega (arith, c.in-Some.ensures.value, c.in-Some.ensures.valid.0 refl)) (sym c.leads_alone.ensures ∙ c.if-leads_alone.true))
    c.commit_alone.result (alone-goes me now c.args.act.now.epoch c.args.last d c.in-Some.version c.args.value c.commit_alone.result c.commit_alone.ensures.alone)

pub returns-clause-goes : goal.returns-clause-goes
returns-clause-goes c =
    let me = c.args.act.now.me.now in
    let now = c.args.act.now.time in
    let d = c.args.draft in
    otherwise me now (IsHere c.args.act.now.epoch c.args.last) d (begin me now c.args.stage c.args.value None) (λ y. Ok (begin_with me now c.args.stage c.in-Some.version c.args.value None y))
    (λ y b e. begins-among me now c.args.act.now.epoch c.args.last d.state y b e c.args.stage c.args.value None c.in-Some.version c.in-Some.ensures.value (omega (arith, c.in-Some.ensures.value, c.in-Some.ensures.valid.0 refl)) (sym c.leads_alone.ensures ∙ c.if-leads_alone.false))
    c.begin_with.result (c.begin_with.ensures.goes c.args.last)
