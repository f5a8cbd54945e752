use Rattle.std.proofs.Common.{◌≡◌, ℕ, ◌≤◌, ◌^◌, true, false, List, [], ◌∷◌, refl, sym, ap, subst, ◌∙◌}
use Rattle.mon_msg.specs.Protocol.Changes.{Numbers}
use Rattle.mon_msg.specs.Protocol.Collecting.{collect, collector, settle}
use Rattle.mon_msg.specs.Protocol.Readings.{Readings, readings_of}
use Rattle.mon_msg.specs.Protocol.Sending.{members}
use Rattle.mon_msg.specs.Protocol.Sets.{is_empty}
use Rattle.mon_msg.specs.Protocol.State.{start_leader}
use Rattle.mon_msg.specs.declared.paxos.Leader.{Leader}
use Rattle.mon_msg.specs.declared.plan.Plan.{Plan}
use Rattle.mon_msg.specs.declared.plan.Sent.{Sent}
use Rattle.mon_wire.specs.declared.phase.Timer.TheVariants as timer
use Rattle.mon_plan.proofs.Learning.{above}
use Rattle.paxos_leader.specs.Drafts.{IsAsking, IsCollecting, armed_now, under_way}
use Rattle.paxos_leader.specs.Parts.{made, asked}
use Rattle.paxos_leader.specs.declared.draft.Draft.{Draft}
use Rattle.paxos_leader.proofs.Asking.{collect-over, collects, collects-alone, asking-here}
use Rattle.paxos_leader.proofs.Going.{goes, hands_on}
use Rattle.paxos_leader.proofs.collecting.collect.Goals as goal

pub returns-in_default-clause-goes : goal.returns-in_default-clause-goes
returns-in_default-clause-goes c =
    λ cs fits is x b.
    let w : Readings = readings_of c.args.stored.now in
    collect-over c.args.act.now.me.now c.args.act.now.time c.args.quorum c.args.above c.args.act.now.epoch w (under_way cs c.args.out start_leader x) b
    (above (made c.args.act.now.me.now c.args.above w) (2 ^ 62) c.in_default.ensures.fits.1)

pub returns-then-is_alone-clause-goes : goal.returns-then-is_alone-clause-goes
returns-then-is_alone-clause-goes c =
    let me = c.args.act.now.me.now in
    let now = c.args.act.now.time in
    let e = c.args.act.now.epoch in
    let q = c.args.quorum in
    let pn = c.in-Some.pn in
    let w : Readings = readings_of c.args.stored.now in
    let is : pn ≡ made me c.args.above w = c.in-Some.ensures.value in
    let short : made me c.args.above w ≤ 2 ^ 62 = c.in-Some.ensures.fits.0 refl in
    let sends : List Sent = asked me q pn e w in
    let drafted = c.in_ok-draft.ensures.draft in
    let role : c.in_ok-draft.draft.state ≡ collector me q pn w = ap (λ (d : Draft). d.state) drafted in
    let alone : is_empty (members me q) ≡ true = sym c.is_alone.ensures ∙ c.if-is_alone.true in
    hands_on me now (IsAsking e w) (record { tx = []; out = c.args.out; state = start_leader }) (collect me now q c.args.above) (IsCollecting e w) c.in_ok-draft.draft (settle me now)
    (Numbers pn ∷ []) (subst (λ (n : ℕ). n ≤ 2 ^ 62) (sym is) short, tt) sends
    (ap (λ (d : Draft). d.tx) drafted) (ap (λ (d : Draft). d.out) drafted)
    (λ y b r. subst (λ (l : Leader). IsCollecting e w (under_way (Numbers pn ∷ []) sends l y)) (sym role) (asking-here me now q c.args.above e w y b pn is short))
    (λ y b r. collects-alone me now q c.args.above e w y b pn is short alone ∙ ap (λ (l : Leader). settle me now (under_way (Numbers pn ∷ []) sends l y)) (sym role))
    c.settle.result c.settle.ensures.goes

pub returns-clause-goes : goal.returns-clause-goes
returns-clause-goes c =
    let me = c.args.act.now.me.now in
    let now = c.args.act.now.time in
    let e = c.args.act.now.epoch in
    let q = c.args.quorum in
    let pn = c.in-Some.pn in
    let w : Readings = readings_of c.args.stored.now in
    let is : pn ≡ made me c.args.above w = c.in-Some.ensures.value in
    let short : made me c.args.above w ≤ 2 ^ 62 = c.in-Some.ensures.fits.0 refl in
    let drafted = c.in_ok-draft.ensures.draft in
    let role : c.in_ok-draft.draft.state ≡ collector me q pn w = ap (λ (d : Draft). d.state) drafted in
    let others : is_empty (members me q) ≡ false = sym c.is_alone.ensures ∙ c.if-is_alone.false in
    let p : Plan Leader = c.in_ok-await_answers.field-0 in
    let waits = c.in_ok-await_answers.ensures in
    goes me now (IsAsking e w) (record { tx = []; out = c.args.out; state = start_leader }) (collect me now q c.args.above)
    (Numbers pn ∷ []) (subst (λ (n : ℕ). n ≤ 2 ^ 62) (sym is) short, tt) (asked me q pn e w) (armed_now now timer.Collect ∷ []) (collector me q pn w)
    (λ y b r. collects me now q c.args.above e w y b pn is short others)
    p
    (ap (λ (p : Plan Leader). p.tx) waits ∙ ap (λ (d : Draft). d.tx) drafted)
    (ap (λ (p : Plan Leader). p.out) waits ∙ ap (λ (d : Draft). d.out) drafted)
    (ap (λ (p : Plan Leader). p.timers) waits)
    (ap (λ (p : Plan Leader). p.state) waits ∙ role)
    (ap (λ (p : Plan Leader). p.next) waits)
