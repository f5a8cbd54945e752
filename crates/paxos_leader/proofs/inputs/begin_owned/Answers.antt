use Rattle.std.proofs.Common.{◌≡◌, suc, ◌<◌, ◌^◌, List, [], Some, Ok, true, false, refl, sym, ap, subst, ◌∙◌, arith}
use Rattle.mon_msg.specs.Protocol.Leading.{begin, begin_alone, begin_with}
use Rattle.mon_msg.specs.Protocol.Readings.{Readings, readings_of, epoch_of}
use Rattle.mon_msg.specs.Protocol.Sending.{members}
use Rattle.mon_msg.specs.Protocol.Sets.{is_empty}
use Rattle.mon_msg.specs.declared.paxos.Leader.{Leader}
use Rattle.mon_msg.specs.declared.paxos.LeaderStage.TheVariants as stage
use Rattle.mon_tx.specs.declared.op.Op.{Op}
use Rattle.mon_plan.specs.Plans.{leads}
use Rattle.mon_plan.proofs.Planning.{instead}
use Rattle.paxos_leader.specs.Drafts.{ActsOn, GoesOn, IsHere, IsLed}
use Rattle.paxos_leader.specs.declared.draft.Draft.{Draft}
use Rattle.paxos_leader.specs.declared.seen.Act.{Act}
use Rattle.paxos_leader.proofs.Acting.{over, begin-spent, begins-alone, begins-among}
use Rattle.paxos_leader.proofs.Beginning.{led-here}
use Rattle.paxos_leader.proofs.Going.{from_start}
use Rattle.paxos_leader.proofs.Noting.{remembered}
use Rattle.paxos_leader.proofs.Pending.{begun-short}
use Rattle.paxos_leader.proofs.inputs.begin_owned.Goals as goal

pub begin_answered-requires : goal.begin_answered-requires
begin_answered-requires c = record {
  short = begun-short c.args.value c.requires;
  above = omega (arith, c.in-Some.ensures.value);
}

pub begin_with-requires : goal.begin_with-requires
begin_with-requires c = begun-short c.args.value c.requires

pub returns-in_default-clause-plans : goal.returns-in_default-clause-plans
returns-in_default-clause-plans c =
    λ x b.
    let w : Readings = readings_of c.args.here.now.kv.now in
    let own : c.own_last.result ≡ w.last = c.own_last.ensures in
    let spent : 2 ^ 62 < suc c.own_last.result = over c.own_last.result c.in_default.ensures.valid.1 in
    begin-spent c.args.here.now.me.now c.args.here.now.time x stage.Updating c.args.value (Some c.args.origin) (omega (arith, spent, own, ap (λ (r : Readings). r.last) b.readings))

pub returns-then-leads_alone-clause-plans : goal.returns-then-leads_alone-clause-plans
returns-then-leads_alone-clause-plans c =
    let me = c.args.here.now.me.now in
    let now = c.args.here.now.time in
    let w : Readings = readings_of c.args.here.now.kv.now in
    let l : Leader = c.args.state in
    let v = c.in-Some.version in
    let value : List Op = c.args.value in
    let o = c.args.origin in
    let r = c.begin_answered.result in
    let own : c.own_last.result ≡ w.last = c.own_last.ensures in
    let alone : is_empty (members me l.quorum) ≡ true = sym c.leads_alone.ensures ∙ c.if-leads_alone.true in
    instead me now leads (IsLed w l) (λ x. x) (begin_alone me v value (Some o)) (λ x. begin me now stage.Updating value (Some o) x) r
    (λ x b. begins-alone me now (epoch_of w) w.last l x (led-here w l x b) b.role stage.Updating value (Some o) v (omega (arith, own, c.in-Some.ensures.value)) (omega (arith, c.in-Some.ensures.value, c.in-Some.ensures.valid.0 refl)) alone)
    (c.begin_answered.ensures.plans now)

pub returns-clause-plans : goal.returns-clause-plans
returns-clause-plans c =
    let me = c.args.here.now.me.now in
    let now = c.args.here.now.time in
    let w : Readings = readings_of c.args.here.now.kv.now in
    let l : Leader = c.args.state in
    let v = c.in-Some.version in
    let value : List Op = c.args.value in
    let o = c.args.origin in
    let e = c.own_epoch-epoch.result in
    let r = c.begin_with.result in
    let own : c.own_last.result ≡ w.last = c.own_last.ensures in
    let is_epoch : epoch_of w ≡ e = sym c.own_epoch-epoch.ensures in
    let among : is_empty (members me l.quorum) ≡ false = sym c.leads_alone.ensures ∙ c.if-leads_alone.false in
    let drafted : c.new-draft.result ≡ record { tx = []; out = []; state = l } = c.new-draft.ensures in
    from_start me now (IsHere e w.last) (record { tx = []; out = []; state = l }) (λ y. Ok (begin_with me now stage.Updating v value (Some o) y)) r refl
    (subst (λ (d : Draft). GoesOn me now (IsHere e w.last) d (λ y. Ok (begin_with me now stage.Updating v value (Some o) y)) r) drafted
    (subst (λ (act : Act). ActsOn act (IsHere act.epoch w.last) c.new-draft.result (λ me now y. Ok (begin_with me now stage.Updating v value (Some o) y)) r) c.of-act.ensures
    (c.begin_with.ensures.goes w.last)))
    (IsLed w l) (λ x. x) (λ x. begin me now stage.Updating value (Some o) x)
    (λ x b. let here : IsHere (epoch_of w) w.last x = led-here w l x b in record { epoch = here.epoch ∙ is_epoch; last = here.last; leads = here.leads })
    (λ x b.
    begins-among me now (epoch_of w) w.last l x (led-here w l x b) b.role stage.Updating value (Some o) v (omega (arith, own, c.in-Some.ensures.value)) (omega (arith, c.in-Some.ensures.value, c.in-Some.ensures.valid.0 refl)) among
    ∙ ap (λ z. Ok (begin_with me now stage.Updating v value (Some o) z)) (sym (remembered l x b.role)))
