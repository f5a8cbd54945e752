use Rattle.std.proofs.Common.{◌≤◌, List, [], length, IsTrue, refl, sym, subst, ◌∙◌}
use Rattle.std.specs.List.{AllByRecursion}
use Rattle.mon_msg.specs.Protocol.Course.{peon_is}
use Rattle.mon_msg.specs.Protocol.Hearing.{hear}
use Rattle.mon_msg.specs.Protocol.Length.{fits}
use Rattle.mon_msg.specs.Protocol.Peon.{hear_collect, hear_begin, hear_commit, hear_lease}
use Rattle.mon_msg.specs.Protocol.Readings.{readings_of}
use Rattle.mon_msg.specs.declared.plan.Next.TheVariants as next
use Rattle.mon_tx.specs.Text.{text, most}
use Rattle.mon_tx.specs.declared.op.Op.{Op}
use Rattle.mon_wire.specs.declared.body.Body.{Body}
use Rattle.mon_plan.specs.Plans.{PlansRow}
use Rattle.mon_plan.specs.Seen.{IsMet}
use Rattle.mon_plan.proofs.Kept.{kept-peon}
use Rattle.mon_plan.proofs.Planning.{only_acts}
use Rattle.paxos_peon.specs.Rows.{ByRow}
use Rattle.paxos_peon.proofs.HearLaws.{others, of_leader-row, hear-dropped, committed-short}
use Rattle.paxos_peon.proofs.inputs.hear.Goals as goal

pub returns-then-not-is_ours-clause-plans : goal.returns-then-not-is_ours-clause-plans
returns-then-not-is_ours-clause-plans c =
    λ shared.
    let here = c.args.here.now in
    let me = here.me.now in
    let s = here.state.now in
    let w = readings_of here.stored.now in
    let m = c.args.message.now in
    only_acts me here.time peon_is (IsMet me here.time w c.args.view.now (λ st. st.peon) s) (λ x. x) (hear me shared here.time m.from m.epoch m.body)
    [] tt s (λ x b. kept-peon s x b.role) next.Stay (λ x. refl)
    (λ x b.
    hear-dropped me shared here.time m.from m.epoch m.body c.requires.input x
    (others me here.time w c.args.view.now s m.from m.epoch (sym c.is_ours.ensures ∙ c.if-not-is_ours.true) x b))
    c.stay.result c.stay.ensures

pub returns-in-Collect-clause-plans : goal.returns-in-Collect-clause-plans
returns-in-Collect-clause-plans c =
    λ shared.
    let here = c.args.here.now in
    let me = here.me.now in
    let s = here.state.now in
    let w = readings_of here.stored.now in
    let m = c.args.message.now in
    subst (λ (b : Body). PlansRow me here.time peon_is (IsMet me here.time w c.args.view.now (λ st. st.peon) s) (hear me shared here.time m.from m.epoch b) c.collect.result) (sym c.in-Collect.is)
    (of_leader-row me here.time w c.args.view.now s m.from m.epoch (sym c.is_ours.ensures ∙ c.if-not-is_ours.false) (λ g. hear_collect me here.time g m.epoch c.in-Collect.pn c.in-Collect.first c.in-Collect.last) c.collect.result
    (c.collect.ensures.plans m.epoch))

pub returns-in-Begin-clause-plans : goal.returns-in-Begin-clause-plans
returns-in-Begin-clause-plans c =
    λ shared.
    let here = c.args.here.now in
    let me = here.me.now in
    let s = here.state.now in
    let w = readings_of here.stored.now in
    let m = c.args.message.now in
    subst (λ (b : Body). PlansRow me here.time peon_is (IsMet me here.time w c.args.view.now (λ st. st.peon) s) (hear me shared here.time m.from m.epoch b) c.begin.result) (sym c.in-Begin.is)
    (of_leader-row me here.time w c.args.view.now s m.from m.epoch (sym c.is_ours.ensures ∙ c.if-not-is_ours.false) (λ g. hear_begin me g m.epoch c.in-Begin.pn c.in-Begin.version c.in-Begin.value) c.begin.result
    (c.begin.ensures.plans m.epoch))

pub returns-in-Commit-clause-plans : goal.returns-in-Commit-clause-plans
returns-in-Commit-clause-plans c =
    λ shared.
    let here = c.args.here.now in
    let me = here.me.now in
    let s = here.state.now in
    let w = readings_of here.stored.now in
    let m = c.args.message.now in
    subst (λ (b : Body). PlansRow me here.time peon_is (IsMet me here.time w c.args.view.now (λ st. st.peon) s) (hear me shared here.time m.from m.epoch b) c.commit.result) (sym c.in-Commit.is)
    (of_leader-row me here.time w c.args.view.now s m.from m.epoch (sym c.is_ours.ensures ∙ c.if-not-is_ours.false) (λ g. hear_commit g m.epoch c.in-Commit.from c.in-Commit.values) c.commit.result
    (subst (λ (vs : List (List Op)). ByRow here m.epoch (hear_commit s.leader m.epoch c.in-Commit.from vs) c.commit.result) c.as_slice.ensures
    (c.commit.ensures.plans m.epoch)))

pub returns-in-Lease-clause-plans : goal.returns-in-Lease-clause-plans
returns-in-Lease-clause-plans c =
    λ shared.
    let here = c.args.here.now in
    let me = here.me.now in
    let s = here.state.now in
    let w = readings_of here.stored.now in
    let m = c.args.message.now in
    subst (λ (b : Body). PlansRow me here.time peon_is (IsMet me here.time w c.args.view.now (λ st. st.peon) s) (hear me shared here.time m.from m.epoch b) c.lease.result) (sym c.in-Lease.is)
    (of_leader-row me here.time w c.args.view.now s m.from m.epoch (sym c.is_ours.ensures ∙ c.if-not-is_ours.false) (λ g. hear_lease me here.time g m.epoch c.in-Lease.last) c.lease.result
    (c.lease.ensures.plans m.epoch))

pub commit-requires-clause-short : goal.commit-requires-clause-short
commit-requires-clause-short c =
    subst (AllByRecursion (λ (ops : List Op). length (text ops) ≤ most)) (sym c.as_slice.ensures)
    (committed-short c.args.here.now.me.now.member.monitors c.in-Commit.from c.in-Commit.values
    (subst (λ (b : Body). IsTrue (fits c.args.here.now.me.now.member.monitors b)) c.in-Commit.is c.requires.fits))
