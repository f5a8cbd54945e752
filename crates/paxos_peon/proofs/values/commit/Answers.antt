use Rattle.std.proofs.Common.{ℕ, suc, ◌+◌, ◌-◌, ◌≤◌, ◌++◌, List, [], length, length-drop, take, drop, min, Result, Ok, Err, refl, ap, sym, subst, ◌∙◌, arith}
use Rattle.std.specs.List.{AllByRecursion}
use Rattle.std.proofs.lemmas.Bool.{ltb-false}
use Rattle.std.proofs.lemmas.Result.{err_from_is_err_and}
use Rattle.mon_msg.specs.Protocol.Changes.{encoded}
use Rattle.mon_msg.specs.Protocol.Course.{peon_is}
use Rattle.mon_msg.specs.Protocol.Peon.{hear_commit}
use Rattle.mon_msg.specs.Protocol.Readings.{readings_of}
use Rattle.mon_msg.specs.Protocol.State.{State}
use Rattle.mon_msg.specs.declared.paxos.Peon.{Peon}
use Rattle.mon_msg.specs.declared.plan.Next.TheVariants as next
use Rattle.mon_msg.specs.declared.plan.Plan.{Plan}
use Rattle.mon_msg.specs.declared.plan.RoleStop.{RoleStop}
use Rattle.mon_tx.specs.Text.{text, most}
use Rattle.mon_tx.specs.declared.op.Op.{Op}
use Rattle.mon_plan.specs.Learned.{learned}
use Rattle.mon_plan.specs.Plans.{changed}
use Rattle.mon_plan.proofs.Kept.{kept-peon}
use Rattle.mon_plan.proofs.Planning.{does_as, only_acts, changed-state, learn-fails}
use Rattle.mon_plan.proofs.Values.{all_drop, rest_is}
use Rattle.paxos_peon.specs.Rows.{ByRow, IsOurs}
use Rattle.paxos_peon.proofs.ValueLaws.{commit-ahead, commit-learns}
use Rattle.paxos_peon.proofs.values.commit.Goals as goal

-- a plan that only writes
abbrev writes : List Op → Peon → Plan Peon
writes tx s = record { tx = tx; out = []; timers = []; state = s; next = next.Stay }

pub learn-requires : goal.learn-requires
learn-requires c = record {
  short =
      subst (AllByRecursion (λ (ops : List Op). length (text ops) ≤ most)) (sym (rest_is c.min-known.result c.args.values.now))
      (all_drop (λ (ops : List Op). length (text ops) ≤ most) c.min-known.result c.args.values.now c.requires.short);
  from = omega arith;
  room = omega (arith, ap length (rest_is c.min-known.result c.args.values.now), length-drop c.min-known.result c.args.values.now, c.get-next.ensures.most, c.requires.few);
}

pub returns-then-is_ahead-clause-plans : goal.returns-then-is_ahead-clause-plans
returns-then-is_ahead-clause-plans c =
    λ e.
    let here = c.args.here.now in
    let me = here.me.now in
    let s = here.state.now in
    let w = readings_of here.stored.now in
    only_acts me here.time peon_is (IsOurs w s s.leader e) (λ x. x) (hear_commit s.leader e c.args.from c.args.values.now)
    [] tt s (λ x b. kept-peon s x b.role) next.Stay (λ x. refl)
    (λ x b. commit-ahead w s s.leader e x b c.args.from c.args.values.now (sym c.is_ahead.ensures ∙ c.if-is_ahead.true))
    c.stay.result c.stay.ensures

pub returns-in_err-learn-clause-plans : goal.returns-in_err-learn-clause-plans
returns-in_err-learn-clause-plans c =
    λ e.
    let here = c.args.here.now in
    let me = here.me.now in
    let s = here.state.now in
    let w = readings_of here.stored.now in
    let v = c.get-next.result + 1 in
    let k = c.min-known.result in
    let low : c.args.from ≤ v = (let le = ltb-false (suc w.last) c.args.from (sym c.is_ahead.ensures ∙ c.if-is_ahead.false) in omega (arith, le, c.get-next.ensures.value, c.last.ensures.value)) in
    let stopped = err_from_is_err_and c.from_residual.result c.from_residual.ensures.1 in
    subst (λ (r : Result (Plan Peon) RoleStop). ByRow here e (hear_commit s.leader e c.args.from c.args.values.now) r) (sym (stopped.1 ∙ ap Err stopped.2))
    (learn-fails me here.time peon_is (IsOurs w s s.leader e) (λ x. x) (hear_commit s.leader e c.args.from c.args.values.now)
    v (take (length c.args.values.now - k) (drop k c.args.values.now)) c.in_err-learn.field-0.0 c.in_err-learn.ensures.act
    (λ x b.
    commit-learns w s s.leader e x b c.args.from c.args.values.now v k (omega (arith, c.get-next.ensures.value, c.last.ensures.value))
    low (c.min-known.ensures ∙ ap (λ (n : ℕ). min (v - n) (length c.args.values.now)) c.get.ensures.value)))

pub returns-clause-plans : goal.returns-clause-plans
returns-clause-plans c =
    λ e.
    let here = c.args.here.now in
    let me = here.me.now in
    let s = here.state.now in
    let w = readings_of here.stored.now in
    let v = c.get-next.result + 1 in
    let k = c.min-known.result in
    let low : c.args.from ≤ v = (let le = ltb-false (suc w.last) c.args.from (sym c.is_ahead.ensures ∙ c.if-is_ahead.false) in omega (arith, le, c.get-next.ensures.value, c.last.ensures.value)) in
    let news = take (length c.args.values.now - k) (drop k c.args.values.now) in
    does_as me here.time peon_is (IsOurs w s s.leader e) (λ x. x) (hear_commit s.leader e c.args.from c.args.values.now)
    (learned v news) c.in_ok-learn.ensures.fit (writes (encoded (learned v news)) s) refl
    (λ x b.
    commit-learns w s s.leader e x b c.args.from c.args.values.now v k (omega (arith, c.get-next.ensures.value, c.last.ensures.value))
    low (c.min-known.ensures ∙ ap (λ (n : ℕ). min (v - n) (length c.args.values.now)) c.get.ensures.value)
    ∙ c.in_ok-learn.ensures.act x ∙ sym (ap Ok (kept-peon s (changed (learned v news) x) (ap (λ (st : State). st.peon) (changed-state (learned v news) x) ∙ b.role))))
    c.writing.result
    (c.writing.ensures ∙ ap (λ (t : List Op). writes t s) (c.in_ok-learn.ensures.changes ∙ ap (λ (t : List Op). t ++ encoded (learned v news)) c.new-tx.ensures))
