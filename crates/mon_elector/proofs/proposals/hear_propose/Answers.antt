use Rattle.std.proofs.Common.{◌≡◌, ◌+◌, ◌^◌, ◌&&◌, not, [], ◌∷◌, min, is_some, sym, ap, ◌∙◌, arith}
use Rattle.std.proofs.lemmas.Bool.{ltb-false}
use Rattle.election_rules.specs.declared.scores.Scores.{Scores}
use Rattle.mon_msg.specs.Protocol.Changes.{Epoch}
use Rattle.mon_msg.specs.Protocol.Elections.{hear_propose, is_allowed, stands_before, may_defer}
use Rattle.mon_msg.specs.Protocol.Sending.{message_to}
use Rattle.mon_msg.specs.declared.election.Elector.{Elector}
use Rattle.mon_msg.specs.declared.plan.Arming.TheVariants as arming
use Rattle.mon_msg.specs.declared.plan.Next.TheVariants as next
use Rattle.mon_wire.specs.declared.body.Body.TheVariants as body
use Rattle.mon_wire.specs.declared.phase.Timer.TheVariants as timer
use Rattle.mon_elector.proofs.Known.{epoch_in, plan_of, stays, elects, plans}
use Rattle.mon_elector.proofs.ProposalLaws as laws
use Rattle.mon_elector.proofs.proposals.hear_propose.Goals as goal

pub returns-then-is_deaf-clause-plans : goal.returns-then-is_deaf-clause-plans
returns-then-is_deaf-clause-plans c =
    let here = c.args.here.now in
    stays here (hear_propose here.me.now here.time c.args.from c.args.epoch c.args.table.now) c.stay.result c.stay.ensures
    (λ x b. laws.propose-deaf here x b c.args.from c.args.epoch c.args.table.now (sym c.is_deaf.ensures ∙ c.if-is_deaf.true))

pub returns-then-is_left_out-clause-plans : goal.returns-then-is_left_out-clause-plans
returns-then-is_left_out-clause-plans c =
    let here = c.args.here.now in
    elects here (hear_propose here.me.now here.time c.args.from c.args.epoch c.args.table.now) c.planned.result c.planned.ensures
    (λ x b. laws.propose-left_out here x b c.args.from c.args.epoch c.args.table.now (sym c.is_deaf.ensures ∙ c.if-is_deaf.false) (sym c.is_past.ensures ∙ c.if-is_past.true)
    (sym c.is_left_out.ensures ∙ c.if-is_left_out.true))

pub returns-then-is_past-clause-plans : goal.returns-then-is_past-clause-plans
returns-then-is_past-clause-plans c =
    let here = c.args.here.now in
    stays here (hear_propose here.me.now here.time c.args.from c.args.epoch c.args.table.now) c.stay-then-is_past.result c.stay-then-is_past.ensures
    (λ x b. laws.propose-past here x b c.args.from c.args.epoch c.args.table.now (sym c.is_deaf.ensures ∙ c.if-is_deaf.false) (sym c.is_past.ensures ∙ c.if-is_past.true)
    (sym c.is_left_out.ensures ∙ c.if-is_left_out.false))

pub returns-then-is_better-clause-plans : goal.returns-then-is_better-clause-plans
returns-then-is_better-clause-plans c =
    let here = c.args.here.now in
    let me = here.me.now in
    let s = here.state.now in
    let f = c.args.from in
    let e = c.args.epoch in
    let table = c.args.table.now in
    let better = ap (λ (t : Scores). is_allowed me f && stands_before me t f me.member.rank) c.table_or.ensures in
    let state : c.joining-joining.result ≡ laws.joins (laws.told_to table s) = c.joining-joining.ensures ∙ ap laws.joins c.merged-merged.ensures in
    let ms = message_to me e body.Ack f ∷ [] in
    plans here (hear_propose me here.time f e table) c.in_ok-join_and_defer.field-0
    (Epoch e ∷ []) (c.in_ok-join_and_defer.ensures.fit, tt) ms (arming.Arm timer.Election (min (here.time + 5000) (2 ^ 62)) ∷ []) (laws.defers f (laws.joins (laws.told_to table s))) next.Electing
    (c.in_ok-join_and_defer.ensures.plan ∙ (λ i. plan_of (Epoch e ∷ []) ms (c.armed-arming.ensures i ∷ []) (laws.defers f (state i)) next.Electing))
    (λ x b. laws.propose-later-defers here x b f e table (sym c.is_deaf.ensures ∙ c.if-is_deaf.false) (sym c.is_past.ensures ∙ c.if-is_past.false) (sym c.is_later.ensures ∙ c.if-is_later.true)
    (sym (c.is_better-is_better.ensures ∙ better) ∙ c.if-is_better.true))

pub returns-then-is_later-clause-plans : goal.returns-then-is_later-clause-plans
returns-then-is_later-clause-plans c =
    let here = c.args.here.now in
    let me = here.me.now in
    let s = here.state.now in
    let f = c.args.from in
    let e = c.args.epoch in
    let table = c.args.table.now in
    let better = ap (λ (t : Scores). is_allowed me f && stands_before me t f me.member.rank) c.table_or.ensures in
    let state : c.joining-joining.result ≡ laws.joins (laws.told_to table s) = c.joining-joining.ensures ∙ ap laws.joins c.merged-merged.ensures in
    plans here (hear_propose me here.time f e table) c.in_ok-enter_epoch.field-0
    (Epoch e ∷ []) (c.in_ok-enter_epoch.ensures.fit, tt) [] [] (laws.joins (laws.told_to table s)) next.Elect
    (c.in_ok-enter_epoch.ensures.plan ∙ (λ i. plan_of (Epoch e ∷ []) [] [] (state i) next.Elect))
    (λ x b. laws.propose-later-elects here x b f e table (sym c.is_deaf.ensures ∙ c.if-is_deaf.false) (sym c.is_past.ensures ∙ c.if-is_past.false) (sym c.is_later.ensures ∙ c.if-is_later.true)
    (sym (c.is_better-is_better.ensures ∙ better) ∙ c.if-is_better.false))

pub returns-then-may_defer-clause-plans : goal.returns-then-may_defer-clause-plans
returns-then-may_defer-clause-plans c =
    let here = c.args.here.now in
    let me = here.me.now in
    let s = here.state.now in
    let f = c.args.from in
    let e = c.args.epoch in
    let table = c.args.table.now in
    let better = ap (λ (t : Scores). is_allowed me f && stands_before me t f me.member.rank) c.table_or.ensures in
    let past = sym c.is_past.ensures ∙ c.if-is_past.false in
    let later = sym c.is_later.ensures ∙ c.if-is_later.false in
    let same : e ≡ epoch_in here = omega (arith, ltb-false e (epoch_in here) past, ltb-false (epoch_in here) e later) in
    plans here (hear_propose me here.time f e table) c.in_ok-defer.field-0
    [] tt (message_to me (epoch_in here) body.Ack f ∷ []) [] (laws.defers f (laws.told_to table s)) next.Stay
    (c.in_ok-defer.ensures ∙ (λ i. plan_of [] (message_to me (same i) body.Ack f ∷ []) [] (laws.defers f (c.merged-merged.ensures i)) next.Stay))
    (λ x b. laws.propose-defers here x b f e table (sym c.is_deaf.ensures ∙ c.if-is_deaf.false) past later
    (sym (c.is_better-is_better.ensures ∙ better) ∙ c.if-is_better-2.true)
    (sym (c.may_defer.ensures ∙ (λ i. may_defer me (c.table_or-then-is_better-2.ensures i) f (c.merged-merged.ensures i).deferred)) ∙ c.if-may_defer.true))

pub returns-then-is_better-2-clause-plans : goal.returns-then-is_better-2-clause-plans
returns-then-is_better-2-clause-plans c =
    let here = c.args.here.now in
    let me = here.me.now in
    let s = here.state.now in
    let f = c.args.from in
    let e = c.args.epoch in
    let table = c.args.table.now in
    let better = ap (λ (t : Scores). is_allowed me f && stands_before me t f me.member.rank) c.table_or.ensures in
    plans here (hear_propose me here.time f e table) c.stay-then-is_better-2.result
    [] tt [] [] (laws.told_to table s) next.Stay
    (c.stay-then-is_better-2.ensures ∙ (λ i. plan_of [] [] [] (c.merged-merged.ensures i) next.Stay))
    (λ x b. laws.propose-keeps here x b f e table (sym c.is_deaf.ensures ∙ c.if-is_deaf.false) (sym c.is_past.ensures ∙ c.if-is_past.false) (sym c.is_later.ensures ∙ c.if-is_later.false)
    (sym (c.is_better-is_better.ensures ∙ better) ∙ c.if-is_better-2.true)
    (sym (c.may_defer.ensures ∙ (λ i. may_defer me (c.table_or-then-is_better-2.ensures i) f (c.merged-merged.ensures i).deferred)) ∙ c.if-may_defer.false))

pub returns-then-is_idle-clause-plans : goal.returns-then-is_idle-clause-plans
returns-then-is_idle-clause-plans c =
    let here = c.args.here.now in
    let me = here.me.now in
    let s = here.state.now in
    let f = c.args.from in
    let e = c.args.epoch in
    let table = c.args.table.now in
    let better = ap (λ (t : Scores). is_allowed me f && stands_before me t f me.member.rank) c.table_or.ensures in
    plans here (hear_propose me here.time f e table) c.planned-then-is_idle.result
    [] tt [] [] (laws.told_to table s) next.Elect
    (c.planned-then-is_idle.ensures ∙ (λ i. plan_of [] [] [] (c.merged-merged.ensures i) next.Elect))
    (λ x b. laws.propose-elects here x b f e table (sym c.is_deaf.ensures ∙ c.if-is_deaf.false) (sym c.is_past.ensures ∙ c.if-is_past.false) (sym c.is_later.ensures ∙ c.if-is_later.false)
    (sym (c.is_better-is_better.ensures ∙ better) ∙ c.if-is_better-2.false)
    (sym (c.is_idle.ensures ∙ ap (λ (t : Elector). not (is_some t.deferred) && not t.candidate) c.merged-merged.ensures) ∙ c.if-is_idle.true))

pub returns-clause-plans : goal.returns-clause-plans
returns-clause-plans c =
    let here = c.args.here.now in
    let me = here.me.now in
    let s = here.state.now in
    let f = c.args.from in
    let e = c.args.epoch in
    let table = c.args.table.now in
    let better = ap (λ (t : Scores). is_allowed me f && stands_before me t f me.member.rank) c.table_or.ensures in
    plans here (hear_propose me here.time f e table) c.stay-2.result
    [] tt [] [] (laws.told_to table s) next.Stay
    (c.stay-2.ensures ∙ (λ i. plan_of [] [] [] (c.merged-merged.ensures i) next.Stay))
    (λ x b. laws.propose-stays here x b f e table (sym c.is_deaf.ensures ∙ c.if-is_deaf.false) (sym c.is_past.ensures ∙ c.if-is_past.false) (sym c.is_later.ensures ∙ c.if-is_later.false)
    (sym (c.is_better-is_better.ensures ∙ better) ∙ c.if-is_better-2.false)
    (sym (c.is_idle.ensures ∙ ap (λ (t : Elector). not (is_some t.deferred) && not t.candidate) c.merged-merged.ensures) ∙ c.if-is_idle.false))
