use Rattle.std.proofs.Common.{Bool, ◌&&◌, List, [], ◌∷◌, sym, ap, ◌∙◌}
use Rattle.mon_msg.specs.Protocol.Changes.{Epoch}
use Rattle.mon_msg.specs.Protocol.Course.{elector_is}
use Rattle.mon_msg.specs.Protocol.Elections.{hear_ack, is_allowed, is_whole}
use Rattle.mon_msg.specs.Protocol.Entering.{win}
use Rattle.mon_msg.specs.declared.plan.Next.TheVariants as next
use Rattle.mon_types.specs.Ranks.{with_rank}
use Rattle.mon_elector.proofs.Known.{plan_of, stays, plans}
use Rattle.mon_elector.proofs.ProposalLaws.{joins}
use Rattle.mon_elector.proofs.AckLaws as laws
use Rattle.mon_elector.proofs.acks.hear_ack.Goals as goal

pub returns-then-is_deaf-clause-plans : goal.returns-then-is_deaf-clause-plans
returns-then-is_deaf-clause-plans c =
    let here = c.args.here.now in
    stays here (hear_ack here.me.now here.time c.args.from c.args.epoch) c.stay.result c.stay.ensures
    (λ x b. laws.ack-deaf here x b c.args.from c.args.epoch (sym c.is_deaf.ensures ∙ c.if-is_deaf.true))

pub returns-then-is_past-clause-plans : goal.returns-then-is_past-clause-plans
returns-then-is_past-clause-plans c =
    let here = c.args.here.now in
    stays here (hear_ack here.me.now here.time c.args.from c.args.epoch) c.stay-then-is_past.result c.stay-then-is_past.ensures
    (λ x b. laws.ack-past here x b c.args.from c.args.epoch (sym c.is_deaf.ensures ∙ c.if-is_deaf.false) (sym c.is_past.ensures ∙ c.if-is_past.true))

pub returns-then-is_later-clause-plans : goal.returns-then-is_later-clause-plans
returns-then-is_later-clause-plans c =
    let here = c.args.here.now in
    let me = here.me.now in
    let s = here.state.now in
    let e = c.args.epoch in
    plans here (hear_ack me here.time c.args.from e) c.in_ok-enter_epoch.field-0
    (Epoch e ∷ []) (c.in_ok-enter_epoch.ensures.fit, tt) [] [] (joins s) next.Elect
    (c.in_ok-enter_epoch.ensures.plan ∙ (λ i. plan_of (Epoch e ∷ []) [] [] (c.joining.ensures i) next.Elect))
    (λ x b. laws.ack-later here x b c.args.from e (sym c.is_deaf.ensures ∙ c.if-is_deaf.false) (sym c.is_past.ensures ∙ c.if-is_past.false) (sym c.is_later.ensures ∙ c.if-is_later.true))

pub returns-then-not-here-clause-plans : goal.returns-then-not-here-clause-plans
returns-then-not-here-clause-plans c =
    let here = c.args.here.now in
    stays here (hear_ack here.me.now here.time c.args.from c.args.epoch) c.stay-then-not-here.result c.stay-then-not-here.ensures
    (λ x b. laws.ack-idle here x b c.args.from c.args.epoch (sym c.is_deaf.ensures ∙ c.if-is_deaf.false) (sym c.is_past.ensures ∙ c.if-is_past.false) (sym c.is_later.ensures ∙ c.if-is_later.false) c.if-not-here.true)

pub returns-then-leads_all-clause-plans : goal.returns-then-leads_all-clause-plans
returns-then-leads_all-clause-plans c =
    let here = c.args.here.now in
    let me = here.me.now in
    let s = here.state.now in
    let f = c.args.from in
    let all = ap (λ (q : List Bool). is_whole me q && is_allowed me me.member.rank) c.with-acked.ensures in
    laws.won here (record s { acked = c.with-acked.result }) c.with-acked.result (hear_ack me here.time f c.args.epoch) c.win.result c.win.ensures.wins
    (λ x b.
    laws.ack-wins here x b f c.args.epoch (sym c.is_deaf.ensures ∙ c.if-is_deaf.false) (sym c.is_past.ensures ∙ c.if-is_past.false) (sym c.is_later.ensures ∙ c.if-is_later.false) c.if-not-here.false
    (sym (c.leads_all.ensures ∙ all) ∙ c.if-leads_all.true)
    ∙ ap (λ (q : List Bool). win me here.time q (elector_is (record s { acked = q }) x)) (sym c.with-acked.ensures))

pub returns-clause-plans : goal.returns-clause-plans
returns-clause-plans c =
    let here = c.args.here.now in
    let me = here.me.now in
    let s = here.state.now in
    let f = c.args.from in
    let all = ap (λ (q : List Bool). is_whole me q && is_allowed me me.member.rank) c.with-acked.ensures in
    plans here (hear_ack me here.time f c.args.epoch) c.stay-2.result
    [] tt [] [] (record s { acked = with_rank s.acked f }) next.Stay
    (c.stay-2.ensures ∙ (λ i. plan_of [] [] [] (record s { acked = c.with-acked.ensures i }) next.Stay))
    (λ x b. laws.ack-counts here x b f c.args.epoch (sym c.is_deaf.ensures ∙ c.if-is_deaf.false) (sym c.is_past.ensures ∙ c.if-is_past.false) (sym c.is_later.ensures ∙ c.if-is_later.false) c.if-not-here.false
    (sym (c.leads_all.ensures ∙ all) ∙ c.if-leads_all.false))
