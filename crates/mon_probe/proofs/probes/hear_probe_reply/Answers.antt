use Rattle.std.proofs.Common.{Bool, List, [], refl, sym, ap, ◌∙◌}
use Rattle.mon_msg.specs.Protocol.Probing.{hear_probe_reply}
use Rattle.mon_msg.specs.Protocol.Readings.{readings_of}
use Rattle.mon_msg.specs.declared.plan.Next.TheVariants as next
use Rattle.mon_types.specs.Ranks.{with_rank, is_majority}
use Rattle.mon_probe.proofs.Known.{plan_of, acts, plans}
use Rattle.mon_probe.proofs.ProbeLaws as laws
use Rattle.mon_probe.proofs.probes.hear_probe_reply.Goals as goal

pub returns-then-not-is_probing-clause-plans : goal.returns-then-not-is_probing-clause-plans
returns-then-not-is_probing-clause-plans c =
    λ now.
    let here = c.args.here.now in
    let me = here.me.now in
    let v = here.view.now in
    let s = here.state.now in
    let w = readings_of here.stored.now in
    acts me now w v s (hear_probe_reply me now c.args.from c.args.quorum c.args.first c.args.last) c.stay.result next.Stay (λ x. refl) c.stay.ensures
    (λ x b. laws.reply-elsewhere me now w v s x b c.args.from c.args.quorum c.args.first c.args.last (sym c.is_probing.ensures ∙ c.if-not-is_probing.true))

pub returns-then-reaches_floor-clause-plans : goal.returns-then-reaches_floor-clause-plans
returns-then-reaches_floor-clause-plans c =
    λ now.
    let here = c.args.here.now in
    let me = here.me.now in
    let v = here.view.now in
    let s = here.state.now in
    let w = readings_of here.stored.now in
    acts me now w v s (hear_probe_reply me now c.args.from c.args.quorum c.args.first c.args.last) c.planned.result (next.FullSync c.args.from) (λ x. refl) c.planned.ensures
    (λ x b. laws.reply-copied me now w v s x b c.args.from c.args.quorum c.args.first c.args.last (sym c.is_probing.ensures ∙ c.if-not-is_probing.false) (sym c.is_marked.ensures ∙ c.if-is_marked.true)
    (sym c.reaches_floor.ensures ∙ c.if-reaches_floor.true))

pub returns-then-is_marked-clause-plans : goal.returns-then-is_marked-clause-plans
returns-then-is_marked-clause-plans c =
    λ now.
    let here = c.args.here.now in
    let me = here.me.now in
    let v = here.view.now in
    let s = here.state.now in
    let w = readings_of here.stored.now in
    acts me now w v s (hear_probe_reply me now c.args.from c.args.quorum c.args.first c.args.last) c.stay-then-is_marked.result next.Stay (λ x. refl) c.stay-then-is_marked.ensures
    (λ x b. laws.reply-short me now w v s x b c.args.from c.args.quorum c.args.first c.args.last (sym c.is_probing.ensures ∙ c.if-not-is_probing.false) (sym c.is_marked.ensures ∙ c.if-is_marked.true)
    (sym c.reaches_floor.ensures ∙ c.if-reaches_floor.false))

pub returns-then-is_cut_off-clause-plans : goal.returns-then-is_cut_off-clause-plans
returns-then-is_cut_off-clause-plans c =
    λ now.
    let here = c.args.here.now in
    let me = here.me.now in
    let v = here.view.now in
    let s = here.state.now in
    let w = readings_of here.stored.now in
    acts me now w v s (hear_probe_reply me now c.args.from c.args.quorum c.args.first c.args.last) c.planned-then-is_cut_off.result (next.FullSync c.args.from) (λ x. refl) c.planned-then-is_cut_off.ensures
    (λ x b. laws.reply-cut_off me now w v s x b c.args.from c.args.quorum c.args.first c.args.last (sym c.is_probing.ensures ∙ c.if-not-is_probing.false) (sym c.is_marked.ensures ∙ c.if-is_marked.false)
    (sym c.is_cut_off.ensures ∙ c.if-is_cut_off.true))

pub returns-then-lags-clause-plans : goal.returns-then-lags-clause-plans
returns-then-lags-clause-plans c =
    λ now.
    let here = c.args.here.now in
    let me = here.me.now in
    let v = here.view.now in
    let s = here.state.now in
    let w = readings_of here.stored.now in
    acts me now w v s (hear_probe_reply me now c.args.from c.args.quorum c.args.first c.args.last) c.planned-then-lags.result (next.RecentSync c.args.from) (λ x. refl) c.planned-then-lags.ensures
    (λ x b. laws.reply-behind me now w v s x b c.args.from c.args.quorum c.args.first c.args.last (sym c.is_probing.ensures ∙ c.if-not-is_probing.false) (sym c.is_marked.ensures ∙ c.if-is_marked.false)
    (sym c.is_cut_off.ensures ∙ c.if-is_cut_off.false) (sym c.lags.ensures ∙ c.if-lags.true))

pub returns-then-is_quorum-clause-plans : goal.returns-then-is_quorum-clause-plans
returns-then-is_quorum-clause-plans c =
    λ now.
    let here = c.args.here.now in
    let me = here.me.now in
    let v = here.view.now in
    let s = here.state.now in
    let w = readings_of here.stored.now in
    acts me now w v s (hear_probe_reply me now c.args.from c.args.quorum c.args.first c.args.last) c.planned-then-is_quorum.result next.Elect (λ x. refl) c.planned-then-is_quorum.ensures
    (λ x b. laws.reply-quorum me now w v s x b c.args.from c.args.quorum c.args.first c.args.last (sym c.is_probing.ensures ∙ c.if-not-is_probing.false) (sym c.is_marked.ensures ∙ c.if-is_marked.false)
    (sym c.is_cut_off.ensures ∙ c.if-is_cut_off.false) (sym c.lags.ensures ∙ c.if-lags.false) (sym c.is_quorum.ensures ∙ c.if-is_quorum.true))

pub returns-then-is_majority-clause-plans : goal.returns-then-is_majority-clause-plans
returns-then-is_majority-clause-plans c =
    λ now.
    let here = c.args.here.now in
    let me = here.me.now in
    let v = here.view.now in
    let s = here.state.now in
    let w = readings_of here.stored.now in
    let f = c.args.from in
    let enough = ap (λ (q : List Bool). is_majority me.member.monitors q) c.with-outside.ensures in
    plans me now w v s (hear_probe_reply me now f c.args.quorum c.args.first c.args.last) c.planned-then-is_majority.result
    [] tt [] [] (record { outside = with_rank s.outside f }) next.Elect
    (c.planned-then-is_majority.ensures ∙ (λ i. plan_of [] [] [] (record { outside = c.with-outside.ensures i }) next.Elect))
    (λ x b. laws.reply-elects me now w v s x b f c.args.quorum c.args.first c.args.last (sym c.is_probing.ensures ∙ c.if-not-is_probing.false) (sym c.is_marked.ensures ∙ c.if-is_marked.false)
    (sym c.is_cut_off.ensures ∙ c.if-is_cut_off.false) (sym c.lags.ensures ∙ c.if-lags.false) (sym c.is_quorum.ensures ∙ c.if-is_quorum.false)
    (sym (c.is_majority.ensures ∙ enough) ∙ c.if-is_majority.true))

pub returns-clause-plans : goal.returns-clause-plans
returns-clause-plans c =
    λ now.
    let here = c.args.here.now in
    let me = here.me.now in
    let v = here.view.now in
    let s = here.state.now in
    let w = readings_of here.stored.now in
    let f = c.args.from in
    let enough = ap (λ (q : List Bool). is_majority me.member.monitors q) c.with-outside.ensures in
    plans me now w v s (hear_probe_reply me now f c.args.quorum c.args.first c.args.last) c.stay-2.result
    [] tt [] [] (record { outside = with_rank s.outside f }) next.Stay
    (c.stay-2.ensures ∙ (λ i. plan_of [] [] [] (record { outside = c.with-outside.ensures i }) next.Stay))
    (λ x b. laws.reply-waits me now w v s x b f c.args.quorum c.args.first c.args.last (sym c.is_probing.ensures ∙ c.if-not-is_probing.false) (sym c.is_marked.ensures ∙ c.if-is_marked.false)
    (sym c.is_cut_off.ensures ∙ c.if-is_cut_off.false) (sym c.lags.ensures ∙ c.if-lags.false) (sym c.is_quorum.ensures ∙ c.if-is_quorum.false)
    (sym (c.is_majority.ensures ∙ enough) ∙ c.if-is_majority.false))
