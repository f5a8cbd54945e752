use Rattle.std.proofs.Common.{◌+◌, ◌^◌, [], ◌∷◌, min, sym, ◌∙◌}
use Rattle.mon_msg.specs.Protocol.Changes.{Epoch}
use Rattle.mon_msg.specs.Protocol.Elections.{hear_victory}
use Rattle.mon_msg.specs.declared.plan.Arming.TheVariants as arming
use Rattle.mon_msg.specs.declared.plan.Next.TheVariants as next
use Rattle.mon_wire.specs.declared.phase.Timer.TheVariants as timer
use Rattle.mon_elector.proofs.Known.{plan_of, stays, plans}
use Rattle.mon_elector.proofs.VictoryLaws as laws
use Rattle.mon_elector.proofs.victories.hear_victory.Goals as goal

pub returns-then-is_deaf_to_winners-clause-plans : goal.returns-then-is_deaf_to_winners-clause-plans
returns-then-is_deaf_to_winners-clause-plans c =
    let here = c.args.here.now in
    stays here (hear_victory here.me.now here.time c.args.from c.args.epoch c.args.quorum) c.stay.result c.stay.ensures
    (λ x b. laws.victory-deaf here x b c.args.from c.args.epoch c.args.quorum (sym c.is_deaf_to_winners.ensures ∙ c.if-is_deaf_to_winners.true))

pub returns-then-is_reached-clause-plans : goal.returns-then-is_reached-clause-plans
returns-then-is_reached-clause-plans c =
    let here = c.args.here.now in
    stays here (hear_victory here.me.now here.time c.args.from c.args.epoch c.args.quorum) c.stay-then-is_reached.result c.stay-then-is_reached.ensures
    (λ x b. laws.victory-reached here x b c.args.from c.args.epoch c.args.quorum (sym c.is_deaf_to_winners.ensures ∙ c.if-is_deaf_to_winners.false) (sym c.is_reached.ensures ∙ c.if-is_reached.true))

pub returns-then-not-is_next-clause-plans : goal.returns-then-not-is_next-clause-plans
returns-then-not-is_next-clause-plans c =
    let here = c.args.here.now in
    let me = here.me.now in
    let s = here.state.now in
    let e = c.args.epoch in
    plans here (hear_victory me here.time c.args.from e c.args.quorum) c.in_ok-enter_epoch.field-0
    (Epoch e ∷ []) (c.in_ok-enter_epoch.ensures.fit, tt) [] [] s next.Elect c.in_ok-enter_epoch.ensures.plan
    (λ x b. laws.victory-later here x b c.args.from e c.args.quorum (sym c.is_deaf_to_winners.ensures ∙ c.if-is_deaf_to_winners.false) (sym c.is_reached.ensures ∙ c.if-is_reached.false) (sym c.is_next.ensures ∙ c.if-not-is_next.true))

pub returns-then-not-may_follow-clause-plans : goal.returns-then-not-may_follow-clause-plans
returns-then-not-may_follow-clause-plans c =
    let here = c.args.here.now in
    stays here (hear_victory here.me.now here.time c.args.from c.args.epoch c.args.quorum) c.stay-then-not-may_follow.result c.stay-then-not-may_follow.ensures
    (λ x b. laws.victory-dropped here x b c.args.from c.args.epoch c.args.quorum (sym c.is_deaf_to_winners.ensures ∙ c.if-is_deaf_to_winners.false) (sym c.is_reached.ensures ∙ c.if-is_reached.false) (sym c.is_next.ensures ∙ c.if-not-is_next.false)
    (sym c.may_follow.ensures ∙ c.if-not-may_follow.true))

pub returns-clause-plans : goal.returns-clause-plans
returns-clause-plans c =
    let here = c.args.here.now in
    let me = here.me.now in
    let s = here.state.now in
    let e = c.args.epoch in
    plans here (hear_victory me here.time c.args.from e c.args.quorum) c.in_ok-enter_epoch_until.field-0
    (Epoch e ∷ []) (c.in_ok-enter_epoch_until.ensures.fit, tt) [] (arming.Arm timer.Lease (min (here.time + 10000) (2 ^ 62)) ∷ []) s (next.Follow c.args.from c.args.quorum)
    (c.in_ok-enter_epoch_until.ensures.plan ∙ (λ i. plan_of (Epoch e ∷ []) [] (c.armed-arming.ensures i ∷ []) s (next.Follow c.args.from c.args.quorum)))
    (λ x b. laws.victory-followed here x b c.args.from e c.args.quorum (sym c.is_deaf_to_winners.ensures ∙ c.if-is_deaf_to_winners.false) (sym c.is_reached.ensures ∙ c.if-is_reached.false) (sym c.is_next.ensures ∙ c.if-not-is_next.false)
    (sym c.may_follow.ensures ∙ c.if-not-may_follow.false))
