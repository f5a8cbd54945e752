use Rattle.std.proofs.Common.{sym, ◌∙◌}
use Rattle.mon_msg.specs.Protocol.Elections.{election_ends}
use Rattle.mon_elector.proofs.Known.{stays, elects}
use Rattle.mon_elector.proofs.AckLaws as laws
use Rattle.mon_elector.proofs.acks.election_ends.Goals as goal

pub returns-then-not-is_electing-clause-plans : goal.returns-then-not-is_electing-clause-plans
returns-then-not-is_electing-clause-plans c =
    let here = c.args.here.now in
    stays here (election_ends here.me.now here.time) c.stay.result c.stay.ensures
    (λ x b. laws.ends-elsewhere here x b (sym c.is_electing.ensures ∙ c.if-not-is_electing.true))

pub returns-then-may_win-clause-plans : goal.returns-then-may_win-clause-plans
returns-then-may_win-clause-plans c =
    let here = c.args.here.now in
    let s = here.state.now in
    laws.won here s s.acked (election_ends here.me.now here.time) c.win.result c.win.ensures.wins
    (λ x b. laws.ends-wins here x b (sym c.is_electing.ensures ∙ c.if-not-is_electing.false) (sym c.may_win.ensures ∙ c.if-may_win.true))

pub returns-clause-plans : goal.returns-clause-plans
returns-clause-plans c =
    let here = c.args.here.now in
    elects here (election_ends here.me.now here.time) c.planned.result c.planned.ensures
    (λ x b. laws.ends-elects here x b (sym c.is_electing.ensures ∙ c.if-not-is_electing.false) (sym c.may_win.ensures ∙ c.if-may_win.false))
