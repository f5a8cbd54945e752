use Rattle.std.proofs.Common.{sym, ◌∙◌}
use Rattle.schedule_text.proofs.RankLaws.{sets_decided}
use Rattle.schedule_text.proofs.schedule.is_below.Goals as goal

pub returns : goal.returns
returns c =
    let d = sets_decided c.args.set c.below.result in
    (λ t. d.0 (sym c.eq.ensures ∙ t) ∙ c.below.ensures, λ e. c.eq.ensures ∙ d.1 (e ∙ sym c.below.ensures))
