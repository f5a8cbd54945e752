use Rattle.std.proofs.Common.{length, List, ap, sym, subst, ◌∙◌}
use Rattle.election_rules.specs.declared.rule.Rule.TheVariants.{Classic}
use Rattle.schedule_text.specs.declared.event.Event.{Event}
use Rattle.schedule_text.specs.Encoding.{HasText}
use Rattle.schedule_made.specs.Made.{made_schedule}
use Rattle.schedule_made.proofs.MadeLaws.{length-made, made_has_text}
use Rattle.schedule_made.proofs.whole.made.Goals as goal

pub returns-clause-count : goal.returns-clause-count
unfolding made_schedule
returns-clause-count c = ap length c.in_ok-events.ensures ∙ length-made c.args.number c.args.events

pub returns-clause-text : goal.returns-clause-text
unfolding made_schedule
returns-clause-text c =
    subst (λ (events : List Event). HasText (record { monitors = 3; rule = Classic; events = events })) (sym c.in_ok-events.ensures)
    (made_has_text c.args.number c.args.events c.requires.most)
