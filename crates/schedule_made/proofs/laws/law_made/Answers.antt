use Rattle.schedule_made.proofs.MadeLaws.{length-made, made_has_text, made_again}
use Rattle.schedule_made.proofs.laws.law_made.Goals as goal

pub returns-clause-count : goal.returns-clause-count
returns-clause-count c = λ number events most. length-made number events

pub returns-clause-text : goal.returns-clause-text
returns-clause-text c = made_has_text

pub returns-clause-again : goal.returns-clause-again
returns-clause-again c = made_again
