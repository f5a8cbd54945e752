use Rattle.schedule_text.specs.Words.{service_text}
use Rattle.task_words.proofs.Given.{service_given}
use Rattle.task_words.proofs.matched.service_found.Goals as goal

pub returns : goal.returns
returns c = λ service found.
    service_given c.in_ok-text.text.now c.service_in.result c.ok_or.result service c.service_in.ensures c.ok_or.ensures.value (c.in_ok-text.ensures (service_text service) found)
