use Rattle.task_words.proofs.Given.{text_found}
use Rattle.task_words.proofs.matched.text_in.Goals as goal

pub returns : goal.returns
returns c = text_found c.args.found.now c.args.id.now c.get_str.result c.ok_or.result c.get_str.ensures c.ok_or.ensures.value
