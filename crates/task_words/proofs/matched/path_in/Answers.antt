use Rattle.std.proofs.Common.{◌∙◌}
use Rattle.task_words.proofs.Given.{path_given}
use Rattle.task_words.proofs.matched.path_in.Goals as goal

pub returns : goal.returns
returns c = λ path found.
    path_given path c.as_bytes.result.now c.in-Ok.bytes.items c.new.result c.ok_or.result (c.as_bytes.ensures.value ∙ c.in_ok-text.ensures path found) c.as_bytes.ensures.utf8
    c.in-Ok.ensures.items c.new.ensures.valid c.new.ensures.value c.ok_or.ensures.value
