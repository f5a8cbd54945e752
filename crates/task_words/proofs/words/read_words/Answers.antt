use Rattle.std.proofs.Common.{map, string_bytes, ◌∙◌}
use Rattle.clap.specs.Words.{app_of}
use Rattle.task_words.specs.Task.{IsAsked}
use Rattle.task_words.proofs.Reading.{is_taken, reads, told}
use Rattle.task_words.proofs.words.read_words.Goals as goal

pub unreachable-requires : goal.unreachable-requires
unreachable-requires c =
    let asked = told c.is_asked.result (IsAsked c.args.words.now) c.is_asked.ensures c.if-not-is_asked.false in
    c.in_default-kind.not-OutOfMemory
    (c.kind.ensures ∙ c.in-Err.ensures.passes (is_taken (app_of c.in-Ok.command) asked.0 (map string_bytes c.args.words.now) c.in-Ok.ensures asked.1))

pub returns-in-Ok-try_get_matches_from : goal.returns-in-Ok-try_get_matches_from
returns-in-Ok-try_get_matches_from c =
    reads c.args.words.now c.is_asked.result c.task_in.result (app_of c.in-Ok.command) c.in-Ok-try_get_matches_from.matches c.is_asked.ensures c.if-not-is_asked.false c.in-Ok.ensures
    c.in-Ok-try_get_matches_from.ensures.matches c.task_in.ensures
