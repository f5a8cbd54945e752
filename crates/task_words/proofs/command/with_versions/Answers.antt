use Rattle.std.proofs.Common.{◌≡◌, List, map, codes, rules, ap, ◌∙◌}
use Rattle.std.proofs.lemmas.Result.{IfOk-weaker}
use Rattle.clap.specs.Words.{Text, app_of}
use Rattle.task_words.specs.Commands.{versions_texts, with_texts}
use Rattle.task_words.proofs.command.with_versions.Goals as goal

pub returns : goal.returns
returns c =
    let texts_are : map (λ t. t.now) c.as_slice.result.now ≡ versions_texts = search rules in
    IfOk-weaker c.with_texts.result _ _
    (λ r is. is ∙ ap (λ (ts : List Text). with_texts (app_of c.args.command) (codes "dump-paxos") ts) texts_are)
    c.with_texts.ensures
