use Rattle.std.proofs.Common.{codes, ap, ◌∙◌}
use Rattle.std.proofs.lemmas.Result.{IfOk-weaker}
use Rattle.clap.specs.Words.{App}
use Rattle.task_words.specs.Commands.{follow_texts, no_texts, store_texts, versions_texts, with_texts}
use Rattle.task_words.proofs.command.command.Goals as goal

pub returns : goal.returns
returns c =
    let follow = c.in_ok-follow.ensures ∙ ap (λ (a : App). with_texts a (codes "follow") follow_texts) c.in_ok-first.ensures in
    let scrub = c.in_ok-scrub.ensures ∙ ap (λ (a : App). with_texts a (codes "scrub") store_texts) follow in
    let compare = c.in_ok-compare.ensures ∙ ap (λ (a : App). with_texts a (codes "scrub-compare") no_texts) scrub in
    let keys = c.in_ok-keys.ensures ∙ ap (λ (a : App). with_texts a (codes "dump-keys") store_texts) compare in
    let versions = c.in_ok-versions.ensures ∙ ap (λ (a : App). with_texts a (codes "dump-paxos") versions_texts) keys in
    let export = c.in_ok-export.ensures ∙ ap (λ (a : App). with_texts a (codes "store-export") store_texts) versions in
    IfOk-weaker c.with_store-4.result _ _ (λ r is. is ∙ ap (λ (a : App). with_texts a (codes "store-import") store_texts) export) c.with_store-4.ensures
