use Rattle.std.proofs.Common.{◌≡◌, List, map, codes, rules, ap, ap₂, ◌∙◌}
use Rattle.std.proofs.lemmas.Result.{IfOk-weaker}
use Rattle.clap.specs.Words.{App, Text}
use Rattle.task_words.specs.Commands.{made_texts, no_texts, node_texts, with_texts}
use Rattle.task_words.proofs.Building.{plain_is}
use Rattle.task_words.proofs.command.first_commands.Goals as goal

pub returns : goal.returns
returns c =
    let plain = plain_is c.new.result c.no_binary_name.result c.disable_help_flag.result c.disable_help_subcommand.result c.disable_version_flag-plain.result c.new.ensures.app
    c.no_binary_name.ensures c.disable_help_flag.ensures c.disable_help_subcommand.ensures c.disable_version_flag-plain.ensures in
    let made_are : map (λ t. t.now) c.as_slice.result.now ≡ made_texts = search rules in
    let node_are : map (λ t. t.now) c.as_slice-2.result.now ≡ node_texts = search rules in
    let replay = c.in_ok-replay.ensures ∙ ap (λ (a : App). with_texts a (codes "replay") no_texts) plain in
    let made = c.in_ok-made.ensures ∙ ap₂ (λ (a : App) (ts : List Text). with_texts a (codes "made") ts) replay made_are in
    IfOk-weaker c.with_texts-3.result _ _
    (λ r is. is ∙ ap₂ (λ (a : App) (ts : List Text). with_texts a (codes "node") ts) made node_are)
    c.with_texts-3.ensures
