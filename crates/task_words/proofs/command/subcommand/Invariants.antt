use Rattle.std.proofs.Common.{◌≡◌, false, map, take}
use Rattle.clap.specs.Words.{app_of, new_app}
use Rattle.clap.specs.declared.builder.command.Command.TheViews.{out-Command}
use Rattle.task_words.specs.Commands.{with_required}
use Rattle.task_words.proofs.command.subcommand.Given as goal

abbrev pub invariant-loop-text : goal.invariant-loop-text
invariant-loop-text l = record {
  so_far : app_of l.command ≡ with_required (new_app l.name) (map (λ t. t.now) (take l.text-index l.texts));
  local : (out-Command l.command).has_globals ≡ false;
}
