use Rattle.std.proofs.Common.{arith}
use Rattle.task_words.proofs.Building.{stays_local, text_added}
use Rattle.task_words.proofs.command.subcommand.Goals as goal

pub loop-text-preserved : goal.loop-text-preserved
loop-text-preserved c = record {
  so_far = text_added c.loop-text.command c.in_ok-command.command c.args.name.now c.args.texts.now c.loop-text.text-index _ c.new.result c.required.result (omega arith)
      c.loop-text.invariant.so_far c.new.ensures.rule c.new.ensures.optional.1 c.required.ensures c.in_ok-command.ensures;
  local = stays_local c.loop-text.command c.in_ok-command.command c.new.result c.required.result c.loop-text.invariant.local c.new.ensures.optional.1 c.required.ensures
      c.in_ok-command.ensures;
}
