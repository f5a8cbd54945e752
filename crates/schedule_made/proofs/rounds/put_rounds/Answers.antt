use Rattle.std.proofs.Common.{◌++◌}
use Rattle.schedule_made.specs.Made.{rounds}
use Rattle.schedule_made.proofs.Steps.{rounds_step, rounds_end}
use Rattle.schedule_made.proofs.rounds.put_rounds.Goals as goal

pub loop-j-preserved : goal.loop-j-preserved
loop-j-preserved c =
    rounds_step c.args.most (c.args.events.now.items ++ rounds c.args.most 0 c.args.generator.now) c.loop-j.events.items
    c.loop-j.j c.put_round.new.events.items c.loop-j.generator c.put_round.new.generator c.loop-j-test.true c.loop-j.invariant
    c.in_ok-put_round.ensures.value c.in_ok-put_round.ensures.after

pub returns : goal.returns
returns c =
    rounds_end c.args.most (c.args.events.now.items ++ rounds c.args.most 0 c.args.generator.now) c.loop-j.events.items
    c.loop-j.j c.loop-j.generator c.loop-j-test.false c.loop-j.invariant
