use Rattle.std.proofs.Common.{sym, subst}
use Rattle.mon_world.specs.Monitor.{files_kept}
use Rattle.mon_world.specs.Stops.{IsntKept}
use Rattle.mon_world.proofs.Stopping.{can_stop, isnt_kept}
use Rattle.mon_world.proofs.Passing.{while_passes}
use Rattle.mon_world.proofs.monitor.keep.Goals as goal

pub stop_of-requires : goal.stop_of-requires
stop_of-requires c =
    let x = c.requires.runs in
    can_stop x.1 c.args.tx.now c.in-Err.stop c.requires.short (c.in-Err.ensures.applies x.0 x.1 x.2 x.3)

pub returns-in-Ok-clause-keeps : goal.returns-in-Ok-clause-keeps
unfolding files_kept
returns-in-Ok-clause-keeps c member m f runs = c.in-Ok.ensures.applies member m f runs

pub returns-in-Err-clause-keeps : goal.returns-in-Err-clause-keeps
returns-in-Err-clause-keeps c member m f runs =
    let ops = c.args.tx.now in
    let e = c.in-Err.stop in
    let at = c.in-Err.ensures.applies member m f runs in
    subst (IsntKept ops m) (sym c.stop_of.ensures) (isnt_kept m ops e (can_stop m ops e c.requires.short at) at)

pub returns-in-Ok-clause-passes : goal.returns-in-Ok-clause-passes
returns-in-Ok-clause-passes c member m f runs = while_passes _ _ _ _ _ (c.in-Ok.ensures.any_time member m f runs)

pub returns-in-Err-clause-passes : goal.returns-in-Err-clause-passes
returns-in-Err-clause-passes c member m f runs = while_passes _ _ _ _ _ (c.in-Err.ensures.any_time member m f runs)
