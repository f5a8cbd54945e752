use Rattle.quorum_model.specs.Monitors.{Monitors}
use Rattle.quorum_model.specs.Scenes.{Scene}
use Rattle.mon_world.specs.Represented.{RepresentsScene}
use Rattle.cephmon_run.specs.Summary.{AreNumbers, last_versions}
use Rattle.cephmon_run.proofs.summary.last_versions.Given as goal

abbrev pub invariant-loop-rank : goal.invariant-loop-rank
invariant-loop-rank l = (ms : Monitors) (c : Scene) → RepresentsScene ms l.world c → AreNumbers l.last.items (last_versions c l.rank)
