use Rattle.std.proofs.Common.{◌≡◌, map, take}
use Rattle.serde_json.specs.View.{view}
use Rattle.mon_watch.specs.Reports.{count}
use Rattle.mon_watch.proofs.report.counts.Given as goal

abbrev pub invariant-loop-number : goal.invariant-loop-number
invariant-loop-number l = map view l.values.items ≡ map count (take l.number-index l.numbers)
