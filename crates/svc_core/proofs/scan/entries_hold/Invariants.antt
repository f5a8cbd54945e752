use Rattle.svc_core.proofs.Scans.{IsScanned}
use Rattle.svc_core.proofs.scan.entries_hold.Given as goal

abbrev pub invariant-loop : goal.invariant-loop
invariant-loop l = IsScanned l.count l.fn.cursor l.key l.counter l.before l.cursor l.held
