use Rattle.std.proofs.Common.{◌≡◌, ◌+◌, ◌≤◌, ◌^◌, true, drop}
use Rattle.svc_core.specs.Cache.{after_ops}
use Rattle.svc_core.proofs.progress.changes.Given as goal

abbrev pub invariant-loop-op : goal.invariant-loop-op
invariant-loop-op l = record {
  so_far : after_ops l.service (drop l.op-index l.ops) l.progress ≡ after_ops l.service l.ops l.fn.progress;
  version : l.progress.version ≤ 2 ^ 62 + l.op-index;
  fits : l.progress.version_written ≡ true → l.progress.version ≤ 2 ^ 62;
}
