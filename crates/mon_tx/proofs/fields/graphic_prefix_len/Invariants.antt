use Rattle.std.proofs.Common.{◌≡◌, ◌+◌, drop}
use Rattle.mon_tx.specs.Fields.{graphic_prefix_len}
use Rattle.mon_tx.proofs.fields.graphic_prefix_len.Given as goal

abbrev pub invariant-loop-i : goal.invariant-loop-i
invariant-loop-i l = l.i + graphic_prefix_len (drop l.i l.bytes) ≡ graphic_prefix_len l.bytes
