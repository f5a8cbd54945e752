use Rattle.std.proofs.Common.{◌≡◌, ◌∷◌, ◌++◌, length, take}
use Rattle.std.specs.List.{flat_map, AllByRecursion}
use Rattle.byteorder.specs.Endian.{little_bytes}
use Rattle.mon_tx.specs.Text.{op_text, format}
use Rattle.mon_tx.specs.Decode.{OpFits}
use Rattle.mon_tx.proofs.encode.put_ops.Given as goal

abbrev pub invariant-loop-op : goal.invariant-loop-op
invariant-loop-op l = record {
  text : l.out ≡ l.fn.out ++ (format l.ops ∷ little_bytes 4 (length l.ops) ++ flat_map op_text (take l.op-index l.ops));
  fits : AllByRecursion OpFits (take l.op-index l.ops);
}
