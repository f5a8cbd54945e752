-- A transaction has no more changes than its text has bytes.
use Rattle.std.proofs.Common.{◌≡◌, ◌+◌, ◌≤◌, List, [], ◌∷◌, length, arith, length-append}
use Rattle.std.specs.List.{flat_map}
use Rattle.mon_tx.specs.declared.op.Op.{Op}
use Rattle.mon_tx.specs.declared.op.Op.TheVariants.{Put, Erase, ErasePrefix, EraseRange}
use Rattle.mon_tx.specs.Text.{op_text, text, most}

text_parts : (ops : List Op) → length (text ops) ≡ 5 + length (flat_map op_text ops)
text_parts ops = simp length-append (omega arith)

some_text : (op : Op) → 1 ≤ length (op_text op)
some_text (Put prefix k value) = omega arith
some_text (Erase prefix k) = omega arith
some_text (ErasePrefix prefix) = omega arith
some_text (EraseRange prefix from to) = omega arith

few_parts : (ops : List Op) → length ops ≤ length (flat_map op_text ops)
few_parts [] = omega arith
few_parts (op ∷ ops) = omega (arith, some_text op, length-append (op_text op) (flat_map op_text ops), few_parts ops)

pub few : (ops : List Op) → length (text ops) ≤ most → length ops ≤ most
few ops short = omega (arith, text_parts ops, few_parts ops)
