use Rattle.std.proofs.Common.{ap, length, arith}
use Rattle.std.specs.FinMap.{insert}
use Rattle.map_kv.specs.Text.{map_text}
use Rattle.map_kv.proofs.Kept.{length-inserted}
use Rattle.map_kv.proofs.map.KvMap.size_with.Goals as goal

pub overflow_sub-result : goal.overflow_sub-result
overflow_sub-result c = omega (arith, length-inserted c.args.self.now c.as_str-key.result.now c.args.value.now, c.size.ensures, c.entry_size.ensures, c.held.ensures)

pub returns-clause-size : goal.returns-clause-size
returns-clause-size c =
    let named = ap (λ k. length (map_text (insert c.args.self.now k c.args.value.now))) c.as_str-key.ensures.value in
    omega (arith, named, length-inserted c.args.self.now c.as_str-key.result.now c.args.value.now, c.size.ensures, c.entry_size.ensures, c.held.ensures)
