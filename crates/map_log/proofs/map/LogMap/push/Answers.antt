use Rattle.std.proofs.Common.{ap, arith}
use Rattle.map_log.specs.Text.{size_of}
use Rattle.map_log.proofs.Lengths.{each-append, size_of-append}
use Rattle.map_log.proofs.map.LogMap.push.Goals as goal

pub invariant_of-self-2 : goal.invariant_of-self-2
invariant_of-self-2 c =
    let es = c.self.inside.entries.items in
    record {
      each = rw c.in_ok-push.ensures.items (each-append es c.args.inc c.self.invariant.each (c.inc_size.ensures.rank, c.inc_size.ensures.text));
      sum = omega (arith, ap size_of c.in_ok-push.ensures.items, size_of-append es c.args.inc, c.inc_size.ensures.size, c.self.invariant.sum);
      most = omega (arith, c.if-size-gt-GREATEST.false);
    }
