use Rattle.std.proofs.Common.{sym, arith}
use Rattle.mon_stored.proofs.Reading.{value-long}
use Rattle.mon_stored.proofs.records.value_in.Goals as goal

pub returns-then-bytes-gt-MOST_BEGUN-clause-value : goal.returns-then-bytes-gt-MOST_BEGUN-clause-value
returns-then-bytes-gt-MOST_BEGUN-clause-value c = sym (value-long c.args.bytes.now (λ i. omega (arith, c.type_inv.bytes i)) (omega arith))
