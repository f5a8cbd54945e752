use Rattle.std.proofs.Common.{arith, ◌∙◌}
use Rattle.mon_stored.proofs.Reading.{counts-long, counts-short}
use Rattle.mon_stored.proofs.records.counts.Goals as goal

pub returns-then-value-gt-MOST_PROPOSED : goal.returns-then-value-gt-MOST_PROPOSED
returns-then-value-gt-MOST_PROPOSED c = counts-long c.args.value.now (λ i. omega (arith, c.type_inv.value i)) (omega arith)

pub returns : goal.returns
returns c = λ v pn. c.is_text.ensures ∙ counts-short c.args.value.now (λ i. omega (arith, c.type_inv.value i)) (omega arith) v pn
