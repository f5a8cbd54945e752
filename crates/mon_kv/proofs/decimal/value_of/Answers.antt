use Rattle.mon_kv.proofs.Numerals.{too_great}
use Rattle.mon_kv.proofs.decimal.value_of.Goals as goal

pub returns-in-Err-clause-none : goal.returns-in-Err-clause-none
returns-in-Err-clause-none c = too_great c.args.digits.now c.parse.result c.in-Err.field-0 c.requires c.parse.ensures.value.0 c.in-Err.is
