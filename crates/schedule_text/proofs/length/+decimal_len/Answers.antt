use Rattle.std.proofs.Common.{arith}
use Rattle.schedule_text.proofs.Lengths.{more_digits, at_most_20_digits}
use Rattle.schedule_text.proofs.length.+decimal_len.Goals as goal

pub returns-else-n-lt10-clause-most : goal.returns-else-n-lt10-clause-most
returns-else-n-lt10-clause-most t c =
    omega (arith, at_most_20_digits c.args.n (omega arith), more_digits c.args.n (omega arith) (omega arith))
