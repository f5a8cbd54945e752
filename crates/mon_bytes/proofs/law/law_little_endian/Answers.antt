use Rattle.mon_bytes.proofs.LittleEndian.{little_bytes-little_number, little_number-below}
use Rattle.mon_bytes.proofs.law.law_little_endian.Goals as goal

pub returns-clause-back : goal.returns-clause-back
returns-clause-back c = little_bytes-little_number

pub returns-clause-range : goal.returns-clause-range
returns-clause-range c = little_number-below
