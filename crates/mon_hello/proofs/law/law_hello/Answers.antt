use Rattle.mon_hello.proofs.Lengths.{hello_short}
use Rattle.mon_hello.proofs.Whole.{answer_ends, hello_again, hello_only}
use Rattle.mon_hello.proofs.law.law_hello.Goals as goal

pub returns : goal.returns
returns c = record { back = hello_again; only = hello_only; short = hello_short; ends = answer_ends }
