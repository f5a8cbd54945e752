use Rattle.std.proofs.Common.{[]}
use Rattle.mon_frag.proofs.Standing.{answered_whole}
use Rattle.mon_frag.proofs.law.law_whole.Goals as goal

pub returns : goal.returns
returns c = λ q sent came are is. answered_whole q sent are [] came tt is
