use Rattle.mon_msg.proofs.Joining.{apply-joined}
use Rattle.mon_msg.proofs.PutOnce.{put_once}
use Rattle.mon_msg.proofs.laws.law_joined.Goals as goal

pub returns : goal.returns
returns c = record { same = apply-joined; once = put_once }
