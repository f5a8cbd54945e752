use Rattle.std.proofs.Common.{rules}
use Rattle.mon_link.proofs.Layers.{above_on}
use Rattle.mon_name.specs.Histories.{AwakeDoes, NotStood}
use Rattle.mon_name.proofs.awake.AwakeLink.TheImpl.Goals as goal

pub next-tells : goal.next-tells
next-tells g c = record { calls = search rules; goes_on = above_on AwakeDoes NotStood _ _ _ _ _ c.ensures.does }

pub send-tells : goal.send-tells
send-tells g c = record { calls = search rules; goes_on = above_on AwakeDoes NotStood _ _ _ _ _ c.ensures.does }
