use Rattle.std.proofs.Common.{rules}
use Rattle.mon_link.proofs.Layers.{above_on}
use Rattle.mon_resend.specs.Histories.{NothingKept, ResendingDoes}
use Rattle.mon_resend.proofs.resending.ResendingLink.TheImpl.Goals as goal

pub next-tells : goal.next-tells
next-tells g c = record { calls = search rules; goes_on = above_on ResendingDoes NothingKept _ _ _ _ _ c.ensures.does }

pub send-tells : goal.send-tells
send-tells g c = record { calls = search rules; goes_on = above_on ResendingDoes NothingKept _ _ _ _ _ c.ensures.does }
