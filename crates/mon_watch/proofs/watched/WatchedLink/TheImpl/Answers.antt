use Rattle.std.proofs.Common.{rules}
use Rattle.mon_link.proofs.Layers.{above_on}
use Rattle.mon_watch.specs.Histories.{NothingNoted, WatchedDoes}
use Rattle.mon_watch.proofs.watched.WatchedLink.TheImpl.Goals as goal

pub next-tells : goal.next-tells
next-tells g c = record { calls = search rules; goes_on = above_on WatchedDoes NothingNoted _ _ _ _ _ c.ensures.does }

pub send-tells : goal.send-tells
send-tells g c = record { calls = search rules; goes_on = above_on WatchedDoes NothingNoted _ _ _ _ _ c.ensures.does }
