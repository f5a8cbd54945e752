use Rattle.mon_link.proofs.Layers.{above_on}
use Rattle.mon_watch.specs.Histories.{NothingNoted, WatchedDoes}
use Rattle.cephmon_links.proofs.living.MonitorLivesLink.next.Goals as goal

pub returns-clause-goes_on : goal.returns-clause-goes_on
returns-clause-goes_on c = above_on WatchedDoes NothingNoted _ _ _ _ _ c.next.ensures.does
