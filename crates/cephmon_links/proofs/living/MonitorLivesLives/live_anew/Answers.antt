use Rattle.std.proofs.Common.{ℕ, refl, ap}
use Rattle.mon_hello.specs.Histories.{AnyOwn, GreetingDoes}
use Rattle.mon_link.proofs.Layers.{above_new}
use Rattle.mon_link.specs.Histories.{Leads}
use Rattle.mon_link.specs.Links.{unseen}
use Rattle.mon_name.specs.Histories.{AnyNames, AwakeDoes, NamedDoes, NotStood, names}
use Rattle.mon_resend.specs.Histories.{NothingKept, ResendingDoes}
use Rattle.mon_watch.specs.Histories.{NothingNoted, WatchedDoes, watching}
use Rattle.cephmon_links.proofs.living.MonitorLivesLives.live_anew.Goals as goal

pub returns-clause-fresh : goal.returns-clause-fresh
returns-clause-fresh c =
    let awake = c.reopen.new.self in
    let socket = awake.inner.inner.inner in
    let greeted = above_new GreetingDoes AnyOwn (λ h. (before : ℕ) × Leads h (unseen before) (unseen socket.faults)) awake.inner.inner.own (socket.faults, refl) tt in
    let framed = above_new NamedDoes AnyNames _ (names awake.inner.tag c.in-Ok.life) greeted tt in
    let awoken = above_new AwakeDoes NotStood _ awake.gaps framed (ap (λ g. g.stood) c.reopen.ensures.gaps) in
    let resent = above_new ResendingDoes NothingKept _ c.forget-2.new.self.copies awoken c.forget-2.ensures.copies in
    above_new WatchedDoes NothingNoted _ (watching c.forget.new.self.watch.member c.forget.new.self.notes) resent c.forget.ensures.notes
