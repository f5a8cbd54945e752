use Rattle.mon_link.proofs.Layers.{above_new}
use Rattle.mon_hello.specs.Histories.{AnyOwn, GreetingDoes}
use Rattle.mon_name.specs.Histories.{AnyNames, AwakeDoes, NamedDoes, NotStood, names}
use Rattle.mon_resend.specs.Histories.{NothingKept, ResendingDoes}
use Rattle.mon_watch.specs.Histories.{NothingNoted, WatchedDoes, watching}
use Rattle.stack_laws.proofs.law.law_new_stack.Goals as goal

pub returns : goal.returns
returns g c = λ below notes copies stood.
    let l = c.args.link.now in
    let named = l.inner.inner.inner in
    let greeting = above_new GreetingDoes AnyOwn _ named.inner.own below tt in
    let framed = above_new NamedDoes AnyNames _ (names named.tag named.life) greeting tt in
    let awake = above_new AwakeDoes NotStood _ l.inner.inner.gaps framed stood in
    let resent = above_new ResendingDoes NothingKept _ l.inner.copies awake copies in
    above_new WatchedDoes NothingNoted _ (watching l.watch.member l.notes) resent notes
