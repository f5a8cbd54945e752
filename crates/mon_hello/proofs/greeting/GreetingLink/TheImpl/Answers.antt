use Rattle.std.proofs.Common.{rules}
use Rattle.mon_link.proofs.Layers.{above_on}
use Rattle.mon_hello.specs.Histories.{AnyOwn, GreetingDoes}
use Rattle.mon_hello.proofs.InTurn.{faults_after}
use Rattle.mon_hello.proofs.greeting.GreetingLink.TheImpl.Goals as goal

pub next-tells : goal.next-tells
next-tells g c =
    let counted = faults_after _ _ _ _ _ _ _ c.ensures.asks in
    record { calls = search (rules, counted); goes_on = above_on GreetingDoes AnyOwn _ _ _ _ _ c.ensures.does }

pub send-tells : goal.send-tells
send-tells g c = record { calls = search (rules, c.ensures.sends); goes_on = above_on GreetingDoes AnyOwn _ _ _ _ _ c.ensures.does }
