use Rattle.std.proofs.Common.{rules}
use Rattle.mon_link.proofs.Layers.{above_on}
use Rattle.mon_name.specs.Histories.{AnyNames, NamedDoes}
use Rattle.mon_name.proofs.Past.{unframes_faults}
use Rattle.mon_name.proofs.named.NamedLink.TheImpl.Goals as goal

pub next-tells : goal.next-tells
next-tells g c =
    let faults = unframes_faults _ _ _ _ _ c.ensures.asks in
    record { calls = search (rules, faults); goes_on = above_on NamedDoes AnyNames _ _ _ _ _ c.ensures.does }

pub send-tells : goal.send-tells
send-tells g c = record { calls = search (rules, c.ensures.sends); goes_on = above_on NamedDoes AnyNames _ _ _ _ _ c.ensures.does }
