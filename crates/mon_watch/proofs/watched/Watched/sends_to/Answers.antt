use Rattle.std.proofs.Common.{refl}
use Rattle.mon_link.specs.Histories.Happened.{WasSent}
use Rattle.mon_link.specs.declared.link.Peer.TheVariants.{Client}
use Rattle.mon_link.proofs.Layers.{grows_one}
use Rattle.mon_watch.proofs.watched.Watched.sends_to.Goals as goal

pub returns-clause-grows : goal.returns-clause-grows
returns-clause-grows g c =
    grows_one _ _ _ (WasSent (Client c.args.client) c.args.bytes.now c.send.result) c.send.ensures.goes_on (c.send.result, refl, c.after_send.ensures.after)
