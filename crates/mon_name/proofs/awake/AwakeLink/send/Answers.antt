use Rattle.std.proofs.Common.{refl, sym, ◌∙◌, inr}
use Rattle.mon_link.specs.Histories.Happened.{WasSent}
use Rattle.mon_link.proofs.Layers.{grows_one}
use Rattle.mon_name.proofs.awake.AwakeLink.send.Goals as goal

pub returns-clause-does : goal.returns-clause-does
returns-clause-does g c =
    grows_one _ _ _ (WasSent c.args.to c.args.bytes.now c.send.result) c.send.ensures.goes_on
    (record { reads = c.read_clock.ensures.reads; does = inr (sym c.read_clock.ensures.stood ∙ c.if-read_clock.false, refl) })
