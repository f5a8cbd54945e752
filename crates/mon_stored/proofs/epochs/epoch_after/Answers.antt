use Rattle.std.proofs.Common.{sym, ap, ◌∙◌}
use Rattle.std.specs.List.{list_any}
use Rattle.mon_msg.specs.Protocol.Readings.{epoch_of, readings_of}
use Rattle.mon_tx.specs.Map.{Store}
use Rattle.mon_stored.specs.Epochs.{speaks_of_monitor}
use Rattle.mon_stored.proofs.EpochLaws.{epoch-kept}
use Rattle.mon_stored.proofs.epochs.epoch_after.Goals as goal

pub returns : goal.returns
returns c =
    c.epoch-3.ensures ∙ ap (λ (m : Store). epoch_of (readings_of m)) c.of.ensures
    ∙ epoch-kept c.args.tx.now c.args.kv.now
    (sym (ap (list_any speaks_of_monitor) c.ops.ensures.value) ∙ sym c.speak_of_monitor.ensures ∙ c.if-speak_of_monitor.false)
