use Rattle.std.proofs.Common.{◌≡◌, ap, ◌∙◌, refl}
use Rattle.mon_msg.specs.Protocol.Readings.{epoch_of, readings_of}
use Rattle.mon_msg.specs.Protocol.State.{State}
use Rattle.mon_tx.specs.Map.{Store}
use Rattle.quorum_model.specs.Growth.{last_of}
use Rattle.mon_world.proofs.monitor.Running.state.Goals as goal

last_is : (m : Store) → (readings_of m).last ≡ last_of m
unfolding readings_of
last_is m = refl

pub returns : goal.returns
returns c me m s f up =
    let kv : c.of-stored.result ≡ m = c.of-stored.ensures ∙ c.kv.ensures ∙ up.runs.map in
    λ i. record {
      phase = (c.phase.ensures ∙ ap (λ (s : State). s.phase) up.state) i;
      epoch = (c.epoch.ensures ∙ ap (λ (m : Store). epoch_of (readings_of m)) kv) i;
      last = (c.last.ensures.value ∙ last_is c.of-stored.result ∙ ap last_of kv) i;
    }
