use Rattle.std.proofs.Common.{◌≡◌, ap, ◌∙◌}
use Rattle.mon_kv.specs.Readers.{is_marked}
use Rattle.mon_msg.specs.Protocol.Readings.{readings_of}
use Rattle.mon_tx.specs.Map.{Store, apply}
use Rattle.quorum_model.specs.Growth.{last_of}
use Rattle.mon_world.proofs.crash.written_by.Goals as goal

pub returns : goal.returns
unfolding readings_of
returns c =
    let left = apply c.args.tx.now c.args.store.now.kv in
    let is = c.in_ok-stored.ensures ∙ ap (apply c.args.tx.now) c.kv.ensures in
    let last : c.last.result ≡ last_of left = c.last.ensures.value ∙ ap (λ (m : Store). (readings_of m).last) is in
    let marked : c.is_marked.result ≡ is_marked left = c.is_marked.ensures ∙ ap (λ (m : Store). (readings_of m).marked) is in λ i. record { last = last i; marked = marked i }
