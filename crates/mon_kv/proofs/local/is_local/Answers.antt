use Rattle.std.proofs.Common.{◌≡◌, ◌+◌, ap, ◌∙◌, arith}
use Rattle.mon_tx.specs.Keys.{decimal_text}
use Rattle.mon_tx.proofs.Decimals.{decimal_is}
use Rattle.mon_kv.specs.Chunks.{own_of_paxos}
use Rattle.mon_kv.proofs.LocalLaws.{is_local-row}
use Rattle.mon_kv.proofs.local.is_local.Goals as goal

pub returns : goal.returns
returns c =
    let next : c.as_bytes.result.now ≡ decimal_text (c.args.last + 1) = c.as_bytes.ensures.value ∙ c.format.ensures.text ∙ decimal_is (c.args.last + 1) (omega (arith, c.requires)) in
    is_local-row c.args.last (c.args.prefix.now, c.args.key.now) _ _ _ _ _ (c.is_own_of_paxos.ensures ∙ ap (λ n. own_of_paxos n (c.args.prefix.now, c.args.key.now)) next) c.is_named.ensures c.is_named-2.ensures c.is_named-3.ensures c.is_named-4.ensures
