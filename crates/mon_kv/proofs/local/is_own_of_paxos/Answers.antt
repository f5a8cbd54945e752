use Rattle.mon_kv.proofs.LocalLaws.{own_of_paxos-row}
use Rattle.mon_kv.proofs.local.is_own_of_paxos.Goals as goal

pub returns : goal.returns
returns c =
    own_of_paxos-row c.args.next.now (c.args.prefix.now, c.args.key.now) _ _ _ _ _ _ c.is_named.ensures c.is_named-2.ensures c.is_named-3.ensures c.is_named-4.ensures c.is_named-5.ensures c.is_in.ensures
