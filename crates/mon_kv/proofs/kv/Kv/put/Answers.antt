use Rattle.std.proofs.Common.{◌≡◌, rules}
use Rattle.mon_kv.proofs.StoreLaws.{store-put}
use Rattle.mon_kv.proofs.kv.Kv.put.Goals as goal

pub returns : goal.returns
returns c =
    let is : c.new-value.result ≡ c.args.value.now = search rules in
    rw (← c.self.view_is, ← is) (store-put _ _ _ c.self.invariant.0 _ _ c.in_ok-freed.ensures.ok)
