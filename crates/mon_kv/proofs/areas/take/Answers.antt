use Rattle.mon_kv.proofs.AreaLaws.{is_taken}
use Rattle.mon_kv.proofs.areas.take.Goals as goal

pub returns-then-exchange-clause-some : goal.returns-then-exchange-clause-some
returns-then-exchange-clause-some c =
    is_taken _ _ _ _ c.requires.prefix c.requires.whole (c.if-exchange.ensures.entries c.requires.whole.in_order) (c.if-exchange.ensures.value c.requires.whole.in_order)
