use Rattle.std.proofs.Common.{sym, ap, ◌∙◌}
use Rattle.mon_kv.specs.Areas.{under}
use Rattle.mon_kv.proofs.AreaLaws.{changes_without, size_prefix, size_prefix_none}
use Rattle.mon_kv.proofs.areas.erase_prefix.Goals as goal

pub returns-in-Some-clause-after : goal.returns-in-Some-clause-after
returns-in-Some-clause-after c = changes_without _ _ _ c.requires.whole (c.remove.ensures.entries c.requires.whole.in_order)

pub returns-in-Some-clause-freed : goal.returns-in-Some-clause-freed
returns-in-Some-clause-freed c =
    let found = c.remove.ensures.value c.requires.whole.in_order in
    size_prefix _ _ _ _ _ (returns-in-Some-clause-after c) (ap under (sym found ∙ c.in-Some.is)) c.requires.fits c.weight.ensures

pub returns-in-None-clause-after : goal.returns-in-None-clause-after
returns-in-None-clause-after c = changes_without _ _ _ c.requires.whole (c.remove.ensures.entries c.requires.whole.in_order)

pub returns-in-None-clause-freed : goal.returns-in-None-clause-freed
returns-in-None-clause-freed c =
    let found = c.remove.ensures.value c.requires.whole.in_order in
    size_prefix_none _ _ _ (returns-in-None-clause-after c) (ap under (sym found ∙ c.in-None.is))
