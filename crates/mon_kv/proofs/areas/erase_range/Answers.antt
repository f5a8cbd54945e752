use Rattle.mon_kv.proofs.AreaLaws.{changes_back_where, changes_where_none, size_where}
use Rattle.mon_kv.proofs.areas.erase_range.Goals as goal

pub returns-in-Some-clause-after : goal.returns-in-Some-clause-after
returns-in-Some-clause-after c = changes_back_where _ _ _ _ _ c.erase_versions-freed.new.records c.requires.whole c.in-Some.ensures.some c.set.ensures _ (λ _. c.erase_versions-freed.ensures.after)

pub returns-in-Some-clause-freed : goal.returns-in-Some-clause-freed
returns-in-Some-clause-freed c =
    size_where _ _ _ _ _ c.erase_versions-freed.new.records _ _ c.in-Some.ensures.some (returns-in-Some-clause-after c) c.erase_versions-freed.ensures.after c.erase_versions-freed.ensures.freed

pub returns-in-None-clause-after : goal.returns-in-None-clause-after
returns-in-None-clause-after c = changes_where_none _ _ _ c.requires.whole c.in-None.ensures.none c.in-None.ensures.nothing _
