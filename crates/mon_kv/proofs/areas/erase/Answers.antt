use Rattle.std.proofs.Common.{ap, ◌∙◌}
use Rattle.std.specs.FinMap.Entries.{find}
use Rattle.mon_kv.specs.Tree.{bytes_cmp}
use Rattle.mon_kv.specs.Areas.{freed_size}
use Rattle.mon_kv.proofs.AreaLaws.{changes_back_where, changes_where_none, size_erase}
use Rattle.mon_kv.proofs.areas.erase.Goals as goal

pub returns-in-Some-clause-after : goal.returns-in-Some-clause-after
returns-in-Some-clause-after c = changes_back_where _ _ _ _ _ c.remove-old.new.self c.requires.whole c.in-Some.ensures.some c.set.ensures _ c.remove-old.ensures.entries

pub returns-in-Some-clause-freed : goal.returns-in-Some-clause-freed
returns-in-Some-clause-freed c =
    let t = c.in-Some.ensures.some in
    let old = c.remove-old.ensures.value t.sorted in
    size_erase _ _ _ _ _ c.requires.whole (returns-in-Some-clause-after c) (c.freed_size.ensures ∙ ap (freed_size c.args.prefix.now c.args.key.now) (old ∙ ap (find bytes_cmp c.args.key.now) t.held))

pub returns-in-None-clause-after : goal.returns-in-None-clause-after
returns-in-None-clause-after c = changes_where_none _ _ _ c.requires.whole c.in-None.ensures.none c.in-None.ensures.nothing _
