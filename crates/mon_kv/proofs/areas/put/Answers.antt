use Rattle.std.proofs.Common.{ap, ◌∙◌}
use Rattle.std.specs.FinMap.Entries.{find}
use Rattle.mon_kv.specs.Tree.{bytes_cmp}
use Rattle.mon_kv.specs.Areas.{freed_size}
use Rattle.mon_kv.proofs.AreaLaws.{changes_back_put, changes_back_same, changes_none, at_err, size_put}
use Rattle.mon_kv.proofs.areas.put.Goals as goal

pub returns-in_err-begin-clause-err : goal.returns-in_err-begin-clause-err
returns-in_err-begin-clause-err c = at_err c.from_residual.result (changes_none _ _ _ c.requires.whole (c.in_err-begin.ensures.err ∙ c.in_default.ensures.none))

pub returns-in-Ok-clause-ok : goal.returns-in-Ok-clause-ok
returns-in-Ok-clause-ok c = changes_back_put _ _ _ _ _ c.put-outcome.new.self c.requires.whole c.in-Some.ensures.some c.set.ensures _ _ c.in-Ok.ensures.ok

pub returns-in-Ok-clause-freed : goal.returns-in-Ok-clause-freed
returns-in-Ok-clause-freed c =
    let t = c.in-Some.ensures.some in
    size_put _ _ _ _ _ _ c.requires.whole (returns-in-Ok-clause-ok c) (c.freed_size.ensures ∙ ap (freed_size c.args.prefix.now c.args.key.now) (c.in-Ok.ensures.old t.sorted ∙ ap (find bytes_cmp c.args.key.now) t.held))

pub returns-in-Err-clause-err : goal.returns-in-Err-clause-err
returns-in-Err-clause-err c = changes_back_same _ _ _ _ _ c.put-outcome.new.self c.requires.whole c.in-Some.ensures.some c.set.ensures c.in-Err.ensures.err
