use Rattle.std.proofs.Common.{sym, ap, ◌∙◌}
use Rattle.mon_kv.specs.Tree.{entries, is_empty}
use Rattle.mon_kv.proofs.AreaLaws.{some_empty}
use Rattle.mon_kv.proofs.tree.Tree.is_empty.Goals as goal

pub returns-in_default : goal.returns-in_default
returns-in_default t c = sym (ap (λ t. is_empty (entries t)) c.in_default.is ∙ some_empty _ _ _)
