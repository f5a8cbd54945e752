use Rattle.std.proofs.Common.{not}
use Rattle.mon_tx.specs.Map.{is_within}
use Rattle.mon_kv.proofs.RangeLaws.{frees_all}
use Rattle.mon_kv.proofs.areas.erase_passing.Goals as goal

pub returns-clause-freed : goal.returns-clause-freed
returns-clause-freed c =
    rw c.saturating_sub.ensures
    (frees_all c.args.prefix_len (λ x. not (is_within c.args.from c.args.to x)) _ _ _ _ c.requires.fits (rw c.replace.ensures.value at c.without_versions-kept.ensures) c.weight-before.ensures c.weight-after.ensures)
