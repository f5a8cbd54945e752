use Rattle.std.proofs.Common.{None, ap, sym, rules}
use Rattle.std.specs.FinMap.Entries.{find}
use Rattle.mon_kv.specs.Tree.{bytes_cmp, entries}
use Rattle.mon_kv.proofs.Forks.{get_less, get_equal, get_greater}
use Rattle.mon_kv.proofs.tree.Tree.get.Goals as goal

pub loop-tree-init : goal.loop-tree-init
loop-tree-init g c = λ found h. h

pub loop-tree-preserved-in-Less : goal.loop-tree-preserved-in-Less
loop-tree-preserved-in-Less g c = λ found h.
    c.loop-tree.invariant found (get_less _ _ _ _ _ (ap entries c.in-Fork.is) (search rules) (rw c.deref-in-Less.ensures at h))

pub returns-in-Equal : goal.returns-in-Equal
returns-in-Equal g c =
    c.loop-tree.invariant _ (rw c.deref-in-Equal.ensures (get_equal _ _ _ _ _ (ap entries c.in-Fork.is) (search rules)))

pub loop-tree-preserved : goal.loop-tree-preserved
loop-tree-preserved g c = λ found h.
    c.loop-tree.invariant found (get_greater _ _ _ _ _ (ap entries c.in-Fork.is) (search rules) (rw c.deref-in-Greater.ensures at h))

pub returns : goal.returns
returns g c = c.loop-tree.invariant None (λ s. sym (ap (λ t. find bytes_cmp c.args.key.now (entries t)) c.in_default.is))
