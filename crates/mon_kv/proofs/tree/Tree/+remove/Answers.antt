use Rattle.std.proofs.Common.{ap, ◌∙◌, rules}
use Rattle.mon_kv.specs.Tree.{entries}
use Rattle.mon_kv.proofs.Forks.{get_less, get_equal, get_greater, remove_less, remove_equal, remove_greater}
use Rattle.mon_kv.proofs.tree.Tree.+remove.Goals as goal

pub returns-in-Less-clause-value : goal.returns-in-Less-clause-value
returns-in-Less-clause-value t κs c = get_less _ _ _ _ _ (ap entries c.in-Fork.is) (search rules) (rw c.deref_mut.ensures.value at c.remove-value.ensures.value)

pub returns-in-Less-clause-entries : goal.returns-in-Less-clause-entries
returns-in-Less-clause-entries t κs c = λ s.
    c.settle.ensures ∙ rw c.deref_mut.ensures.value (remove_less _ _ _ _ _ _ (ap entries c.in-Fork.is) (search rules) (rw c.deref_mut.ensures.value at c.remove-value.ensures.entries) s)

pub returns-in-Equal-clause-value : goal.returns-in-Equal-clause-value
returns-in-Equal-clause-value t κs c = λ s.
    c.take_root.ensures.1 ∙ get_equal _ _ _ _ _ (ap entries c.in-Fork.is) (search rules) s

pub returns-in-Equal-clause-entries : goal.returns-in-Equal-clause-entries
returns-in-Equal-clause-entries t κs c = λ s.
    remove_equal _ _ _ _ _ _ (ap entries c.in-Fork.is) (search rules) c.take_root.ensures.0 s

pub returns-in-Greater-clause-value : goal.returns-in-Greater-clause-value
returns-in-Greater-clause-value t κs c = get_greater _ _ _ _ _ (ap entries c.in-Fork.is) (search rules) (rw c.deref_mut-in-Greater.ensures.value at c.remove-value-in-Greater.ensures.value)

pub returns-in-Greater-clause-entries : goal.returns-in-Greater-clause-entries
returns-in-Greater-clause-entries t κs c = λ s.
    c.settle-in-Greater.ensures ∙ rw c.deref_mut-in-Greater.ensures.value (remove_greater _ _ _ _ _ _ (ap entries c.in-Fork.is) (search rules) (rw c.deref_mut-in-Greater.ensures.value at c.remove-value-in-Greater.ensures.entries) s)
