use Rattle.std.proofs.Common.{ap, ◌∙◌, rules}
use Rattle.mon_kv.specs.Tree.{entries}
use Rattle.mon_kv.proofs.Forks.{get_less, get_equal, get_greater, put_less, put_equal, put_greater}
use Rattle.mon_kv.proofs.tree.Tree.+put.Goals as goal

pub returns-in_ok-old-in-Less-clause-old : goal.returns-in_ok-old-in-Less-clause-old
returns-in_ok-old-in-Less-clause-old t κs c =
    get_less _ _ _ _ _ (ap entries c.in-Fork.is) (search rules) (rw c.deref_mut.ensures.value at c.in_ok-old-in-Less.ensures.old)

pub returns-in_ok-old-in-Less-clause-ok : goal.returns-in_ok-old-in-Less-clause-ok
returns-in_ok-old-in-Less-clause-ok t κs c = λ s.
    c.settle.ensures ∙ rw c.deref_mut.ensures.value (put_less _ _ _ _ _ _ _ (ap entries c.in-Fork.is) (search rules) (rw c.deref_mut.ensures.value at c.in_ok-old-in-Less.ensures.ok) s)

pub returns-in-Equal-clause-old : goal.returns-in-Equal-clause-old
returns-in-Equal-clause-old t κs c = rw (c.replace.ensures.value, c.deref_mut-in-Equal.ensures.value) (get_equal _ _ _ _ _ (ap entries c.in-Fork.is) (search rules))

pub returns-in-Equal-clause-ok : goal.returns-in-Equal-clause-ok
returns-in-Equal-clause-ok t κs c = rw (c.replace.ensures.after, c.deref_mut-in-Equal.ensures.value) (put_equal _ _ _ _ _ _ (ap entries c.in-Fork.is) (search rules))

pub returns-in_ok-old-in-Greater-clause-old : goal.returns-in_ok-old-in-Greater-clause-old
returns-in_ok-old-in-Greater-clause-old t κs c =
    get_greater _ _ _ _ _ (ap entries c.in-Fork.is) (search rules) (rw c.deref_mut-in-Greater.ensures.value at c.in_ok-old-in-Greater.ensures.old)

pub returns-in_ok-old-in-Greater-clause-ok : goal.returns-in_ok-old-in-Greater-clause-ok
returns-in_ok-old-in-Greater-clause-ok t κs c = λ s.
    c.settle-in-Greater.ensures ∙ rw c.deref_mut-in-Greater.ensures.value (put_greater _ _ _ _ _ _ _ (ap entries c.in-Fork.is) (search rules) (rw c.deref_mut-in-Greater.ensures.value at c.in_ok-old-in-Greater.ensures.ok) s)
