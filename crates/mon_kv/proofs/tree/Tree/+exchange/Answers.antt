use Rattle.std.proofs.Common.{ap, is_some, rules}
use Rattle.std.specs.Option.{unwrap_or}
use Rattle.mon_kv.specs.Tree.{entries}
use Rattle.mon_kv.proofs.Forks.{get_equal, put_equal, set_less, set_greater, read_less, read_greater}
use Rattle.mon_kv.proofs.tree.Tree.+exchange.Goals as goal

pub returns-in-Less-clause-found : goal.returns-in-Less-clause-found
returns-in-Less-clause-found t κs c = read_less _ _ _ _ _ is_some _ (ap entries c.in-Fork.is) (search rules) (rw c.deref_mut.ensures.value at c.exchange.ensures.found)

pub returns-in-Less-clause-entries : goal.returns-in-Less-clause-entries
returns-in-Less-clause-entries t κs c = rw c.deref_mut.ensures.value (set_less _ _ _ _ _ c.exchange.result _ _ (ap entries c.in-Fork.is) (search rules) (rw c.deref_mut.ensures.value at c.exchange.ensures.entries))

pub returns-in-Less-clause-value : goal.returns-in-Less-clause-value
returns-in-Less-clause-value t κs c = read_less _ _ _ _ _ (λ o. unwrap_or o c.args.value.now) _ (ap entries c.in-Fork.is) (search rules) (rw c.deref_mut.ensures.value at c.exchange.ensures.value)

pub returns-in-Equal-clause-found : goal.returns-in-Equal-clause-found
returns-in-Equal-clause-found t κs c = λ s. ap is_some (get_equal _ _ _ _ _ (ap entries c.in-Fork.is) (search rules) s)

pub returns-in-Equal-clause-entries : goal.returns-in-Equal-clause-entries
returns-in-Equal-clause-entries t κs c = rw (c.swap.ensures.x_after, c.deref_mut-in-Equal.ensures.value) (put_equal _ _ _ _ _ _ (ap entries c.in-Fork.is) (search rules))

pub returns-in-Equal-clause-value : goal.returns-in-Equal-clause-value
returns-in-Equal-clause-value t κs c = λ s. rw (c.swap.ensures.y_after, c.deref_mut-in-Equal.ensures.value) (ap (λ o. unwrap_or o c.args.value.now) (get_equal _ _ _ _ _ (ap entries c.in-Fork.is) (search rules) s))

pub returns-in-Greater-clause-found : goal.returns-in-Greater-clause-found
returns-in-Greater-clause-found t κs c = read_greater _ _ _ _ _ is_some _ (ap entries c.in-Fork.is) (search rules) (rw c.deref_mut-in-Greater.ensures.value at c.exchange-in-Greater.ensures.found)

pub returns-in-Greater-clause-entries : goal.returns-in-Greater-clause-entries
returns-in-Greater-clause-entries t κs c = rw c.deref_mut-in-Greater.ensures.value (set_greater _ _ _ _ _ c.exchange-in-Greater.result _ _ (ap entries c.in-Fork.is) (search rules) (rw c.deref_mut-in-Greater.ensures.value at c.exchange-in-Greater.ensures.entries))

pub returns-in-Greater-clause-value : goal.returns-in-Greater-clause-value
returns-in-Greater-clause-value t κs c = read_greater _ _ _ _ _ (λ o. unwrap_or o c.args.value.now) _ (ap entries c.in-Fork.is) (search rules) (rw c.deref_mut-in-Greater.ensures.value at c.exchange-in-Greater.ensures.value)
