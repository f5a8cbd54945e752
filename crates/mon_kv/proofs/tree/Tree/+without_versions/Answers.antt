use Rattle.std.proofs.Common.{◌≡◌, true, false, not, ap, ◌∙◌, rules}
use Rattle.mon_tx.specs.Map.{is_within}
use Rattle.mon_kv.specs.Tree.{entries}
use Rattle.mon_kv.proofs.Forks.{keeps_root, drops_root}
use Rattle.mon_kv.proofs.tree.Tree.+without_versions.Goals as goal

pub returns-then-is_within : goal.returns-then-is_within
returns-then-is_within t κs c =
    let inside : is_within c.args.from c.args.to c.in-Fork.node.value.key ≡ true = search rules in
    c.beside.ensures ∙ rw (c.without_versions-left.ensures, c.without_versions-right.ensures, c.replace.ensures.value, c.replace-in-Fork.ensures.value, c.deref_mut-in-Fork.ensures.value, c.deref_mut.ensures.value) (drops_root (λ x. not (is_within c.args.from c.args.to x)) _ _ _ _ (ap entries c.in-Fork.is) (ap not inside))

pub returns-else-is_within : goal.returns-else-is_within
returns-else-is_within t κs c =
    let outside : is_within c.args.from c.args.to c.in-Fork.node.value.key ≡ false = search rules in
    c.joined.ensures ∙ rw (c.without_versions-left.ensures, c.without_versions-right.ensures, c.replace.ensures.value, c.replace-in-Fork.ensures.value, c.deref_mut-in-Fork.ensures.value, c.deref_mut.ensures.value) (keeps_root (λ x. not (is_within c.args.from c.args.to x)) _ _ _ _ (ap entries c.in-Fork.is) (ap not outside))
