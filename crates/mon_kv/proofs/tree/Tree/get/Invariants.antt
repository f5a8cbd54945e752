use Rattle.std.proofs.Common.{◌≡◌, Option}
use Rattle.std.specs.FinMap.Entries.{find}
use Rattle.mon_kv.specs.Tree.{bytes_cmp, entries, IsInOrder}
use Rattle.mon_kv.proofs.tree.Tree.get.Given as goal

-- what is found in the tree that is left is what is found in the whole one
abbrev pub invariant-loop-tree : goal.invariant-loop-tree
invariant-loop-tree t l =
    (found : Option _) → (IsInOrder l.tree → found ≡ find bytes_cmp l.key (entries l.tree)) → IsInOrder l.fn.self → found ≡ find bytes_cmp l.key (entries l.fn.self)
