-- What a search tree holds.
use Rattle.std.specs.Prelude.{◌≡◌, ℕ, Bool, true, false, Option, Some, None, List, [], ◌∷◌, ◌++◌, IsTrue}
use Rattle.std.specs.declared.cmp.Ordering.{Ordering}
use Rattle.std.specs.List.{filter}
use Rattle.std.specs.Ordering.{nat_cmp, is_lt}
use Rattle.std.specs.Cmp.Lexicographic.{slice_cmp}
use Rattle.std.specs.FinMap.Entries.{is_sorted}
use Rattle.mon_kv.specs.declared.tree.Tree.{Tree, Leaf, Fork'}
use Rattle.mon_kv.specs.declared.tree.Node.{Node}

-- the order of keys, byte by byte
abbrev pub bytes_cmp : List ℕ → List ℕ → Ordering
bytes_cmp = slice_cmp nat_cmp

-- a tree's entries, from left to right
abbrev pub entries : {V : Type 0} → Tree V → List (List ℕ × V)
entries Leaf = []
entries (Fork' p l k v h r) = entries l ++ (k, v) ∷ entries r

abbrev pub is_empty : {A : Type 0} → List A → Bool
is_empty [] = true
is_empty (x ∷ xs) = false

abbrev pub first : {A : Type 0} → List A → Option A
first [] = None
first (x ∷ xs) = Some x

-- the entries whose keys are above this one
abbrev pub above : {V : Type 0} → List ℕ → List (List ℕ × V) → List (List ℕ × V)
above key es = filter (λ e. is_lt (bytes_cmp key e.0)) es

-- the keys ascend from left to right
abbrev pub IsInOrder : {V : Type 0} → Tree V → Type 0
IsInOrder tree = IsTrue (is_sorted bytes_cmp (entries tree))

-- the entries of the tree that a node is the root of
abbrev pub node_entries : {V : Type 0} → Node V → List (List ℕ × V)
node_entries node = entries node.left ++ (node.key, node.value) ∷ entries node.right

-- The entry at the root was removed, and the entries of its two sides are kept.
abbrev pub TakesRoot : {V : Type 0} → Tree V → Tree V → Option V → Type 0
TakesRoot Leaf new value = (new ≡ Leaf) × (value ≡ None)
TakesRoot (Fork' p l k v h r) new value = (entries new ≡ entries l ++ entries r) × (value ≡ Some v)
