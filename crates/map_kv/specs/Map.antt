-- The key-value map, and the step that an incremental takes on it.
use Rattle.std.specs.Prelude.{ℕ, List}
use Rattle.std.specs.Cmp.Lexicographic.{slice_cmp}
use Rattle.std.specs.Ordering.{nat_cmp}
use Rattle.std.specs.FinMap.{FinMap, insert, remove}
use Rattle.map_kv.specs.declared.inc.KvInc.{KvInc}
use Rattle.map_kv.specs.declared.inc.KvInc.TheVariants.{Set, Remove}

-- from keys to values, in ascending order of key, byte by byte
abbrev pub Kv : Type 0
Kv = FinMap (slice_cmp nat_cmp) (List ℕ)

-- the map after an incremental
abbrev pub with_inc : Kv → KvInc → Kv
with_inc m (Set key value) = insert m key value
with_inc m (Remove key) = remove m key
