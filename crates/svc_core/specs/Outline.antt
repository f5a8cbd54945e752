-- What is known of a key-value map that isn't built: whether it holds a key, and how long it is at most.
use Rattle.std.specs.Prelude.{◌≡◌, ℕ, ◌≤◌, Bool, List, length, Option, Some, None}
use Rattle.std.specs.FinMap.{contains_key}
use Rattle.map_kv.specs.Map as kv
use Rattle.map_kv.specs.Text as kv_text
use Rattle.mon_wire.specs.declared.reply.ShownMap.{ShownMap}
use Rattle.mon_wire.specs.declared.reply.ShownMap.TheVariants as map
use Rattle.svc_core.specs.declared.outline.Outline.{Outline}

-- an outline of a map: whether it holds the key, and an upper bound of the length of its text
pub record IsOf (k : List ℕ) (o : Outline) (m : kv.Kv) : Type 0 where
  pub held : o.held ≡ contains_key m k
  pub within : length (kv_text.map_text m) ≤ o.most

abbrev pub Outlines : List ℕ → Outline → ShownMap → Type 0
Outlines k o (map.Kv m) = IsOf k o m
Outlines k o (map.Log es) = ⊥

-- of a map that is there
abbrev pub OutlinesSome : List ℕ → Outline → Option ShownMap → Type 0
OutlinesSome k o (Some m) = Outlines k o m
OutlinesSome k o None = ⊥

-- whether a key-value map holds a key
abbrev pub Holds : List ℕ → Bool → ShownMap → Type 0
Holds k held (map.Kv m) = held ≡ contains_key m k
Holds k held (map.Log es) = ⊥
