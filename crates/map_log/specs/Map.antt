-- The cluster log's map is the list of its entries. The step that an entry takes on it.
use Rattle.std.specs.Prelude.{Bool, List, [], ◌∷◌, ◌++◌, length, nat_lt, ◌||◌, if◌then◌else◌}
use Rattle.map_log.specs.Text.{map_text}
use Rattle.map_log.specs.declared.surplus.TheConstants.{MOST_ENTRIES, MOST_LOG_MAP}
use Rattle.map_log.specs.declared.inc.LogInc.{LogInc}

-- whether a map has too many entries or too long a text
abbrev pub is_above : List LogInc → Bool
is_above es = nat_lt MOST_ENTRIES (length es) || nat_lt MOST_LOG_MAP (length (map_text es))

-- the entries without those dropped from the front
abbrev pub trimmed : List LogInc → List LogInc
trimmed [] = []
trimmed (inc ∷ es) = if is_above (inc ∷ es) then trimmed es else inc ∷ es

-- the map after an entry
abbrev pub with_inc : List LogInc → LogInc → List LogInc
with_inc es inc = trimmed (es ++ inc ∷ [])
