-- Whether what is read as a key-value map, or as entries of one, holds a key.
use Rattle.std.specs.Prelude.{ℕ, Bool, List, Option, Some, None, Result, Ok, Err}
use Rattle.std.specs.Cmp.Lexicographic.{slice_cmp}
use Rattle.std.specs.FinMap.{contains_key, from_sorted}
use Rattle.std.specs.Ordering.{nat_cmp}
use Rattle.map_kv.specs.Map.{Kv}
use Rattle.mon_bytes.specs.Reading.{Reading}
use Rattle.mon_bytes.specs.declared.command.MapRefused.{MapRefused}

abbrev pub entries_hold : List ℕ → Result (List (List ℕ × List ℕ) × Reading) MapRefused → Option (Bool × Reading)
entries_hold key (Ok (es, c)) = Some (contains_key (from_sorted {R = slice_cmp nat_cmp} es) key, c)
entries_hold key (Err e) = None

abbrev pub map_holds : List ℕ → Result Kv MapRefused → Option Bool
map_holds key (Ok m) = Some (contains_key m key)
map_holds key (Err e) = None
