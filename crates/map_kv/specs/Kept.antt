-- How a tree of texts represents a map.
use Rattle.std.specs.Prelude.{◌≡◌, ℕ, ◌+◌, ◌≤◌, ◌^◌, List, [], ◌∷◌, length, map, Option, Some, None, T, IsTrue, String, string_bytes}
use Rattle.std.specs.Global.{Global}
use Rattle.std.specs.List.{AllByRecursion}
use Rattle.std.specs.Str.{is_utf8}
use Rattle.std.specs.Cmp.Lexicographic.{slice_cmp}
use Rattle.std.specs.Ordering.{nat_cmp}
use Rattle.std.specs.FinMap.{from_sorted, is_sorted}
use Rattle.mon_bytes.specs.Texts.{is_name}
use Rattle.map_kv.specs.Map.{Kv}

-- the keys with the values, as bytes
abbrev pub pairs : List (String Global × List ℕ) → List (List ℕ × List ℕ)
pairs es = map (λ e. (string_bytes e.0, e.1)) es

unfoldable pub kept_map : List (String Global × List ℕ) → Kv
kept_map es = from_sorted (pairs es)

-- how many bytes an entry takes in the map's text
abbrev pub entry_size : List ℕ × List ℕ → ℕ
entry_size e = length e.0 + length e.1 + 5

abbrev pub size_of : List (List ℕ × List ℕ) → ℕ
size_of [] = 0
size_of (e ∷ es) = entry_size e + size_of es

-- how many bytes the entry of a key takes, given that the key has that value
abbrev pub held : List ℕ → Option (List ℕ) → ℕ
held key None = 0
held key (Some value) = entry_size (key, value)

-- a name and a text
abbrev pub IsPair : List ℕ × List ℕ → Type 0
IsPair e = IsTrue (is_name e.0) × IsTrue (is_utf8 e.1)

-- names in ascending order with texts, and the size of the map's text, at most 2^62 since no memory holds more
pub record IsKept (es : List (String Global × List ℕ)) (size : ℕ) : Type 0 where
  pub sorted : T (is_sorted (slice_cmp nat_cmp) (pairs es))
  pub each : AllByRecursion IsPair (pairs es)
  pub sum : size ≡ 4 + size_of (pairs es)
  pub most : size ≤ 2 ^ 62
