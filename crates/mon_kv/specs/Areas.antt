-- A map, held as a tree from prefixes to trees.
use Rattle.std.specs.Prelude.{◌≡◌, ℕ, ◌+◌, length, Bool, cond, not, ◌&&◌, List, [], ◌∷◌, ◌++◌, map, Option, Some, None, IsTrue, IsSome, if◌then◌else◌}
use Rattle.std.specs.List.{list_all, sum_by}
use Rattle.std.specs.Option.{option_map}
use Rattle.std.specs.Ordering.{eq_by_cmp}
use Rattle.std.specs.FinMap.{from_entries}
use Rattle.std.specs.FinMap.Entries.{find, put, where_key, is_sorted}
use Rattle.mon_bytes.specs.Texts.{is_prefix}
use Rattle.mon_tx.specs.Map.{Place, Store}
use Rattle.mon_kv.specs.Tree.{bytes_cmp, entries, is_empty, IsInOrder}
use Rattle.mon_kv.specs.declared.tree.Tree.{Tree, Leaf}

-- what is kept under one prefix, by key
abbrev pub Records : Type 0
Records = Tree (List ℕ)

-- the entry of the map that is found under a prefix
abbrev pub at_prefix : List ℕ → Option (List ℕ × List ℕ) → Option (Place × List ℕ)
at_prefix prefix found = option_map (λ e. ((prefix, e.0), e.1)) found

-- the entries under a prefix, as entries of the map
abbrev pub placed : List ℕ → List (List ℕ × List ℕ) → List (Place × List ℕ)
placed prefix es = map (λ e. ((prefix, e.0), e.1)) es

-- the entries of all prefixes, in order
abbrev pub places : List (List ℕ × Records) → List (Place × List ℕ)
places [] = []
places (area ∷ areas) = placed area.0 (entries area.1) ++ places areas

-- the map
unfoldable pub store : Tree Records → Store
store trees = from_entries (places (entries trees))

-- a prefix has the form of a prefix, the keys under it ascend, and there is at least one
abbrev pub is_area : List ℕ × Records → Bool
is_area area = is_prefix area.0 && is_sorted bytes_cmp (entries area.1) && not (is_empty (entries area.1))

pub record IsWhole (trees : Tree Records) : Type 0 where
  pub in_order : IsInOrder trees
  pub areas : IsTrue (list_all is_area (entries trees))

-- what is under the prefix that was looked up
abbrev pub under : Option Records → List (List ℕ × List ℕ)
under None = []
under (Some records) = entries records

-- the areas with this one set, or without it if it is empty
abbrev pub with_area : List ℕ → Records → List (List ℕ × Records) → List (List ℕ × Records)
with_area prefix records areas =
    if is_empty (entries records) then where_key bytes_cmp (λ x. not (eq_by_cmp bytes_cmp prefix x)) areas else put bytes_cmp prefix records areas

-- the size of an entry, and the size of the entry that was at a key, or 0
abbrev pub record_size : List ℕ → List ℕ → List ℕ → ℕ
record_size prefix key value = length prefix + length key + length value + 16

abbrev pub freed_size : List ℕ → List ℕ → Option (List ℕ) → ℕ
freed_size prefix key None = 0
freed_size prefix key (Some value) = record_size prefix key value

-- the size of entries under a prefix of this length
abbrev pub weight_of : ℕ → List (List ℕ × List ℕ) → ℕ
weight_of prefix_len es = sum_by (λ e. prefix_len + length e.0 + length e.1 + 16) es

-- the size of the entries under a prefix, and of those of all prefixes
abbrev pub area_size : List ℕ → List (List ℕ × List ℕ) → ℕ
area_size prefix es = sum_by (λ e. record_size prefix e.0 e.1) es

abbrev pub areas_size : List (List ℕ × Records) → ℕ
areas_size areas = sum_by (λ area. area_size area.0 (entries area.1)) areas

-- The tree of the prefix was taken out, and an empty one is in its place.
pub record IsTaken (old new : Tree Records) (prefix : List ℕ) (records : Records) : Type 0 where
  pub form : IsTrue (is_prefix prefix)
  pub stands_in : entries new ≡ put bytes_cmp prefix Leaf (entries old)
  pub in_order : IsInOrder new
  pub there : IsSome (find bytes_cmp prefix (entries new))
  pub held : entries records ≡ under (find bytes_cmp prefix (entries old))
  pub sorted : IsInOrder records
  pub size : areas_size (entries new) + area_size prefix (entries records) ≡ areas_size (entries old)

-- Under one prefix there are these entries now, and under every other prefix those of before.
pub record Changes (old new : Tree Records) (prefix : List ℕ) (es : List (List ℕ × List ℕ)) : Type 0 where
  pub whole : IsWhole new
  pub at : (q : List ℕ) → under (find bytes_cmp q (entries new)) ≡ cond (eq_by_cmp bytes_cmp q prefix) es (under (find bytes_cmp q (entries old)))
  pub size : areas_size (entries new) + area_size prefix (under (find bytes_cmp prefix (entries old))) ≡ areas_size (entries old) + area_size prefix es
