-- What a monitor keeps: a map from pairs of prefix and key to bytes, in the order of prefix and then key.
use Rattle.std.specs.Prelude.{ℕ, ◌^◌, Bool, ◌&&◌, ◌||◌, not, List, [], ◌∷◌, length, get_or, Option, Some, None, nat_le, nat_lt, ◌==◌, if◌then◌else◌}
use Rattle.std.specs.declared.cmp.Ordering.{Ordering}
use Rattle.std.specs.Ordering.{nat_cmp, ordering_then}
use Rattle.std.specs.Cmp.Lexicographic.{slice_cmp}
use Rattle.std.specs.List.{list_all}
use Rattle.std.specs.FinMap.{FinMap, get, insert, remove, retain_keys}
use Rattle.std.specs.Str.{bytes_eq}
use Rattle.std.specs.Str.Parse.{digits_value}
use Rattle.byteorder.specs.Endian.{little_bytes, little_number}
use Rattle.mon_tx.specs.declared.op.Op.{Op}
use Rattle.mon_tx.specs.declared.op.Op.TheVariants.{Put, Erase, ErasePrefix, EraseRange}

-- a prefix and a key
abbrev pub Place : Type 0
Place = List ℕ × List ℕ

abbrev pub place_cmp : Place → Place → Ordering
place_cmp a b = ordering_then (slice_cmp nat_cmp a.0 b.0) (slice_cmp nat_cmp a.1 b.1)

abbrev pub Store : Type 0
Store = FinMap place_cmp (List ℕ)

abbrev pub is_digit : ℕ → Bool
is_digit b = nat_le 48 b && nat_le b 57

-- digits without padding
abbrev pub is_decimal : List ℕ → Bool
is_decimal key = list_all is_digit key && (nat_lt 48 (get_or key 0 0) || length key == 1)

-- whether a key is the decimal number, without padding, of a version from `from` up to but not including `to`
unfoldable pub is_within : ℕ → ℕ → List ℕ → Bool
is_within from to key = is_decimal key && nat_le from (digits_value 10 key) && nat_lt (digits_value 10 key) to

-- the map after one change
abbrev pub apply_op : Op → Store → Store
apply_op (Put prefix key value) m = insert m (prefix, key) value
apply_op (Erase prefix key) m = remove m (prefix, key)
apply_op (ErasePrefix prefix) m = retain_keys m (λ place. not (bytes_eq place.0 prefix))
apply_op (EraseRange prefix from to) m = retain_keys m (λ place. not (bytes_eq place.0 prefix && is_within from to place.1))

-- the map after changes that are made in order
abbrev pub apply : List Op → Store → Store
apply [] m = m
apply (op ∷ ops) m = apply ops (apply_op op m)

-- the eight bytes of a number
unfoldable pub number_bytes : ℕ → List ℕ
number_bytes n = little_bytes 8 n

-- the number that the bytes hold: eight bytes, at most 2 ^ 62, and 0 otherwise
unfoldable pub number_in : Option (List ℕ) → ℕ
number_in None = 0
number_in (Some bytes) =
    if length bytes == 8 && nat_le (little_number 8 bytes) (2 ^ 62) then little_number 8 bytes else 0

abbrev pub number_at : Store → List ℕ → List ℕ → ℕ
number_at m prefix key = number_in (get m (prefix, key))
