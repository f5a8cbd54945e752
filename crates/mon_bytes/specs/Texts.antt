-- Keys and prefixes.
use Rattle.std.specs.Prelude.{ℕ, Bool, List, length, nat_le, ◌&&◌}
use Rattle.std.specs.List.{list_all}
use Rattle.mon_bytes.specs.declared.limits.TheConstants.{MOST_NAME, MOST_PREFIX}

-- a byte from 0x21 to 0x7E
abbrev pub graphic : ℕ → Bool
graphic b = nat_le 33 b && nat_le b 126

-- 1 to `most` graphic bytes
abbrev pub is_word : ℕ → List ℕ → Bool
is_word most bytes = nat_le 1 (length bytes) && nat_le (length bytes) most && list_all graphic bytes

abbrev pub is_name : List ℕ → Bool
is_name bytes = is_word MOST_NAME bytes

abbrev pub is_prefix : List ℕ → Bool
is_prefix bytes = is_word MOST_PREFIX bytes
