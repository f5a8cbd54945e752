-- A set of ranks is a list of fifteen tests, one for each rank.
use Rattle.std.specs.Prelude.{ℕ, zero, suc, ◌+◌, ◌-◌, ◌*◌, ◌/◌, ◌%◌, ◌==◌, Bool, true, false, not, nat_lt, if◌then◌else◌, List, [], ◌∷◌, count_by, drop, filter, slice_set, slice_index_or, replicate}
use Rattle.std.specs.List.{list_all, range_with_len}

abbrev pub no_ranks : List Bool
no_ranks = replicate 15 false

-- whether a rank is in the set
abbrev pub has : List Bool → ℕ → Bool
has s r = slice_index_or s r false

-- the set with one more rank
abbrev pub with_rank : List Bool → ℕ → List Bool
with_rank s r = slice_set s r true

abbrev pub count_of : List Bool → ℕ
count_of s = count_by (λ b. b) s

-- a majority of n monitors: twice the count is above n
abbrev pub is_majority : ℕ → List Bool → Bool
is_majority n s = nat_lt n (2 * count_of s)

-- no rank is in the set
abbrev pub is_empty : List Bool → Bool
is_empty s = list_all not s

-- no rank from n on is in the set
abbrev pub is_within : ℕ → List Bool → Bool
is_within n s = is_empty (drop n s)

-- the ranks in the set from `from` on, in ascending order
abbrev pub ranks_from : ℕ → List Bool → List ℕ
ranks_from from s = filter (has s) (range_with_len from (15 - from))

abbrev pub ranks_in : List Bool → List ℕ
ranks_in s = ranks_from 0 s

-- ---- the number whose bit r is 1 if and only if rank r is in the set

abbrev pub bit : Bool → ℕ
bit b = if b then 1 else 0

abbrev pub to_bits : List Bool → ℕ
to_bits [] = 0
to_bits (b ∷ bs) = bit b + 2 * to_bits bs

-- the lowest k bits of a number, the lowest first
abbrev pub low_bits : ℕ → ℕ → List Bool
low_bits zero n = []
low_bits (suc k) n = (n % 2 == 1) ∷ low_bits k (n / 2)

unfoldable pub from_bits : ℕ → List Bool
from_bits n = low_bits 15 n
