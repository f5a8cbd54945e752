-- The ranks of a set, one after the other.
use Rattle.std.proofs.Common.{◌≡◌, ℕ, suc, ◌+◌, ◌-◌, ◌≤◌, ◌<◌, Bool, true, false, cond, List, [], ◌∷◌, refl, arith}
use Rattle.mon_types.specs.Ranks.{has, ranks_from}

one_more : (n : ℕ) (s : List Bool) → n < 15 → ranks_from n s ≡ cond (has s n) (n ∷ ranks_from (n + 1) s) (ranks_from (n + 1) s)
one_more n s lt = let k : 15 - n ≡ suc (15 - (n + 1)) = omega arith in rw k refl

pub ranks_in : (n : ℕ) (s : List Bool) → n < 15 → has s n ≡ true → ranks_from n s ≡ n ∷ ranks_from (n + 1) s
ranks_in n s lt h = rw (one_more n s lt, h) refl

pub ranks_out : (n : ℕ) (s : List Bool) → n < 15 → has s n ≡ false → ranks_from n s ≡ ranks_from (n + 1) s
ranks_out n s lt h = rw (one_more n s lt, h) refl

pub ranks_past : (n : ℕ) (s : List Bool) → 15 ≤ n → ranks_from n s ≡ []
ranks_past n s le = let none : 15 - n ≡ 0 = omega arith in rw none refl
