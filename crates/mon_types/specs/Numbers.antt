-- Numbers up to 2^62.
use Rattle.std.specs.Prelude.{ℕ, ◌+◌, ◌^◌, min}

-- one more, up to the greatest number
abbrev pub plus_one_saturating : ℕ → ℕ
plus_one_saturating n = min (n + 1) (2 ^ 62)
