-- Counts of the faults of devices, and what the result Failed means for them.
use Rattle.std.specs.Prelude.{◌≡◌, ℕ, ◌+◌, ◌-◌, ◌^◌, ◌≤◌, min, Result, Err}
use Rattle.mon_types.specs.declared.names.Stop.{Stop}
use Rattle.mon_types.specs.declared.names.Stop.TheVariants.{Failed}

-- one more, or the same if it is the greatest 64-bit number
abbrev pub risen : ℕ → ℕ
risen n = min (n + 1) (2 ^ 64 - 1)

-- the count has risen, or is the greatest 64-bit number
abbrev pub Rose : ℕ → ℕ → Type 0
Rose before now = risen before ≤ now

-- The count never falls, and Failed is returned only if it rose.
pub record HasCause {T : Type 0} (before now : ℕ) (result : Result T Stop) : Type 0 where
  pub later : before ≤ now
  pub failed : result ≡ Err Failed → Rose before now
