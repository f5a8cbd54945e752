-- A lease is the time of its end, or none.
use Rattle.std.specs.Prelude.{ℕ, ◌+◌, ◌^◌, min, Bool, false, ◌&&◌, ◌||◌, ◌==◌, nat_lt, Option, None, Some}
use Rattle.mon_lease.specs.declared.lease.TheConstants.{LENGTH}

-- the lease that is given now
abbrev pub extended : ℕ → Option ℕ
extended now = Some (min (now + LENGTH) (2 ^ 62))

-- whether it is valid now
abbrev pub stands : Option ℕ → ℕ → Bool
stands None now = false
stands (Some end) now = nat_lt now end

-- whether a monitor of n may show its last committed version
abbrev pub readable : ℕ → ℕ → Option ℕ → ℕ → Bool
readable last n lease now = nat_lt 0 last && (n == 1 || stands lease now)
