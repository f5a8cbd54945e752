-- How long a machine may stand still in each life of a monitor.
use Rattle.std.specs.Prelude.{ℕ, ◌*◌, nat_lt, min, if◌then◌else◌}
use Rattle.cephmon_links.specs.declared.living.TheConstants.{FIRST_STANDSTILL}
use Rattle.cephmon_links.specs.declared.naming.TheConstants.{MOST_STANDSTILL}

-- the bound of the next life, in milliseconds: twice that of a short life, at most two minutes, and the first bound after a long life
abbrev pub next_most : (most lived : ℕ) → ℕ
next_most most lived = if nat_lt lived MOST_STANDSTILL then min (most * 2) MOST_STANDSTILL else FIRST_STANDSTILL
