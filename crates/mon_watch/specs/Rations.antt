-- How many lines are written: at most twenty in ten seconds.
use Rattle.std.specs.Prelude.{ℕ, ◌+◌, Bool, nat_le, nat_lt, if◌then◌else◌}
use Rattle.mon_types.specs.Faults.{risen}
use Rattle.mon_watch.specs.declared.ration.Ration.{Ration}
use Rattle.mon_watch.specs.declared.ration.TheConstants.{INTERVAL, MOST}

-- nothing was written or left out in the ten seconds from `now` on
abbrev pub from_now : ℕ → Ration
from_now now = record { begun = now; written = 0; left_out = 0 }

-- whether the ten seconds are over
abbrev pub is_over : ℕ → Ration → Bool
is_over now r = nat_le (r.begun + INTERVAL) now

abbrev pub renewed : ℕ → Ration → Ration
renewed now r = if is_over now r then from_now now else r

-- whether one more line may be written
abbrev pub admits : Ration → Bool
admits r = nat_lt r.written MOST

abbrev pub with_line : Ration → Ration
with_line r = if admits r then record r { written = r.written + 1 } else record r { left_out = risen r.left_out }
