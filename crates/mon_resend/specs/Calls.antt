-- Which PROPOSEs of a monitor aren't handed up.
use Rattle.std.specs.Prelude.{ℕ, ◌+◌, ◌-◌, min, Bool, ◌||◌, ◌==◌, nat_le, nat_lt, Option, Some, None, if◌then◌else◌}
use Rattle.mon_resend.specs.declared.calls.Earlier.{Earlier}
use Rattle.mon_resend.specs.declared.calls.Acknowledged.{Acknowledged}
use Rattle.mon_resend.specs.declared.calls.TheConstants.{FIRST_REST, MOST_REST, REMEMBERED, LEAST_APART, MOST_APART, MOST_UNHEARD, UNHEARD_REST}
use Rattle.mon_resend.specs.Notes.{plus, times}

-- ---- PROPOSEs of an earlier epoch than that of the own quorum

abbrev pub no_earlier : Earlier
no_earlier = record { until = 0; rest = 0 }

-- how long PROPOSEs are dropped after one that is handed up
abbrev pub rest_after : ℕ → Earlier → ℕ
rest_after now e = if e.rest == 0 || nat_le (plus e.until REMEMBERED) now then FIRST_REST else min (times e.rest 2) MOST_REST

-- the note after a PROPOSE arrived, or nothing if it isn't handed up
abbrev pub rested : ℕ → Earlier → Option Earlier
rested now e = if nat_lt now e.until then None else Some (record { until = plus now (rest_after now e); rest = rest_after now e })

-- ---- PROPOSEs that were acknowledged

abbrev pub unacknowledged : Acknowledged
unacknowledged = record { epoch = 0; last = 0; times = 0; until = 0 }

abbrev pub acknowledged_in : (epoch now : ℕ) → Acknowledged → Acknowledged
acknowledged_in epoch now a = if epoch == a.epoch then a else record { epoch = epoch; last = now; times = 0; until = 0 }

-- a PROPOSE that arrives now isn't handed up
abbrev pub drops : ℕ → Acknowledged → Bool
drops now a = nat_lt now a.until

-- how many have arrived in a row, as far apart as copies are
abbrev pub in_row : ℕ → Acknowledged → ℕ
in_row now a = if nat_lt MOST_APART (now - a.last) then 1 else min (a.times + 1) 255

abbrev pub counted_as : ℕ → ℕ → Acknowledged → Acknowledged
counted_as now row a =
    if nat_le MOST_UNHEARD row then record a { last = now; times = 0; until = plus now UNHEARD_REST } else record a { last = now; times = row }

-- the note after a PROPOSE arrived
abbrev pub counted : ℕ → Acknowledged → Acknowledged
counted now a = if drops now a || nat_lt (now - a.last) LEAST_APART then a else counted_as now (in_row now a) a
