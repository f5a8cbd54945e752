-- How long a monitor takes to answer.
use Rattle.std.specs.Prelude.{ℕ, ◌+◌, ◌*◌, ◌/◌, min, max, true, false, ◌&&◌, not, ◌==◌, nat_le, nat_lt, if◌then◌else◌}
use Rattle.std.specs.Int.{div_ceil, abs_diff}
use Rattle.mon_resend.specs.declared.measure.Measure.{Measure}
use Rattle.mon_resend.specs.declared.measure.TheConstants.{LEAST_TIME, FIRST, MOST_TIME, PARTS, MOST_SOON}
use Rattle.mon_resend.specs.Notes.{plus, times}

abbrev pub unmeasured : Measure
unmeasured = record { known = false; smoothed = 0; variation = 0; soon = 0 }

abbrev pub one_more : ℕ → ℕ
one_more n = min (n + 1) 255

-- An answer came soon after the first copy. From the third in a row on each halves the time.
abbrev pub measured_soon : Measure → Measure
measured_soon m =
    if nat_lt (one_more m.soon) MOST_SOON then record m { soon = one_more m.soon }
    else record { known = true; smoothed = m.smoothed / 2; variation = m.variation / 2; soon = m.soon }

abbrev pub smoothed_by : ℕ → (smoothed variation : ℕ) → Measure
smoothed_by time smoothed variation = record {
  known = true;
  smoothed = (7 * smoothed + time) / 8;
  variation = (3 * variation + abs_diff smoothed time) / 4;
  soon = 0;
}

-- An answer came this many thousandths of a millisecond after its message went last, as a copy for this many times.
abbrev pub measured_in : (time copies : ℕ) → Measure → Measure
measured_in time copies m =
    if not m.known then record { known = true; smoothed = time; variation = time / 2; soon = 0 }
    else if copies == 1 && nat_le time (m.smoothed / 4) then measured_soon m
    else if nat_lt 0 copies && nat_le time m.smoothed then record m { soon = 0 }
    else smoothed_by time (min m.smoothed (MOST_TIME * PARTS)) (min m.variation (MOST_TIME * PARTS))

abbrev pub measured : (time copies : ℕ) → Measure → Measure
measured time copies m = measured_in (times (min time MOST_TIME) PARTS) copies m

-- how long to wait for an answer
abbrev pub waits : Measure → ℕ
waits m = if not m.known then FIRST else max LEAST_TIME (min (div_ceil (plus m.smoothed (times m.variation 4)) PARTS) MOST_TIME)
