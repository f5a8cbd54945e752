-- When a client is answered: at most once in a second.
use Rattle.std.specs.Prelude.{ℕ, ◌+◌, ◌%◌, Bool, false, not, ◌&&◌, nat_lt, nat_le, List, Option, Some, None, replicate, slice_get, slice_set, if◌then◌else◌}
use Rattle.answer_times.specs.declared.times.TheConstants.{PAUSE, PLACES}

-- For each place the time until which its client waits, in milliseconds.
abbrev pub no_answers : List ℕ
no_answers = replicate PLACES 0

-- the place of a client; clients whose numbers differ by 1,024 share it
abbrev pub place : (client : ℕ) → ℕ
place client = client % PLACES

-- whether a client waits until this time: it is later than now, by a second at most
abbrev pub is_early : (now : ℕ) → Option ℕ → Bool
is_early now (Some until) = nat_lt now until && nat_le until (now + PAUSE)
is_early now None = false

-- whether a client is answered now
abbrev pub is_answered : (client now : ℕ) → List ℕ → Bool
is_answered client now untils = not (is_early now (slice_get untils (place client)))

-- the times after a client asked: one that is answered waits for a second
abbrev pub after_asking : (client now : ℕ) → List ℕ → List ℕ
after_asking client now untils =
    if is_answered client now untils then slice_set untils (place client) (now + PAUSE) else untils
