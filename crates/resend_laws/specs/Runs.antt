-- What can happen to the copies that are kept, one step after the other.
use Rattle.std.specs.Prelude.{ℕ, suc, ◌+◌, ◌≤◌, Bool, true, false, nat_le, List, [], ◌∷◌, if◌then◌else◌}
use Rattle.mon_resend.specs.declared.copies.Copies.{Copies}
use Rattle.mon_resend.specs.World.{sent, arrived, all_passed}

pub data Step : Type 0 where
  -- a datagram is given to send to a monitor
  Sends : (memory : Bool) (rank : ℕ) (bytes : List ℕ) (now : ℕ) → Step
  -- a datagram arrives from a monitor
  Hears : (memory : Bool) (rank : ℕ) (bytes : List ℕ) (now : ℕ) → Step
  -- the due copies are sent; without `again`, only the held ones
  Passes : (again : Bool) (now : ℕ) → Step

abbrev pub step : Step → Copies → Copies
step (Sends memory rank bytes now) c = sent memory rank bytes now c
step (Hears memory rank bytes now) c = arrived memory rank bytes now c
step (Passes again now) c = all_passed again now c

abbrev pub run : List Step → Copies → Copies
run [] c = c
run (s ∷ steps) c = run steps (step s c)

-- ---- time

abbrev pub time_of : Step → ℕ
time_of (Sends memory rank bytes now) = now
time_of (Hears memory rank bytes now) = now
time_of (Passes again now) = now

-- The clock doesn't go back.
abbrev pub IsInOrder : (since : ℕ) → List Step → Type 0
IsInOrder since [] = Unit {0}
IsInOrder since (s ∷ steps) = (since ≤ time_of s) × IsInOrder (time_of s) steps

-- how often copies may be sent again, counting only times that are at least `apart` after the one counted before
abbrev pub rounds : (apart since : ℕ) → List Step → ℕ
rounds apart since [] = 0
rounds apart since (Passes true now ∷ steps) = if nat_le (since + apart) now then suc (rounds apart now steps) else rounds apart since steps
rounds apart since (Passes false now ∷ steps) = rounds apart since steps
rounds apart since (Sends memory rank bytes now ∷ steps) = rounds apart since steps
rounds apart since (Hears memory rank bytes now ∷ steps) = rounds apart since steps
