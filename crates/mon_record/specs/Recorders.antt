-- A record, and what a call appends to it.
use Rattle.std.specs.Prelude.{◌≡◌, ℕ, ◌≤◌, ◌<◌, List, length, take, min, Option, Some, None}
use Rattle.std.specs.Io.KnownBytes.{Appends}
use Rattle.mon_record.specs.Entries.{received, sent}
use Rattle.mon_record.specs.Tapes.{TapeView, dropped, missed, noted, read}
use Rattle.mon_record.specs.declared.readings.Readings.{Readings}
use Rattle.mon_record.specs.declared.readings.TheConstants.{MOST_READINGS}
use Rattle.mon_record.specs.declared.recorder.Recorder.{Recorder}

-- the readings that are kept
abbrev pub listed : Readings → List ℕ
listed r = take (min r.count MOST_READINGS) r.times

-- The first of the bytes that wait were written to a sink.
pub record Writes (held written : Option (List ℕ)) (before after : TapeView) : Type 0 where
  pub count : ℕ
  pub within : count ≤ length before.waiting
  pub goes : Appends held written (take count before.waiting)
  pub stays : after ≡ dropped count before

-- The readings of the clock since the last call are noted, some may be missing, and then this entry is noted.
pub record Notes (x : List ℕ) (before after : TapeView) : Type 0 where
  pub times : List ℕ
  pub others : ℕ
  pub are : after ≡ noted x (missed others (read times before))

-- A call appends an entry. Before it and after it, bytes that wait may be written.
pub record Appended {K : Type 0} (held : K → Option (List ℕ)) (x : List ℕ) (old new : Recorder K) : Type 0 where
  pub room : TapeView
  pub whole : TapeView
  pub between : Option (List ℕ)
  pub first : Writes (held old.sink) between old.tape room
  pub notes : Notes x room whole
  pub last : Writes between (held new.sink) whole new.tape

-- if there is a record
abbrev pub Records : {K : Type 0} → (K → Option (List ℕ)) → List ℕ → (old new : Option (Recorder K)) → Type 0
Records held x None None = Unit {0}
Records held x None (Some new) = ⊥
Records held x (Some old) None = ⊥
Records held x (Some old) (Some new) = Appended held x old new
