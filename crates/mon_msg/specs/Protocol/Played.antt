-- The changes of an event as they are played on what the store's readers return.
use Rattle.std.specs.Prelude.{ℕ, true, false, ◌==◌, List, Some, None, if◌then◌else◌, ◌^◌, [], ◌∷◌, ◌≤◌, IfSome}
use Rattle.mon_msg.specs.Protocol.Changes.{Change, ops_of, Boot, Epoch, Numbers, Promise, Vote, Record, Learn, Last, Copy, Mark, Unmark}
use Rattle.mon_msg.specs.Protocol.Readings.{Readings, after}
use Rattle.mon_tx.specs.Decision.{Cell}
use Rattle.mon_tx.specs.Text.{text}

abbrev pub with_record : ℕ → List ℕ → (ℕ → Cell) → ℕ → Cell
with_record v bytes records u = if u == v then Some bytes else records u

abbrev pub play : Change → Readings → Readings
play (Boot n) w = record w { boot = n }
play (Epoch e) w = record w { epoch = Some e }
play (Numbers pn) w = record w { last_pn = Some pn; promise = Some pn }
play (Promise pn) w = record w { promise = Some pn }
play (Vote v pn value) w = record w { pending_v = v; pending_pn = pn; record_of = with_record v (text value) w.record_of }
play (Record v value) w = record w { record_of = with_record v (text value) w.record_of }
play (Learn v value) w = after (ops_of (Learn v value)) w
play (Last v) w = record w { last = v }
play (Copy entry) w = after (ops_of (Copy entry)) w
play (Mark floor last_pn promise) w = record w {
  last_pn = last_pn;
  promise = promise;
  pending_v = 0;
  pending_pn = 0;
  first = 0;
  last = 0;
  marked = true;
  floor = floor;
  record_of = λ v. None;
  row = λ s k. None;
}
play Unmark w = record w { marked = false; floor = 0 }

abbrev pub played : List Change → Readings → Readings
played [] w = w
played (c ∷ cs) w = played cs (play c w)

abbrev pub IsShort : ℕ → Type 0
IsShort n = n ≤ 2 ^ 62

-- the numbers of a change fit
abbrev pub Fits : Change → Type 0
Fits (Boot n) = IsShort n
Fits (Epoch e) = IsShort e
Fits (Numbers pn) = IsShort pn
Fits (Promise pn) = IsShort pn
Fits (Vote v pn value) = IsShort v × IsShort pn
Fits (Record v value) = Unit {0}
Fits (Learn v value) = Unit {0}
Fits (Last v) = IsShort v
Fits (Copy entry) = Unit {0}
Fits (Mark floor last_pn promise) = IsShort floor × IfSome last_pn IsShort × IfSome promise IsShort
Fits Unmark = Unit {0}
