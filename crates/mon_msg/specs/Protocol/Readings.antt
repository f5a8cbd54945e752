-- What the readers of a monitor's store return.
use Rattle.std.specs.FinMap.{entries}
use Rattle.std.specs.Option.{option_map, option_map_or}
use Rattle.std.specs.Prelude.{ℕ, Bool, ◌==◌, List, Option, Some, None, map}
use Rattle.mon_bytes.specs.declared.entry.Entry.{Entry}
use Rattle.mon_msg.specs.Puts.{area_of}
use Rattle.mon_wire.specs.declared.request.Service.{Service}
use Rattle.mon_tx.specs.Decision.{Cell, decision, or_before}
use Rattle.mon_tx.specs.Keys.{place, cell, number, shared}
use Rattle.mon_tx.specs.Map.{number_in, Store}
use Rattle.mon_tx.specs.declared.key.Area.TheVariants as area
use Rattle.mon_tx.specs.declared.key.Area.{Area}
use Rattle.mon_tx.specs.declared.key.Key.TheVariants as key
use Rattle.mon_tx.specs.declared.key.Key.{Key}
use Rattle.mon_tx.specs.declared.op.Op.{Op}

pub record Readings : Type 0 where
  -- the election epoch, if there is one
  pub epoch : Option ℕ
  -- how often the monitor was started
  pub boot : ℕ
  -- the last proposal number that it made, and the one that it promised, if there are any
  pub last_pn : Option ℕ
  pub promise : Option ℕ
  -- for which version it accepted a value last, and under which number
  pub pending_v : ℕ
  pub pending_pn : ℕ
  -- the first version that is kept and the last one that is committed
  pub first : ℕ
  pub last : ℕ
  -- whether a full synchronization is under way, and the version that it must reach
  pub marked : Bool
  pub floor : ℕ
  -- the record of each version
  pub record_of : ℕ → Cell
  -- what a service keeps under each key
  pub row : Service → Key → Cell

abbrev pub or_zero : Option ℕ → ℕ
or_zero None = 0
or_zero (Some n) = n

-- an epoch that isn't there counts as 1
abbrev pub epoch_or_first : Option ℕ → ℕ
epoch_or_first None = 1
epoch_or_first (Some e) = e

abbrev pub epoch_of : Readings → ℕ
epoch_of w = epoch_or_first w.epoch

abbrev pub promise_of : Readings → ℕ
promise_of w = or_zero w.promise

-- a store is marked if this number is 1
abbrev pub marks : Cell → Bool
marks c = number_in c == 1

-- the number of a cell that is there
abbrev pub number_if_there : Cell → Option ℕ
number_if_there c = option_map (λ bytes. number_in (Some bytes)) c

unfoldable pub readings_of : Store → Readings
readings_of m = record {
  epoch = number_if_there (cell m area.Monitor key.ElectionEpoch);
  boot = number m area.Monitor key.BootCount;
  last_pn = number_if_there (cell m area.Paxos key.LastPn);
  promise = number_if_there (cell m area.Paxos key.AcceptedPn);
  pending_v = number m area.Paxos key.PendingV;
  pending_pn = number m area.Paxos key.PendingPn;
  first = number m area.Paxos key.FirstCommitted;
  last = number m area.Paxos key.LastCommitted;
  marked = marks (cell m area.Sync key.InSync);
  floor = number m area.Sync key.Floor;
  record_of = λ v. cell m area.Paxos (key.Version v);
  row = λ s k. cell m (area_of s) k;
}

-- what is shared with the other monitors, in order of prefix and then key
unfoldable pub shared_entries : Store → List Entry
shared_entries m = map (λ e. record { prefix = e.0.0; key = e.0.1; value = e.1 }) (entries (shared m))

abbrev pub read_after : {A : Type 0} → (Cell → A) → List Op → Area → Key → A → A
read_after of_cell ops a k before = option_map_or of_cell (decision ops (place a k)) before

abbrev pub number_after : List Op → Area → Key → ℕ → ℕ
number_after = read_after number_in

abbrev pub cell_after : List Op → Area → Key → Cell → Cell
cell_after ops a k before = or_before (decision ops (place a k)) before

-- what the readers return after changes of the store
unfoldable pub after : List Op → Readings → Readings
after ops w = record {
  epoch = read_after number_if_there ops area.Monitor key.ElectionEpoch w.epoch;
  boot = number_after ops area.Monitor key.BootCount w.boot;
  last_pn = read_after number_if_there ops area.Paxos key.LastPn w.last_pn;
  promise = read_after number_if_there ops area.Paxos key.AcceptedPn w.promise;
  pending_v = number_after ops area.Paxos key.PendingV w.pending_v;
  pending_pn = number_after ops area.Paxos key.PendingPn w.pending_pn;
  first = number_after ops area.Paxos key.FirstCommitted w.first;
  last = number_after ops area.Paxos key.LastCommitted w.last;
  marked = read_after marks ops area.Sync key.InSync w.marked;
  floor = number_after ops area.Sync key.Floor w.floor;
  record_of = λ v. cell_after ops area.Paxos (key.Version v) (w.record_of v);
  row = λ s k. cell_after ops (area_of s) k (w.row s k);
}
