-- Changes that leave a monitor's own numbers as they are.
use Rattle.std.proofs.Common.{◌≡◌, ℕ, Bool, true, false, List, [], ◌∷◌, ◌++◌, None, refl, ap, ◌∙◌}
use Rattle.std.specs.List.{AllByRecursion}
use Rattle.std.specs.Option.{option_map_or}
use Rattle.mon_tx.specs.declared.key.Area.{Area}
use Rattle.mon_tx.specs.declared.key.Area.TheVariants as area
use Rattle.mon_tx.specs.declared.key.Key.{Key}
use Rattle.mon_tx.specs.declared.key.Key.TheVariants as key
use Rattle.mon_tx.specs.declared.op.Op.{Op}
use Rattle.mon_tx.specs.Decision.{Cell, Decision, decision, later}
use Rattle.mon_tx.specs.Keys.{place}
use Rattle.mon_tx.specs.Map.{number_in}
use Rattle.mon_tx.specs.Text.{text}
use Rattle.mon_tx.proofs.After.{decision-append}
use Rattle.mon_tx.proofs.Named.{decided-put}
use Rattle.mon_msg.specs.Puts.{put}
use Rattle.mon_msg.specs.Protocol.Changes.{Change, Boot, Epoch, Numbers, Promise, Vote, Record, Learn, Last, Copy, Mark, Unmark, ops_of}
use Rattle.mon_msg.specs.Protocol.Played.{play, played}
use Rattle.mon_msg.specs.Protocol.Readings.{Readings, after, read_after, number_if_there, marks}

-- they decide none of these keys
pub record Spares (ops : List Op) : Type 0 where
  pub epoch : decision ops (place area.Monitor key.ElectionEpoch) ≡ None
  pub boot : decision ops (place area.Monitor key.BootCount) ≡ None
  pub last_pn : decision ops (place area.Paxos key.LastPn) ≡ None
  pub promise : decision ops (place area.Paxos key.AcceptedPn) ≡ None
  pub pending_v : decision ops (place area.Paxos key.PendingV) ≡ None
  pub pending_pn : decision ops (place area.Paxos key.PendingPn) ≡ None
  pub last : decision ops (place area.Paxos key.LastCommitted) ≡ None
  pub mark : decision ops (place area.Sync key.InSync) ≡ None
  pub floor : decision ops (place area.Sync key.Floor) ≡ None

-- their names
abbrev pub is_number : Area → Key → Bool
is_number area.Monitor key.ElectionEpoch = true
is_number area.Monitor key.BootCount = true
is_number area.Paxos key.LastPn = true
is_number area.Paxos key.AcceptedPn = true
is_number area.Paxos key.PendingV = true
is_number area.Paxos key.PendingPn = true
is_number area.Paxos key.LastCommitted = true
is_number area.Sync key.InSync = true
is_number area.Sync key.Floor = true
is_number a k = false

pub by_name : (ops : List Op) → ((a : Area) (k : Key) → is_number a k ≡ true → decision ops (place a k) ≡ None) → Spares ops
by_name ops h = record {
  epoch = h area.Monitor key.ElectionEpoch refl;
  boot = h area.Monitor key.BootCount refl;
  last_pn = h area.Paxos key.LastPn refl;
  promise = h area.Paxos key.AcceptedPn refl;
  pending_v = h area.Paxos key.PendingV refl;
  pending_pn = h area.Paxos key.PendingPn refl;
  last = h area.Paxos key.LastCommitted refl;
  mark = h area.Sync key.InSync refl;
  floor = h area.Sync key.Floor refl;
}

pub at_name : (ops : List Op) → Spares ops → (a : Area) (k : Key) → is_number a k ≡ true → decision ops (place a k) ≡ None
at_name ops s area.Monitor key.ElectionEpoch e = s.epoch
at_name ops s area.Monitor key.BootCount e = s.boot
at_name ops s area.Paxos key.LastPn e = s.last_pn
at_name ops s area.Paxos key.AcceptedPn e = s.promise
at_name ops s area.Paxos key.PendingV e = s.pending_v
at_name ops s area.Paxos key.PendingPn e = s.pending_pn
at_name ops s area.Paxos key.LastCommitted e = s.last
at_name ops s area.Sync key.InSync e = s.mark
at_name ops s area.Sync key.Floor e = s.floor
at_name ops s a k e = absurd cc

pub spares_append : (a b : List Op) → Spares a → Spares b → Spares (a ++ b)
spares_append a b s t = by_name (a ++ b) (λ area name e. decision-append a b (place area name) ∙ (λ i. later (at_name b t area name e i) (at_name a s area name e i)))

-- the record of a version is none of them
pub spares_record : (v : ℕ) (bytes : List ℕ) → Spares (put area.Paxos (key.Version v) bytes ∷ [])
spares_record v bytes = by_name (put area.Paxos (key.Version v) bytes ∷ []) by
  where
    by : (a : Area) (k : Key) → is_number a k ≡ true → decision (put area.Paxos (key.Version v) bytes ∷ []) (place a k) ≡ None
    by area.Monitor key.ElectionEpoch e = decided-put area.Paxos (key.Version v) bytes area.Monitor key.ElectionEpoch
    by area.Monitor key.BootCount e = decided-put area.Paxos (key.Version v) bytes area.Monitor key.BootCount
    by area.Paxos key.LastPn e = decided-put area.Paxos (key.Version v) bytes area.Paxos key.LastPn
    by area.Paxos key.AcceptedPn e = decided-put area.Paxos (key.Version v) bytes area.Paxos key.AcceptedPn
    by area.Paxos key.PendingV e = decided-put area.Paxos (key.Version v) bytes area.Paxos key.PendingV
    by area.Paxos key.PendingPn e = decided-put area.Paxos (key.Version v) bytes area.Paxos key.PendingPn
    by area.Paxos key.LastCommitted e = decided-put area.Paxos (key.Version v) bytes area.Paxos key.LastCommitted
    by area.Sync key.InSync e = decided-put area.Paxos (key.Version v) bytes area.Sync key.InSync
    by area.Sync key.Floor e = decided-put area.Paxos (key.Version v) bytes area.Sync key.Floor
    by a k e = absurd cc

pub spares_learned : (v : ℕ) (value : List Op) → Spares value → Spares (ops_of (Learn v value))
spares_learned v value s = spares_append (put area.Paxos (key.Version v) (text value) ∷ []) value (spares_record v (text value)) s

-- ---- what is read after them

-- `own` for a monitor's own numbers, and `other` for what is shared
abbrev pub with_shared : Readings → Readings → Readings
with_shared own other = record own { first = other.first; record_of = other.record_of; row = other.row }

untold : {A : Type 0} (of_cell : Cell → A) (ops : List Op) (a : Area) (k : Key) (before : A) → decision ops (place a k) ≡ None → read_after of_cell ops a k before ≡ before
untold of_cell ops a k before e = ap (λ (d : Decision). option_map_or of_cell d before) e

pub after_spared : (ops : List Op) (w : Readings) → Spares ops → after ops w ≡ with_shared w (after ops w)
unfolding after
after_spared ops w s = λ i. record {
  epoch = untold number_if_there ops area.Monitor key.ElectionEpoch w.epoch s.epoch i;
  boot = untold number_in ops area.Monitor key.BootCount w.boot s.boot i;
  last_pn = untold number_if_there ops area.Paxos key.LastPn w.last_pn s.last_pn i;
  promise = untold number_if_there ops area.Paxos key.AcceptedPn w.promise s.promise i;
  pending_v = untold number_in ops area.Paxos key.PendingV w.pending_v s.pending_v i;
  pending_pn = untold number_in ops area.Paxos key.PendingPn w.pending_pn s.pending_pn i;
  first = (after ops w).first;
  last = untold number_in ops area.Paxos key.LastCommitted w.last s.last i;
  marked = untold marks ops area.Sync key.InSync w.marked s.mark i;
  floor = untold number_in ops area.Sync key.Floor w.floor s.floor i;
  record_of = (after ops w).record_of;
  row = (after ops w).row;
}

-- changes that leave a monitor's own numbers as they are
abbrev pub SparesNumbers : Change → Type 0
SparesNumbers (Record v value) = Unit {0}
SparesNumbers (Learn v value) = Spares (ops_of (Learn v value))
SparesNumbers (Copy entry) = Spares (ops_of (Copy entry))
SparesNumbers other = ⊥

play_spared : (c : Change) (w : Readings) → SparesNumbers c → play c w ≡ with_shared w (play c w)
play_spared (Record v value) w s = refl
play_spared (Learn v value) w s = after_spared (ops_of (Learn v value)) w s
play_spared (Copy entry) w s = after_spared (ops_of (Copy entry)) w s
play_spared (Boot n) w s = absurd s
play_spared (Epoch e) w s = absurd s
play_spared (Numbers pn) w s = absurd s
play_spared (Promise pn) w s = absurd s
play_spared (Vote v pn value) w s = absurd s
play_spared (Last v) w s = absurd s
play_spared (Mark floor last_pn promise) w s = absurd s
play_spared Unmark w s = absurd s

-- a learned value is played exactly, and leaves the monitor's own numbers all the same
pub played_spared : (cs : List Change) (w : Readings) → AllByRecursion SparesNumbers cs → played cs w ≡ with_shared w (played cs w)
played_spared [] w s = refl
played_spared (c ∷ cs) w s = played_spared cs (play c w) s.1 ∙ ap (λ (v : Readings). with_shared v (played cs (play c w))) (play_spared c w s.0)
