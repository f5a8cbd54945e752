-- The effect of an event on the store, said once: as changes, which are encoded as a transaction.
use Rattle.std.specs.Prelude.{ℕ, List, Option, Some, None, [], ◌∷◌, ◌++◌}
use Rattle.mon_bytes.specs.declared.entry.Entry.{Entry}
use Rattle.mon_msg.specs.Puts.{put, put_number}
pub use Rattle.mon_tx.specs.Puts.{erase}
use Rattle.mon_tx.specs.Keys.{area_text}
use Rattle.mon_tx.specs.Text.{text}
use Rattle.mon_tx.specs.declared.key.Area.TheVariants as area
use Rattle.mon_tx.specs.declared.key.Area.{Area}
use Rattle.mon_tx.specs.declared.key.Key.TheVariants as key
use Rattle.mon_tx.specs.declared.key.Key.{Key}
use Rattle.mon_tx.specs.declared.op.Op.TheVariants.{Put, ErasePrefix}
use Rattle.mon_tx.specs.declared.op.Op.{Op}

pub data Change : Type 0 where
  -- how often the monitor was started
  Boot : (n : ℕ) → Change
  -- its epoch
  Epoch : (e : ℕ) → Change
  -- the proposal number that it made, and so promised
  Numbers : (pn : ℕ) → Change
  -- the proposal number of another monitor that it promised
  Promise : (pn : ℕ) → Change
  -- the value that it accepted for a version under a number
  Vote : (v : ℕ) → (pn : ℕ) → (value : List Op) → Change
  -- the record of a version's value, and that record with the changes of the value
  Record : (v : ℕ) → (value : List Op) → Change
  Learn : (v : ℕ) → (value : List Op) → Change
  -- the last committed version
  Last : (v : ℕ) → Change
  -- an entry of a copy
  Copy : (entry : Entry) → Change
  -- a full synchronization begins, which must reach the floor: the log and the services are erased, and of the own
  -- numbers of Paxos only the two proposal numbers are put back, if they were there
  Mark : (floor : ℕ) → (last_pn : Option ℕ) → (promise : Option ℕ) → Change
  -- the full synchronization is over
  Unmark : Change

abbrev pub erase_all : Area → Op
erase_all a = ErasePrefix (area_text a)

abbrev pub put_back : Key → Option ℕ → List Op
put_back k None = []
put_back k (Some n) = put_number area.Paxos k n ∷ []

abbrev pub ops_of : Change → List Op
ops_of (Boot n) = put_number area.Monitor key.BootCount n ∷ []
ops_of (Epoch e) = put_number area.Monitor key.ElectionEpoch e ∷ []
ops_of (Numbers pn) = put_number area.Paxos key.LastPn pn ∷ put_number area.Paxos key.AcceptedPn pn ∷ []
ops_of (Promise pn) = put_number area.Paxos key.AcceptedPn pn ∷ []
ops_of (Vote v pn value) = put area.Paxos (key.Version v) (text value) ∷ put_number area.Paxos key.PendingV v ∷ put_number area.Paxos key.PendingPn pn ∷ []
ops_of (Record v value) = put area.Paxos (key.Version v) (text value) ∷ []
ops_of (Learn v value) = put area.Paxos (key.Version v) (text value) ∷ value
ops_of (Last v) = put_number area.Paxos key.LastCommitted v ∷ []
ops_of (Copy entry) = Put entry.prefix entry.key entry.value ∷ []
ops_of (Mark floor last_pn promise) =
    put_number area.Sync key.InSync 1
    ∷ put_number area.Sync key.Floor floor
    ∷ erase_all area.Kv
    ∷ erase_all area.Logm
    ∷ erase_all area.Paxos
    ∷ (put_back key.LastPn last_pn ++ put_back key.AcceptedPn promise)
ops_of Unmark = erase area.Sync key.InSync ∷ erase area.Sync key.Floor ∷ []

-- in order
abbrev pub encoded : List Change → List Op
encoded [] = []
encoded (c ∷ cs) = ops_of c ++ encoded cs
