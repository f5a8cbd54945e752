-- The map that the images of two disks represent.
use Rattle.std.specs.Prelude.{ℕ, ◌+◌, nat_lt, ◌==◌, ◌&&◌, if◌then◌else◌, List, length, Option, Some, None, Result, Ok, Err}
use Rattle.std.specs.FinMap.{empty}
pub use Rattle.mon_bytes.specs.Answers.{◌>>=◌}
use Rattle.mon_types.specs.declared.names.Side.{Side}
use Rattle.mon_types.specs.declared.names.Side.TheVariants.{A, B}
use Rattle.mon_tx.specs.Map.{Store}
use Rattle.mon_journal.specs.declared.stop.JournalStop.{JournalStop}
use Rattle.mon_journal.specs.declared.stop.JournalStop.TheVariants as journal
use Rattle.mon_journal.specs.declared.journal.TheConstants.{HEADER}
use Rattle.mon_journal.specs.Content.{Held, content}
use Rattle.mon_journal.specs.Fields.{Owner}
use Rattle.mon_store.specs.Payloads.{map_of}

-- why two images represent no map, or not for one of this monitor's
pub data Refusal : Type 0 where
  NotAStore : (disk : Side) (at : ℕ) → Refusal
  Stranger : (kept asked : Owner) → Refusal

-- a fault in a file, on its disk; bytes give NotAStore alone
abbrev pub on : {X : Type 0} → Side → Result X JournalStop → Result X Refusal
on side (Ok x) = Ok x
on side (Err (journal.NotAStore at)) = Err (NotAStore side at)
on side (Err journal.DiskFault) = Err (NotAStore side 0)
on side (Err journal.OutOfMemory) = Err (NotAStore side 0)

-- what a disk holds: nothing if it is closed, and otherwise a store's file
abbrev pub held_on : Side → Option (Result Held JournalStop) → Result (Option Held) Refusal
held_on side None = Ok None
held_on side (Some (Ok held)) = Ok (Some held)
held_on side (Some (Err e)) = on side (Err e)

-- where the map is: in a file that is live, or in none, if the store is to be created
pub data Found : Type 0 where
  Create : Found
  Live : (side : Side) (held : Held) → Found

-- a store may be created on two closed disks if disk A holds no more than a creation that a crash cut short, and disk B
-- is empty
abbrev pub new_store : ℕ → ℕ → Result Found Refusal
new_store a b = if nat_lt (HEADER + 1) a then Err (NotAStore A 0) else (if nat_lt 0 b then Err (NotAStore B 0) else Ok Create)

-- the file with the greater generation is live
abbrev pub newer : Held → Held → Result Found Refusal
newer x y =
    if x.header.generation == y.header.generation then Err (NotAStore B 0) else (if nat_lt y.header.generation x.header.generation then Ok (Live A x) else Ok (Live B y))

abbrev pub chosen : Option Held → Option Held → ℕ → ℕ → Result Found Refusal
chosen None None a b = new_store a b
chosen (Some x) None a b = Ok (Live A x)
chosen None (Some y) a b = Ok (Live B y)
chosen (Some x) (Some y) a b = newer x y

unfoldable pub found : List ℕ → List ℕ → Result Found Refusal
found a b = do
  x ← held_on A (content a)
  y ← held_on B (content b)
  chosen x y (length a) (length b)

abbrev pub map_found : Found → Result Store Refusal
map_found Create = Ok empty
map_found (Live side held) = on side (map_of held.payloads)

-- the map that two images represent, or why they represent none
unfoldable pub stands : List ℕ → List ℕ → Result Store Refusal
stands a b = do
  place ← found a b
  map_found place

-- a live file is that of its owner
abbrev pub owned : Owner → Found → Store → Result (Found × Store) Refusal
owned owner Create m = Ok (Create, m)
owned owner (Live side held) m =
    if held.header.owner.rank == owner.rank && held.header.owner.monitors == owner.monitors then Ok (Live side held, m) else Err (Stranger held.header.owner owner)

-- the map of what was found, if it is this owner's
abbrev pub taken : Owner → Found → Result (Found × Store) Refusal
taken owner place = do
  m ← map_found place
  owned owner place m

-- what a member finds that opens two disks with these bytes
unfoldable pub opened : Owner → List ℕ → List ℕ → Result (Found × Store) Refusal
opened owner a b = do
  place ← found a b
  taken owner place
