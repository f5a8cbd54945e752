-- How a store is on its disks.
use Rattle.std.specs.Prelude.{◌≡◌, ℕ, ◌≤◌, ◌<◌, ◌+◌, ◌^◌, Bool, true, false, ◌⊎◌, ◌||◌, ◌&&◌, ◌==◌, nat_lt, if◌then◌else◌, List, [], ◌∷◌, slice_index_or, Option, Some, None, Result, Ok, Err, IfSome}
use Rattle.mon_types.specs.declared.names.Side.{Side}
use Rattle.mon_types.specs.declared.names.Side.TheVariants.{A, B}
use Rattle.mon_types.specs.Sides.{other as other_side}
use Rattle.mon_disk.specs.Images.{Content, images, Only}
use Rattle.mon_tx.specs.declared.op.Op.{Op}
use Rattle.mon_tx.specs.Map.{Store, apply}
use Rattle.mon_tx.specs.Text.{text}
use Rattle.mon_tx.specs.Decode.{HasText}
use Rattle.mon_kv.specs.Readers.{size_of, is_outgrown}
use Rattle.mon_journal.specs.declared.stop.JournalStop.{JournalStop}
use Rattle.mon_journal.specs.declared.journal.Form.{Form}
use Rattle.mon_journal.specs.declared.journal.Form.TheVariants.{First, Second}
use Rattle.mon_journal.specs.declared.journal.Journal.{Journal}
use Rattle.mon_journal.specs.Content.{Held, content, payloads_of, Holds, appended, WithOrWithout}
use Rattle.mon_journal.specs.Written.{created}
use Rattle.mon_journal.specs.Steps.{ByTest, Stands, ClosedFrom}
use Rattle.mon_store.specs.Checkpoint.{checkpoint_text, most_size, HasCheckpoint}
use Rattle.mon_store.specs.Payloads.{map_of}

-- what belongs to disk A, and what to disk B, given the live disk's and the other's
abbrev pub of_a : {X : Type 0} → Side → X → X → X
of_a A live other = live
of_a B live other = other

abbrev pub of_b : {X : Type 0} → Side → X → X → X
of_b A live other = other
of_b B live other = live

-- what belongs to the live disk, given disk A's and disk B's
abbrev pub of_live : {X : Type 0} → Side → X → X → X
of_live A a b = a
of_live B a b = b

-- a closed file, or a store's file of a lower generation
abbrev pub IsBelow : ℕ → Option (Result Held JournalStop) → Type 0
IsBelow generation None = Unit {0}
IsBelow generation (Some (Ok held)) = held.header.generation < generation
IsBelow generation (Some (Err e)) = ⊥

-- The journal is on the live disk with payloads that make the map, and the other disk doesn't count. A crash leaves the same
-- of both.
pub record Sound (journal : Journal) (m : Store) (known : ℕ) (live other : Content) : Type 0 where
  pub stands_live : Stands journal known live
  pub only_other : Only other
  pub below : IfSome other.seen (λ file. IsBelow journal.generation (content file))
  pub map : IfSome live.seen (λ file. map_of (payloads_of file) ≡ Ok m)
  pub size : size_of m ≤ most_size

-- a file with a transaction's record or without it, and with it only if the transaction has an encoding and its map isn't too
-- large
abbrev pub WithChange : Journal → List (List ℕ) → Store → List Op → List ℕ → Type 0
WithChange journal payloads m ops file =
    WithOrWithout journal payloads (text ops) file × (slice_index_or file journal.next_gate 0 ≡ 1 → HasText ops × (size_of (apply ops m) ≤ most_size))

-- A store is on two images: the file of a journal is the live one and its payloads make the map, and the other file doesn't
-- count.
pub record StandsOn (side : Side) (journal : Journal) (m : Store) (a b : List ℕ) : Type 0 where
  pub holds : Holds journal (payloads_of (of_live side a b)) (of_live side a b)
  pub map : map_of (payloads_of (of_live side a b)) ≡ Ok m
  pub below : IsBelow journal.generation (content (of_live (other_side side) a b))

-- Two images on which a store is before a change or after it: after it if and only if the gate of its record is open in the
-- image of the live disk.
abbrev pub BeforeOrAfter : Side → Journal → Store → List Op → List ℕ → List ℕ → Type 0
BeforeOrAfter side journal m ops a b =
    let is_open = slice_index_or (of_live side a b) journal.next_gate 0 == 1 in
    StandsOn side (if is_open then appended journal (text ops) else journal) (if is_open then apply ops m else m) a b

abbrev pub is_first : Form → Bool
is_first First = true
is_first Second = false

-- A checkpoint is due if the generation is below 2^62, and the live file has the first header, or is longer than
-- 1,048,576 bytes and than four times the map's size. The length counts the bytes up to and with the first closed gate.
abbrev pub is_due : Journal → Store → Bool
is_due journal m = nat_lt journal.generation (2 ^ 62) && (is_first journal.form || is_outgrown (journal.next_gate + 1) m)

-- what a crash may leave of the other disk while a checkpoint begins a journal there
abbrev pub Begins : Content → Journal → Store → List ℕ → Type 0
Begins x journal m file = images x file ⊎ ClosedFrom x (journal.next_gate + 1) file ⊎ (Holds journal (checkpoint_text m ∷ []) file × HasCheckpoint m)

-- What that disk settles to: the new journal if its gate is open and its last write was begun; otherwise what a crash
-- might have left before, or a closed file.
abbrev pub BegunAs : Content → Journal → Store → Bool → List ℕ → Type 0
BegunAs x journal m opening file =
    ByTest (slice_index_or file 0 0 == 1 && opening) (Holds journal (checkpoint_text m ∷ []) file × HasCheckpoint m) (images x file ⊎ ClosedFrom x (journal.next_gate + 1) file)

-- the journal that a checkpoint begins
abbrev pub next_journal : Journal → Store → Journal
next_journal journal m = created journal.member (journal.generation + 1) (Some (checkpoint_text m))

-- Two images hold the store with this journal, or with the next one, which a checkpoint begins on the other disk.
abbrev pub ThisOrNext : Side → Journal → Store → List ℕ → List ℕ → Type 0
ThisOrNext side journal m a b = StandsOn side journal m a b ⊎ StandsOn (other_side side) (next_journal journal m) m a b

-- What two disks hold after a checkpoint. If the other disk's gate is open and its last write was begun, they hold the
-- next journal. Otherwise they hold this one, and the other disk has what a crash might have left before, or is closed.
abbrev pub Restarted : Side → Journal → Store → Content → Bool → List ℕ → List ℕ → Type 0
Restarted side journal m x opening a b =
    let file = of_live (other_side side) a b in
    ByTest (slice_index_or file 0 0 == 1 && opening) (StandsOn (other_side side) (next_journal journal m) m a b) (StandsOn side journal m a b × (images x file ⊎ (content file ≡ None)))
