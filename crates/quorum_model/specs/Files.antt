-- What a monitor's two disks hold, and what is left on them if a call fails.
use Rattle.std.specs.Prelude.{ℕ, ◌+◌, ◌^◌, nat_lt, Bool, ◌&&◌, ◌||◌, List, [], ◌∷◌, length, Option, Some, None, is_some, if◌then◌else◌}
use Rattle.std.specs.FinMap.{entries}
use Rattle.std.specs.List.{sum_by}
use Rattle.std.specs.Option.{option_map}
use Rattle.mon_types.specs.declared.names.Side.{Side}
use Rattle.mon_types.specs.declared.names.Side.TheVariants.{A, B}
use Rattle.mon_journal.specs.declared.journal.TheConstants.{HEADER, RECORD_HEAD}
use Rattle.mon_kv.specs.Chunks.{entry_len}
use Rattle.mon_kv.specs.Readers.{is_outgrown}
use Rattle.mon_tx.specs.declared.op.Op.{Op}
use Rattle.mon_tx.specs.Map.{Store}
use Rattle.mon_tx.specs.Text.{text}

-- an open file: its generation, and the place of its first closed gate, after which the next record is written
pub record File : Type 0 where
  pub generation : ℕ
  pub gate : ℕ

-- The open file of each disk. A disk that is empty, or whose header's gate isn't open, has none.
pub record Files : Type 0 where
  pub a : Option File
  pub b : Option File

abbrev pub no_files : Files
no_files = record { a = None; b = None }

abbrev pub file_on : Side → Files → Option File
file_on A f = f.a
file_on B f = f.b

abbrev pub with_file : Side → Option File → Files → Files
with_file A file f = record { a = file; b = f.b }
with_file B file f = record { a = f.a; b = file }

-- ---- which disk is live

-- The live disk is that of the open file; of two open files, that of the greater generation. A new store is created on
-- disk a.
abbrev pub live_of : Option File → Option File → Side
live_of None None = A
live_of (Some a) None = A
live_of None (Some b) = B
live_of (Some a) (Some b) = if nat_lt b.generation a.generation then A else B

abbrev pub live_side : Files → Side
live_side f = live_of f.a f.b

abbrev pub is_created : Files → Bool
is_created f = is_some f.a || is_some f.b

-- ---- what a store's calls leave

-- the place of the gate after a record
abbrev pub gate_after : (gate payload : ℕ) → ℕ
gate_after gate payload = gate + RECORD_HEAD + payload

-- the file of a new store: a header, and no record
abbrev pub first_file : File
first_file = record { generation = 1; gate = HEADER }

-- opening creates the store if no disk has an open file
abbrev pub after_opening : Files → Files
after_opening f = if is_created f then f else with_file A (Some first_file) f

-- the file after a transaction; an empty transaction doesn't change it
abbrev pub file_after : List Op → File → File
file_after [] f = f
file_after (op ∷ ops) f = record { generation = f.generation; gate = gate_after f.gate (length (text (op ∷ ops))) }

abbrev pub after_append : List Op → Files → Files
after_append ops f = with_file (live_side f) (option_map (file_after ops) (file_on (live_side f) f)) f

-- How many bytes a checkpoint of a map has: one that marks it, four for the number of its entries, and the entries.
abbrev pub checkpoint_length : Store → ℕ
checkpoint_length m = 5 + sum_by entry_len (entries m)

-- A checkpoint of a map is due if the live file, up to and with its first closed gate, is longer than 1,048,576 bytes
-- and than four times the map's size. No generation passes 2^62. A checkpoint is also due for a file with the first
-- form of header, but no file of a run from empty disks has that form.
abbrev pub is_due : File → Store → Bool
is_due f m = nat_lt f.generation (2 ^ 62) && is_outgrown (f.gate + 1) m

-- the file that a checkpoint of a map makes: its one record is the map, and its generation is the next one
abbrev pub checkpoint : File → Store → File
checkpoint f m = record { generation = f.generation + 1; gate = gate_after HEADER (checkpoint_length m) }
