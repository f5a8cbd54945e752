-- A checkpoint: the bytes of a whole map.
use Rattle.std.specs.Prelude.{ℕ, ◌<◌, ◌^◌, List, ◌∷◌, ◌++◌, length, IsTrue}
use Rattle.std.specs.List.{flat_map, AllByRecursion}
use Rattle.std.specs.FinMap.{len, entries}
use Rattle.mon_bytes.specs.Texts.{is_name, is_prefix}
use Rattle.mon_bytes.specs.Forms.{u32_bytes}
use Rattle.mon_tx.specs.Map.{Place, Store}
use Rattle.mon_tx.specs.Text.{word}
pub use Rattle.mon_kv.specs.Readers.{most_size}
use Rattle.mon_store.specs.declared.checkpoint.TheConstants.{CHECKPOINT}

abbrev pub Entry : Type 0
Entry = Place × List ℕ

-- a value after its length
abbrev pub value_text : List ℕ → List ℕ
value_text value = u32_bytes (length value) ++ value

abbrev pub entry_text : Entry → List ℕ
entry_text e = word e.0.0 ++ word e.0.1 ++ value_text e.1

-- the byte of a checkpoint, how many entries there are, and the entries in ascending order of prefix and then key
abbrev pub checkpoint_text : Store → List ℕ
checkpoint_text m = CHECKPOINT ∷ u32_bytes (len m) ++ flat_map entry_text (entries m)

-- ---- what has a text

-- a prefix, a key, and a value with a length that fits four bytes
abbrev pub EntryFits : Entry → Type 0
EntryFits e = IsTrue (is_prefix e.0.0) × IsTrue (is_name e.0.1) × (length e.1 < 2 ^ 32)

pub record HasCheckpoint (m : Store) : Type 0 where
  pub each : AllByRecursion EntryFits (entries m)
  pub count : len m < 2 ^ 32
