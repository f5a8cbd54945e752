-- How incrementals and maps are encoded, and which of them have an encoding.
use Rattle.std.specs.Prelude.{ℕ, ◌<◌, ◌^◌, List, ◌∷◌, ◌++◌, length, IsTrue}
use Rattle.std.specs.List.{flat_map, AllByRecursion}
use Rattle.std.specs.Str.{is_utf8}
use Rattle.std.specs.FinMap.{len, entries}
use Rattle.mon_bytes.specs.Texts.{is_name}
use Rattle.mon_bytes.specs.Forms.{u32_bytes, text_bytes}
use Rattle.map_kv.specs.Map.{Kv}
use Rattle.map_kv.specs.declared.inc.KvInc.{KvInc}
use Rattle.map_kv.specs.declared.inc.KvInc.TheVariants.{Set, Remove}

-- a key after its length
abbrev pub key_text : List ℕ → List ℕ
key_text key = length key ∷ key

-- the kind, and its fields
abbrev pub inc_text : KvInc → List ℕ
inc_text (Set key value) = 1 ∷ (key_text key ++ text_bytes value)
inc_text (Remove key) = 2 ∷ key_text key

abbrev pub entry_text : List ℕ × List ℕ → List ℕ
entry_text e = key_text e.0 ++ text_bytes e.1

-- how many entries there are, and the entries in ascending order of key
abbrev pub map_text : Kv → List ℕ
map_text m = u32_bytes (len m) ++ flat_map entry_text (entries m)

-- ---- what has a text

-- a name, and UTF-8 with a length that fits four bytes
abbrev pub EntryFits : List ℕ × List ℕ → Type 0
EntryFits e = IsTrue (is_name e.0) × IsTrue (is_utf8 e.1) × (length e.1 < 2 ^ 32)

abbrev pub IncFits : KvInc → Type 0
IncFits (Set key value) = EntryFits (key, value)
IncFits (Remove key) = IsTrue (is_name key)

pub record MapFits (m : Kv) : Type 0 where
  pub each : AllByRecursion EntryFits (entries m)
  pub count : len m < 2 ^ 32

-- What encoding requires of an incremental or a map: the lengths. Every value of the types meets the rest of the form.
abbrev pub IncIsShort : KvInc → Type 0
IncIsShort (Set key value) = length value < 2 ^ 32
IncIsShort (Remove key) = Unit {0}

abbrev pub IsShort : List ℕ × List ℕ → Type 0
IsShort e = length e.1 < 2 ^ 32

pub record MapIsShort (m : Kv) : Type 0 where
  pub each : AllByRecursion IsShort (entries m)
  pub count : len m < 2 ^ 32
