-- How entries and maps are encoded, and which of them have an encoding.
use Rattle.std.specs.Prelude.{◌≡◌, ℕ, ◌+◌, ◌<◌, ◌≤◌, ◌^◌, List, [], ◌∷◌, ◌++◌, length, IsTrue}
use Rattle.std.specs.List.{flat_map, AllByRecursion}
use Rattle.std.specs.Str.{is_utf8}
use Rattle.mon_bytes.specs.Forms.{u32_bytes, text_bytes}
use Rattle.map_log.specs.declared.inc.LogInc.{LogInc}

-- the rank, and the text after its length
abbrev pub inc_text : LogInc → List ℕ
inc_text inc = inc.rank ∷ text_bytes inc.text

-- how many entries there are, and the entries, the oldest first
abbrev pub map_text : List LogInc → List ℕ
map_text es = u32_bytes (length es) ++ flat_map inc_text es

-- ---- what has a text

-- the rank of a monitor, and UTF-8 with a length that fits four bytes
abbrev pub IncFits : LogInc → Type 0
IncFits inc = (inc.rank ≤ 14) × IsTrue (is_utf8 inc.text) × (length inc.text < 2 ^ 32)

pub record MapFits (es : List LogInc) : Type 0 where
  pub each : AllByRecursion IncFits es
  pub count : length es < 2 ^ 32

-- What encoding requires of an entry or a map: the lengths. Every value of the types meets the rest of the form.
abbrev pub IncIsShort : LogInc → Type 0
IncIsShort inc = length inc.text < 2 ^ 32

pub record MapIsShort (es : List LogInc) : Type 0 where
  pub each : AllByRecursion IncIsShort es
  pub count : length es < 2 ^ 32

-- ---- how many bytes that takes

abbrev pub inc_size : LogInc → ℕ
inc_size inc = length inc.text + 5

abbrev pub size_of : List LogInc → ℕ
size_of [] = 0
size_of (inc ∷ es) = inc_size inc + size_of es

-- the rank of a monitor and a text
abbrev pub IsEntry : LogInc → Type 0
IsEntry inc = (inc.rank ≤ 14) × IsTrue (is_utf8 inc.text)

-- entries, and the size of the map's text, at most 2^62 since no memory holds more
pub record IsKept (es : List LogInc) (size : ℕ) : Type 0 where
  pub each : AllByRecursion IsEntry es
  pub sum : size ≡ 4 + size_of es
  pub most : size ≤ 2 ^ 62
