-- Reading from left to right.
use Rattle.std.specs.Prelude.{◌≡◌, ℕ, ◌+◌, ◌<◌, List, ◌++◌, length, take, drop, get_or, Result, Ok, Err, nat_lt, if◌then◌else◌}
use Rattle.byteorder.specs.Endian.{little_number}
use Rattle.mon_bytes.specs.declared.cursor.Short.{Short}

-- each number of the list is a byte
abbrev pub IsBytes : List ℕ → Type 0
IsBytes bytes = (i : ℕ) → get_or bytes i 0 < 256

-- how many bytes were read, and those that are left
pub record Reading : Type 0 where
  pub at : ℕ
  pub rest : List ℕ

abbrev pub moved : ℕ → Reading → Reading
moved n c = record { at = c.at + n; rest = drop n c.rest }

-- the next n bytes, or the place where they are cut
abbrev pub next_bytes : ℕ → Reading → Result (List ℕ × Reading) Short
next_bytes n c = if nat_lt (length c.rest) n then Err (record { at = c.at }) else Ok (take n c.rest, moved n c)

-- the number in the next n bytes, the lowest first
abbrev pub number : ℕ → Reading → Result (ℕ × Reading) Short
number n c = if nat_lt (length c.rest) n then Err (record { at = c.at }) else Ok (little_number n (take n c.rest), moved n c)

-- A call on a cursor returned what is `wanted`, and moved the cursor there. A refused call doesn't move the cursor.
abbrev pub Steps : {X Y : Type 0} → (X → Y) → Result X Short → Reading → Reading → Result (Y × Reading) Short → Type 0
Steps view (Ok x) old new wanted = wanted ≡ Ok (view x, new)
Steps view (Err e) old new wanted = (wanted ≡ Err e) × (new ≡ old)

-- what a reader took from the front
pub record Takes (c : Reading) (taken : List ℕ) (after : Reading) : Type 0 where
  pub parts : c.rest ≡ taken ++ after.rest
  pub bytes : IsBytes after.rest

-- a reader reads this value, and the rest is left
abbrev pub Found : {A E : Type 0} → Result (A × Reading) E → A → List ℕ → Type 0
Found read x rest = (after : Reading) × (after.rest ≡ rest) × (read ≡ Ok (x, after))
