-- What a clock shows.
use Rattle.std.specs.Prelude.{ℕ, List, [], ◌∷◌}

-- the times that a clock shows next, one at each reading, and the one that it showed last
pub record Readings : Type 0 where
  pub next : List ℕ
  pub last : ℕ

-- after the last time, that one is shown again
abbrev pub reading_of : List ℕ → ℕ → ℕ
reading_of [] last = last
reading_of (m ∷ ms) last = m

abbrev pub reading : Readings → ℕ
reading r = reading_of r.next r.last

abbrev pub others : List ℕ → List ℕ
others [] = []
others (m ∷ ms) = ms

-- the readings that are left after one
abbrev pub after : Readings → Readings
after r = record { next = others r.next; last = reading r }
