-- Proposal numbers.
use Rattle.std.specs.Prelude.{ℕ, ◌+◌, ◌*◌, ◌/◌, max}

-- the number that a rank takes above two others
abbrev pub next_number : ℕ → ℕ → ℕ → ℕ
next_number last gt rank = (max last gt / 100 + 1) * 100 + rank
