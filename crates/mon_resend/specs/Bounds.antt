-- How much is kept.
use Rattle.std.specs.Prelude.{ℕ, ◌≤◌, Bool, List, length}
use Rattle.std.specs.List.{sum_by, AllByRecursion}
use Rattle.mon_resend.specs.declared.copies.Copies.{Copies}
use Rattle.mon_resend.specs.declared.shelf.Kept.{Kept}
use Rattle.mon_resend.specs.declared.shelf.TheConstants.{MOST_KEPT, MOST_KEPT_BYTES}
use Rattle.mon_resend.specs.World.{fresh, sent, arrived, all_passed}

-- at most 160 datagrams, of 6 MiB in all
pub record IsWithin (kept : List Kept) : Type 0 where
  pub datagrams : length kept ≤ MOST_KEPT
  pub bytes : sum_by (λ k. length k.out.bytes) kept ≤ MOST_KEPT_BYTES

-- for each monitor
abbrev pub AreWithin : Copies → Type 0
AreWithin c = AllByRecursion (λ b. IsWithin b.shelf) c.boxes

-- The bounds hold at first, and after each step.
pub record StaysWithin : Type 0 where
  pub at_first : AreWithin fresh
  pub sends : (memory : Bool) (rank : ℕ) (bytes : List ℕ) (now : ℕ) (c : Copies) → AreWithin c → AreWithin (sent memory rank bytes now c)
  pub hears : (memory : Bool) (rank : ℕ) (bytes : List ℕ) (now : ℕ) (c : Copies) → AreWithin c → AreWithin (arrived memory rank bytes now c)
  pub passes : (again : Bool) (now : ℕ) (c : Copies) → AreWithin c → AreWithin (all_passed again now c)
